-- Tests and sums over the indices below a count, as a loop meets them; tests joined by "and"; choices whose test is known. Assumes nothing.
use Prim.Native.Nat.{ℕ, zero, suc, ◌+◌, ◌-◌, ◌≤◌, ◌<◌}
use mathlib.Core.Path.{◌≡◌, refl, sym, ap, ◌∙◌}
use mathlib.Core.Bool.{Bool, true, false, ◌&&◌, and-false, and-true, and_assoc}
use mathlib.Core.List.{List}
use mathlib.Core.Logic.{⊎_elim}
use native.Mathlib.Numerals.{add-one}
use native.Mathlib.Omega.{arith}
use lib.ListN.{length, get_or, take}
use denote.Param.Members.{Mut}
use Rattle.std.proofs.Common.{Option}
use Rattle.std.specs.declared.ops.Range.{Range}
use Rattle.std.specs.Fn.{Called}
use Rattle.std.specs.Iterator.{YieldsThen}
use Rattle.std.specs.Option.{MatchOption}
use Rattle.std.specs.List.{list_all, range_with_len, FoldsTo}
use Rattle.std.proofs.iter.Yields.{nat_range_steps}
use Rattle.std.proofs.lemmas.Iterator.{YieldsList-from_range}
use Rattle.std.proofs.lemmas.Iterator.Search.{all_from_yields_List}
use Rattle.std.proofs.lemmas.Bool.{cases_lt, and_parts, eq-eqb, ne_eqb}
use Rattle.std.proofs.lemmas.List.Folds.{list_all_more}
use Rattle.marks.specs.Indices.{every, total, pick, same}

-- ---- tests joined by "and"

pub and_no : (a b : Bool) → a ≡ false → false ≡ a && b
and_no a b e = rw e

pub and-on : (a : Bool) {b x : Bool} → a ≡ true → x ≡ b → x ≡ a && b
and-on a e q = rw e q

pub and_left : (a b : Bool) → (a && b) ≡ true → a ≡ true
and_left a b e = (and_parts a b e).0

pub and_right : (a b : Bool) → (a && b) ≡ true → b ≡ true
and_right a b e = (and_parts a b e).1

-- ---- a choice whose test is known

pub pick_yes : {A : Type 0} (b : Bool) {a x : A} (c : A) → b ≡ true → x ≡ a → x ≡ pick b a c
unfolding pick
pick_yes b c e q = rw e q

pub pick_no : {A : Type 0} (b : Bool) (a : A) {c x : A} → b ≡ false → x ≡ c → x ≡ pick b a c
unfolding pick
pick_no b a e q = rw e q

-- ---- every index below a count

pub every-none : (p : ℕ → Bool) → every 0 p ≡ true
unfolding every
every-none p = refl

-- one index fails
pub every-fails : (n k : ℕ) (p : ℕ → Bool) → k < n → p k ≡ false → false ≡ every n p
unfolding every
every-fails zero k p l e = absurd (omega arith)
every-fails (suc n) k p l e =
    ⊎_elim (λ (h : k < n). rw (← every-fails n k p h e)) (λ (h : n ≤ k). let q : k ≡ n = omega arith in rw (← q, e, and-false)) (cases_lt k n)

-- one more index passes
pub every_more : (k : ℕ) (p : ℕ → Bool) → every k p ≡ true → p k ≡ true → every (k + 1) p ≡ true
unfolding every
every_more k p h e = rw (add-one, h, e)

-- all have passed
pub every-all : (n k : ℕ) (p : ℕ → Bool) → every k p ≡ true → k ≡ n → true ≡ every n p
every-all n k p h e = sym h ∙ ap (λ (m : ℕ). every m p) e

-- what holds of all holds of one
pub every-at : (n k : ℕ) (p : ℕ → Bool) → every n p ≡ true → k < n → p k ≡ true
unfolding every
every-at zero k p h l = absurd (omega arith)
every-at (suc n) k p h l =
    ⊎_elim (λ (g : k < n). every-at n k p (and_left (every n p) (p n) h) g)
    (λ (g : n ≤ k). let e : k ≡ n = omega arith in rw e (and_right (every n p) (p n) h)) (cases_lt k n)

-- where each passes, all do
pub every-from : (n : ℕ) (p : ℕ → Bool) → ((k : ℕ) → k < n → p k ≡ true) → every n p ≡ true
unfolding every
every-from zero p h = refl
every-from (suc n) p h = rw (every-from n p (λ k l. h k (omega arith)), h n (omega arith))

pub every-same : (n : ℕ) (p q : ℕ → Bool) → ((k : ℕ) → k < n → p k ≡ q k) → every n p ≡ every n q
unfolding every
every-same zero p q h = refl
every-same (suc n) p q h = rw (every-same n p q (λ k l. h k (omega arith)), h n (omega arith))

-- every element of a list's front
pub every-front : {A : Type 0} (p : A → Bool) (xs : List A) (d : A) (n : ℕ) → n ≤ length xs → list_all p (take n xs) ≡ every n (λ k. p (get_or xs k d))
unfolding every
every-front p xs d zero l = refl
every-front p xs d (suc n) l =
    let h : n < length xs = omega arith in
    let e = rw add-one at (list_all_more p xs n d h) in
    e ∙ rw (every-front p xs d n (omega arith))

-- the first index, and the rest
every-first : (n : ℕ) (p : ℕ → Bool) → every (suc n) p ≡ (p 0 && every n (λ k. p (suc k)))
unfolding every
every-first zero p = sym (and-true (p 0))
every-first (suc n) p = rw (every-first n p, and_assoc)

-- every number of a range, tested by `all`
range-all : (n a : ℕ) (p : ℕ → Bool) → list_all p (range_with_len a n) ≡ every n (λ k. p (a + k))
unfolding every
range-all zero a p = refl
range-all (suc n) a p =
    let e : a + 0 ≡ a = omega arith in
    let t : every n (λ k. p (a + 1 + k)) ≡ every n (λ k. p (a + suc k)) = every-same n _ _ (λ k l. let g : a + 1 + k ≡ a + suc k = omega arith in ap p g) in
    rw (range-all n (a + 1) p, t, every-first, e)

module _ {F : Type 0} (g : Mut F (ℕ × Unit {0}) Bool) (s u : Range ℕ) (f : F) (r : Bool) where
  pub every-from_all : (p q : ℕ → Bool) (a b n : ℕ)
      → (xs : List ℕ) × (o : Option ℕ) × (j : F) × YieldsThen nat_range_steps s xs o u × FoldsTo (λ p x q. Called g p (x, tt) true q) f xs j
      × MatchOption o (r ≡ true) (λ x. (r ≡ false) × ((h : F) × Called g j (x, tt) false h))
      → ((x : ℕ) (t : Bool) (h : F) → Called g f (x, tt) t h → (h ≡ f) × (t ≡ p x))
      → s ≡ record { start = a; end = b } → b - a ≡ n → ((k : ℕ) → k < n → p (a + k) ≡ q k) → r ≡ every n q
  every-from_all p q a b n ran test e l same =
      all_from_yields_List p u f r ran (YieldsList-from_range a b n e l) test ∙ range-all n a p ∙ every-same n _ _ same

-- ---- a sum over one index more

pub total-more : (n : ℕ) (f : ℕ → ℕ) → total (n + 1) f ≡ total n f + f n
unfolding total
total-more n f = rw add-one

-- ---- how often an index uses a node

pub same-yes : (x k : ℕ) → x ≡ k → same x k ≡ 1
unfolding same pick
same-yes x k e = rw (eq-eqb x k e)

pub same-no : (x k : ℕ) → (x ≡ k → ⊥) → same x k ≡ 0
unfolding same pick
same-no x k e = rw (ne_eqb x k e)
