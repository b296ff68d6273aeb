-- Marks: what a use, a sum of uses, and the end's test say. Assumes nothing.
use Prim.Native.Nat.{ℕ, zero, suc, ◌+◌, ◌≤◌, ◌<◌}
use mathlib.Core.Path.{◌≡◌, refl, sym, ap, ◌∙◌}
use mathlib.Core.List.{List}
use mathlib.Core.Logic.{⊎_elim}
use native.Mathlib.Omega.{arith}
use lib.ListN.{length, get_or, length-set, length-replicate}
use lib.Seq.{get_or-set_same, get_or-set_other}
use lib.Dec.{eqb}
use Rattle.std.proofs.lemmas.Bool.{cases_eq, ne_eqb}
use Rattle.marks.specs.declared.Uses.{Uses}
use Rattle.marks.specs.declared.Uses.TheVariants.{Never}
use Rattle.marks.specs.Indices.{every, same}
use Rattle.marks.specs.Marks.{mark_of, more, is_once, no_marks, used, all_once, Marked, Adds}
use Rattle.marks.proofs.Indices.{every-front, every-same, same-yes, same-no}

marked : (n : ℕ) → more (mark_of n) ≡ mark_of (suc n)
unfolding more mark_of
marked zero = refl
marked (suc zero) = refl
marked (suc (suc n)) = refl

once : (n : ℕ) → is_once (mark_of n) ≡ eqb n 1
unfolding is_once mark_of
once zero = refl
once (suc zero) = refl
once (suc (suc n)) = sym (ne_eqb (suc (suc n)) 1 (λ e. omega arith))

-- ---- one use

adds_one : (m : List Uses) (x : ℕ) → Adds m (used m x) (same x)
unfolding used
adds_one m x = record {
  long = length-set m x (more (get_or m x Never));
  adds = λ f h k l. let l' : k < length m = simp length-set at l in
      ⊎_elim
      (λ (e : x ≡ k). let q : f k + same x k ≡ suc (f k) = omega (arith, same-yes x k e) in
      rw (q, e) (get_or-set_same m k (more (get_or m k Never)) Never l' ∙ ap more (h k l') ∙ marked (f k)))
      (λ (n : x ≡ k → ⊥). let q : f k + same x k ≡ f k = omega (arith, same-no x k n) in
      rw q (get_or-set_other m x k (more (get_or m x Never)) Never (λ e. n (sym e)) ∙ h k l'))
      (cases_eq x k);
}

pub adds-use : {m m' : List Uses} (x : ℕ) → m' ≡ used m x → Adds m m' (same x)
adds-use {m} x e = rw e (adds_one m x)

-- ---- no use, one after the other, the same use said otherwise

pub adds_none : (m : List Uses) (g : ℕ → ℕ) → ((k : ℕ) → g k ≡ 0) → Adds m m g
adds_none m g z = record { long = refl; adds = λ f h k l. h k l ∙ ap mark_of (omega (arith, z k)) }

pub adds-more : {m m' m'' : List Uses} {g h : ℕ → ℕ} (g' : ℕ → ℕ) → Adds m m' g → Adds m' m'' h → ((k : ℕ) → g' k ≡ g k + h k) → Adds m m'' g'
adds-more {g = g} {h = h} g' a b e = record {
  long = b.long ∙ a.long;
  adds = λ f p k l. b.adds (λ j. f j + g j) (a.adds f p) k l ∙ ap mark_of (omega (arith, e k));
}

pub adds_same : {m m' : List Uses} {g : ℕ → ℕ} (g' : ℕ → ℕ) → Adds m m' g → ((k : ℕ) → g' k ≡ g k) → Adds m m' g'
adds_same {g = g} g' a e = record { long = a.long; adds = λ f p k l. a.adds f p k l ∙ ap mark_of (omega (arith, e k)) }

-- ---- from no marks to the end's test

marks-none : (n : ℕ) → Marked (no_marks n) (λ k. 0)
unfolding no_marks mark_of
marks-none zero k l = refl
marks-none (suc n) zero l = refl
marks-none (suc n) (suc k) l = marks-none n k (omega arith)

-- of marks that hold a count of uses, and of those after f uses of N unused nodes
pub marks-once : (m : List Uses) (n : ℕ) (f : ℕ → ℕ) → n ≤ length m → Marked m f → all_once m n ≡ every n (λ k. eqb (f k) 1)
unfolding all_once
marks-once m n f l h =
    every-front is_once m Never n l
    ∙ every-same n _ _ (λ k g. let w : k < length m = omega arith in ap is_once (h k w) ∙ once (f k))

pub counted-once : {m m' : List Uses} {N : ℕ} (n : ℕ) (f : ℕ → ℕ) → n ≤ N → m ≡ no_marks N → Adds m m' f → all_once m' n ≡ every n (λ k. eqb (f k) 1)
unfolding no_marks
counted-once {m} {m'} {N} n f l z a =
    let w : Marked m (λ k. 0) = rw z (marks-none N) in
    let long : length m' ≡ N = a.long ∙ ap length z ∙ length-replicate N Never in
    let e : (k : ℕ) → 0 + f k ≡ f k = λ k. omega arith in
    marks-once m' n (λ k. 0 + f k) (omega arith) (a.adds (λ k. 0) w) ∙ every-same n _ _ (λ k h. ap (λ (x : ℕ). eqb x 1) (e k))
