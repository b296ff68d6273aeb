-- Sums over the indices below a count, and sums weighed by how often an index is used. Assumes nothing.
use Prim.Native.Nat.{ℕ, zero, suc, ◌+◌, ◌*◌, ◌≤◌, ◌<◌}
use mathlib.Core.Path.{◌≡◌, refl, sym, ap, ap₂, ◌∙◌}
use mathlib.Core.Bool.{Bool, true, false}
use mathlib.Core.Logic.{⊎_elim}
use native.Mathlib.Nat.{add-mul, one-mul, zero-mul}
use native.Mathlib.Omega.{arith}
use Rattle.marks.specs.Indices.{total, pick, same}
use Rattle.marks.proofs.Indices.{same-no, same-yes}
use Rattle.std.proofs.lemmas.Bool.{cases_eq}

pub total-same : (n : ℕ) (f g : ℕ → ℕ) → ((k : ℕ) → k < n → f k ≡ g k) → total n f ≡ total n g
unfolding total
total-same zero f g h = refl
total-same (suc n) f g h = ap₂ (λ (x y : ℕ). x + y) (total-same n f g (λ k l. h k (omega arith))) (h n (omega arith))

pub total-zero : (n : ℕ) → total n (λ _. 0) ≡ 0
unfolding total
total-zero zero = refl
total-zero (suc n) = omega (arith, total-zero n)

pub total-sum : (n : ℕ) (f g : ℕ → ℕ) → total n (λ k. f k + g k) ≡ total n f + total n g
unfolding total
total-sum zero f g = refl
total-sum (suc n) f g = omega (arith, total-sum n f g)

-- a sum times a number
pub total-times : (n : ℕ) (f : ℕ → ℕ) (x : ℕ) → total n f * x ≡ total n (λ k. f k * x)
unfolding total
total-times zero f x = zero-mul x
total-times (suc n) f x = add-mul (total n f) (f n) x ∙ ap (λ (y : ℕ). y + f n * x) (total-times n f x)

-- sums in either order
pub total-exchange : (n m : ℕ) (f : ℕ → ℕ → ℕ) → total n (λ k. total m (λ j. f j k)) ≡ total m (λ j. total n (λ k. f j k))
unfolding total
total-exchange zero m f = sym (total-zero m)
total-exchange (suc n) m f =
    ap (λ (x : ℕ). x + total m (λ j. f j n)) (total-exchange n m f) ∙ sym (total-sum m (λ j. total n (λ k. f j k)) (λ j. f j n))

-- terms that are 0 past k
pub total-extend : (n k : ℕ) (f : ℕ → ℕ) → k ≤ n → ((c : ℕ) → k ≤ c → f c ≡ 0) → total k f ≡ total n f
unfolding total
total-extend zero k f l h = let e : k ≡ 0 = omega arith in ap (λ (m : ℕ). total m f) e
total-extend (suc n) k f l h =
    ⊎_elim
    (λ (e : k ≡ suc n). ap (λ (m : ℕ). total m f) e)
    (λ (e : k ≡ suc n → ⊥). omega (arith, total-extend n k f (omega arith) h, h n (omega arith)))
    (cases_eq k (suc n))

same_here : (x k w : ℕ) → x ≡ k → same x k * w ≡ w
same_here x k w e = ap (λ (n : ℕ). n * w) (same-yes x k e) ∙ one-mul w

same-else : (x k w : ℕ) → (x ≡ k → ⊥) → same x k * w ≡ 0
same-else x k w e = ap (λ (n : ℕ). n * w) (same-no x k e) ∙ zero-mul w

nowhere : (n x : ℕ) (w : ℕ → ℕ) → n ≤ x → total n (λ k. same x k * w k) ≡ 0
nowhere n x w h = total-same n _ _ (λ k l. same-else x k (w k) (λ e. omega arith)) ∙ total-zero n

-- the one k that is x
pub once : (n x : ℕ) (w : ℕ → ℕ) → x < n → total n (λ k. same x k * w k) ≡ w x
unfolding total
once zero x w h = absurd (omega arith)
once (suc n) x w h =
    ⊎_elim
    (λ (e : x ≡ n). omega (arith, nowhere n x w (omega arith), same_here x n (w n) e, ap w e))
    (λ (f : x ≡ n → ⊥). omega (arith, once n x w (omega arith), same-else x n (w n) f))
    (cases_eq x n)

-- at most one index below n is j
pub one_at_most : (n j : ℕ) → total n (same j) ≤ 1
unfolding total
one_at_most zero j = omega arith
one_at_most (suc n) j =
    ⊎_elim
    (λ (e : j ≡ n). let z : total n (same j) ≡ 0 = total-same n _ _ (λ k l. same-no j k (λ q. omega arith)) ∙ total-zero n in
    omega (arith, same-yes j n e))
    (λ (f : j ≡ n → ⊥). omega (arith, one_at_most n j, same-no j n f))
    (cases_eq j n)

-- a choice weighed
pub total-pick : (n : ℕ) (t : Bool) (f w : ℕ → ℕ) → total n (λ k. pick t 0 (f k) * w k) ≡ pick t 0 (total n (λ k. f k * w k))
unfolding pick
total-pick n true f w = total-same n _ _ (λ k l. zero-mul (w k)) ∙ total-zero n
total-pick n false f w = refl

pub total-add : (n : ℕ) (f g w : ℕ → ℕ) → total n (λ k. (f k + g k) * w k) ≡ total n (λ k. f k * w k) + total n (λ k. g k * w k)
total-add n f g w = total-same n _ _ (λ k l. add-mul (f k) (g k) (w k)) ∙ total-sum n (λ k. f k * w k) (λ k. g k * w k)

pub total-none : (n : ℕ) (w : ℕ → ℕ) → total n (λ k. 0 * w k) ≡ 0
total-none n w = total-same n _ _ (λ k l. zero-mul (w k)) ∙ total-zero n

-- a list of m uses
pub used-by : (n m : ℕ) (root w : ℕ → ℕ) → ((j : ℕ) → j < m → root j < n) → total n (λ k. total m (λ j. same (root j) k) * w k) ≡ total m (λ j. w (root j))
used-by n m root w below =
    total-same n _ _ (λ k l. total-times m (λ j. same (root j) k) (w k))
    ∙ total-exchange n m (λ j k. same (root j) k * w k)
    ∙ total-same m _ _ (λ j l. once n (root j) w (below j l))
