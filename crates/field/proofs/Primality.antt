-- That a number is prime, by trial division: a test that antt computes.
use mathlib.Core.Path.{◌≡◌, refl, sym, ap, subst, ◌∙◌}
use mathlib.Core.Bool.{Bool, true, false}
use mathlib.Core.Logic.{◌≢◌}
use Prim.Native.Nat.{ℕ, zero, suc, ◌+◌, ◌*◌, ◌/◌, ◌%◌, ◌-◌, ◌<◌, ◌≤◌}
use native.Mathlib.Nat.{add-zero, suc-add, add-suc, le_of_suc-le-suc, not-suc-le-zero, div-add-mod, mul-le-mul, mul-mod_left, lt_of_not-le, mul-le-mul_left}
use native.Mathlib.Omega.{arith}
use native.Mathlib.Decide.{dec_lt}
use lib.Dec.{T, eqb}
use Rattle.field.specs.Prime.{Prime, P}

-- none of the k numbers from d on divides p
unfoldable pub none_from : ℕ → ℕ → ℕ → Bool
none_from p zero d = true
none_from p (suc k) d = elim (eqb (p % d) 0) [ true ↦ false | false ↦ none_from p k (suc d) ]

step : (p k d : ℕ) → T (none_from p (suc k) d) → (p % d ≢ 0) × T (none_from p k (suc d))
unfolding none_from
step p k d t = go (eqb (p % d) 0) refl t
  where
    go : (b : Bool) → eqb (p % d) 0 ≡ b → T (elim b as (λ _. Bool) [ true ↦ false | false ↦ none_from p k (suc d) ]) → (p % d ≢ 0) × T (none_from p k (suc d))
    go true e t = absurd t
    go false e t = ((λ z. subst T (sym (ap (λ (n : ℕ). eqb n 0) z) ∙ e) tt), t)

none-at : (p k d i : ℕ) → i < k → T (none_from p k d) → p % (d + i) ≢ 0
none-at p zero d i h t = absurd (not-suc-le-zero h)
none-at p (suc k) d zero h t = rw add-zero (step p k d t).0
none-at p (suc k) d (suc i) h t = rw (add-suc, ← suc-add) (none-at p k (suc d) i (le_of_suc-le-suc h) (step p k d t).1)

-- a number whose square is above p's last tested divisor needs no test: the other factor is smaller
pub prime-by : (p k : ℕ) → 1 < p → p < (k + 2) * (k + 2) → T (none_from p k 2) → Prime p
prime-by p k above small t = record { above = above; only = only }
  where
    low : (d : ℕ) → 1 < d → d < k + 2 → p % d ≢ 0
    low d h l = subst (λ (n : ℕ). p % n ≢ 0) (omega arith) (none-at p k 2 (d - 2) (omega arith) t)

    only : (d : ℕ) → 1 < d → d < p → p % d ≢ 0
    only d h l z = go (dec_lt d (k + 2))
      where
        whole : d * (p / d) ≡ p
        whole = omega (arith, div-add-mod p d, z)

        go : Dec (d < k + 2) → ⊥
        go (yes s) = low d h s z
        go (no s) =
            low (p / d) (lt_of_not-le (λ (le : p / d ≤ 1). omega (arith, mul-le-mul_left d le, whole)))
            (lt_of_not-le (λ (le : k + 2 ≤ p / d). let ge : k + 2 ≤ d = omega arith in omega (arith, mul-le-mul ge le, whole)))
            (subst (λ (n : ℕ). n % (p / d) ≡ 0) whole (mul-mod_left d (p / d)))

pub P-prime : Prime P
unfolding none_from
P-prime = prime-by P 46340 (omega arith) (omega arith) tt

pub P-above : 0 < P
P-above = omega arith

pub P-odd : P % 2 ≡ 1
P-odd = refl
