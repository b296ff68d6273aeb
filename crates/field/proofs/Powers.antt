-- Powers, for any prime p: with sums of exponents, of the exponents 0 and 1, and what `^` answers by the sign of its exponent.
-- Assumes nothing.
use mathlib.Core.Path.{◌≡◌, refl, sym, ap, ap₂, ◌∙◌}
use Prim.Native.Nat.{ℕ, suc, ◌+◌, ◌*◌, ◌^◌, ◌%◌, ◌<◌}
use native.Mathlib.Nat.{pow-zero, pow-suc, one-mul, mul-zero, zero-mod, pos_of_ne-zero, mod-eq_of_lt}
use native.Mathlib.Omega.{arith}
use native.Mathlib.Decide.{ℕ_discrete}
use lib.Pow.{pow-add}
use lib.Dec.{eqb}
use lib.IntN.{ℤ, pos, negsuc}
use Rattle.std.specs.Prelude.{Some, None}
use Rattle.field.specs.declared.InfixOp.TheVariants.{Divide, Multiply, Exponentiate}
use Rattle.field.specs.Prime.{Prime}
use Rattle.field.specs.Element.{res, centre, elem}
use Rattle.field.specs.Operations.{pick, product, inverse, quotient, power, divide_of, exponentiate_of, infix_of}
use Rattle.field.proofs.Modular.{mod-mul-mod, mul-mod-mod, power_pos}
use Rattle.field.proofs.Elements.{res-lt, elem-one}
use Rattle.field.proofs.ByResidues.{product-res, res-power, pick-zero, pick-else, power-above, power_below}
use Rattle.field.proofs.Laws.{product-commutes, product-one, product-left}
use Rattle.field.proofs.Answers.{inverse-element}
use Rattle.field.proofs.Values.{multiply-answer}

module _ (p : ℕ) (prime : Prime p) where
  above : 0 < p
  above = omega (arith, prime.above)

  power-is : (a : ℤ) (n : ℕ) → centre p (res p a ^ n % p) ≡ power p a n
  unfolding power
  power-is a n = refl

  -- the product of two powers is the power of the exponents' sum
  pub power-sum : (a : ℤ) (m n : ℕ) → product p (power p a m) (power p a n) ≡ power p a (m + n)
  power-sum a m n =
      product-res p above (power p a m) (power p a n)
      ∙ ap₂ (λ (k l : ℕ). centre p ((k * l) % p)) (res-power p prime a m) (res-power p prime a n)
      ∙ ap (centre p)
      (mod-mul-mod p (res p a ^ m) (res p a ^ n % p)
      ∙ mul-mod-mod p (res p a ^ m) (res p a ^ n)
      ∙ ap (λ (k : ℕ). k % p) (sym (pow-add (res p a) m n)))
      ∙ power-is a (m + n)

  pub power-one : (a : ℤ) → power p a 1 ≡ elem p a
  unfolding power elem
  power-one a =
      ap (λ (k : ℕ). centre p (k % p)) (pow-suc (res p a) 0 ∙ ap (λ (k : ℕ). k * res p a) (pow-zero (res p a)) ∙ one-mul (res p a))
      ∙ ap (centre p) (mod-eq_of_lt (res-lt p above a))

  -- also for 0
  pub power_zero : (a : ℤ) → power p a 0 ≡ pos 1
  unfolding power elem res
  power_zero a = ap (λ (k : ℕ). centre p (k % p)) (pow-zero (res p a)) ∙ elem-one p above prime.above

  -- as `*` answers
  pub multiply-powers : (a : ℤ) (m n : ℕ) → infix_of p Multiply (power p a m) (power p a n) ≡ Some (power p a (m + n))
  multiply-powers a m n = multiply-answer p _ _ ∙ ap Some (power-sum a m n)

  pub multiply-base : (a : ℤ) (n : ℕ) → infix_of p Multiply (power p a n) a ≡ Some (power p a (n + 1))
  multiply-base a n =
      multiply-answer p _ _
      ∙ ap Some
      (product-commutes p prime (power p a n) a
      ∙ sym (product-left p prime a (power p a n))
      ∙ product-commutes p prime (elem p a) (power p a n)
      ∙ ap (product p (power p a n)) (sym (power-one a))
      ∙ power-sum a n 1)

  -- a power of 0 is 0, of others not
  zero-power : (a : ℤ) (n : ℕ) → res p a ≡ 0 → res p (power p a (suc n)) ≡ 0
  zero-power a n e =
      res-power p prime a (suc n)
      ∙ ap (λ (k : ℕ). k % p) (pow-suc (res p a) n ∙ ap (λ (k : ℕ). res p a ^ n * k) e ∙ mul-zero (res p a ^ n))
      ∙ zero-mod p

  power-counts : (a : ℤ) (n : ℕ) → (res p a ≡ 0 → ⊥) → res p (power p a n) ≡ 0 → ⊥
  power-counts a n h e =
      omega (arith, power_pos p prime (res p a) n (pos_of_ne-zero h) (res-lt p above a), sym (res-power p prime a n) ∙ e)

  -- the inverse as a quotient
  pub one-over : (b : ℤ) → quotient p (pos 1) b ≡ inverse p b
  unfolding quotient
  one-over b = product-commutes p prime (pos 1) (inverse p b) ∙ product-one p prime (inverse p b) ∙ inverse-element p prime b

  module _ (a b : ℤ) (n : ℕ) where
    -- `^` with an exponent from 0 on
    pub power-natural : elem p b ≡ pos n → infix_of p Exponentiate a b ≡ Some (power p a n)
    unfolding infix_of exponentiate_of
    power-natural e = power-above p a (elem p b) n e

    -- and with one below 0: 1 over the positive power, without value for 0
    pub power-negative : elem p b ≡ negsuc n → infix_of p Exponentiate a b ≡ infix_of p Divide (pos 1) (power p a (suc n))
    unfolding infix_of exponentiate_of divide_of
    power-negative e = power_below p a (elem p b) n e ∙ go (ℕ_discrete (res p a) 0)
      where
        go :
            Dec (res p a ≡ 0) →
            pick (eqb (res p a) 0) None (Some (inverse p (power p a (suc n)))) ≡ divide_of p (pos 1) (power p a (suc n))
        go (yes z) = pick-zero (res p a) _ _ z ∙ sym (pick-zero (res p (power p a (suc n))) _ _ (zero-power a n z))
        go (no z) =
            pick-else (res p a) _ _ z
            ∙ ap Some (sym (one-over (power p a (suc n))))
            ∙ sym (pick-else (res p (power p a (suc n))) _ _ (power-counts a (suc n) z))
