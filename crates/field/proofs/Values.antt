-- Where an operation has a value, for any prime p: the parts above cite these laws and open no definition of an operation.
-- Assumes nothing.
use mathlib.Core.Path.{◌≡◌, refl, sym, ap, ◌∙◌}
use mathlib.Core.Logic.{◌↔◌}
use Prim.Native.Nat.{ℕ, ◌<◌}
use native.Mathlib.Omega.{arith}
use native.Mathlib.Decide.{ℕ_discrete}
use lib.Dec.{eqb}
use lib.IntN.{ℤ, pos, negsuc}
use Rattle.std.specs.Prelude.{Some, None}
use Rattle.field.specs.declared.InfixOp.{InfixOp}
use Rattle.field.specs.declared.InfixOp.TheVariants.{Divide, DivideZ, Multiply, Add, Subtract, Equal, Exponentiate, IntDivide, Modulo}
use Rattle.field.specs.Prime.{Prime}
use Rattle.field.specs.Element.{res, elem}
use Rattle.field.specs.Operations.{pick, sum, difference, product, raised, divide_of, divide_z_of, int_divide_of, modulo_of, exponentiate_of, infix_of}
use Rattle.field.specs.Operations.{HasValue, HasValueWhere}
use Rattle.field.proofs.Elements.{elem-zero, zero-elem}
use Rattle.field.proofs.ByResidues.{pick-zero, pick-else}
use Rattle.field.proofs.Answers.{nothing-value}

-- products, sums and differences have one always, `=` never
module _ (p : ℕ) (a b : ℤ) where
  pub multiply-answer : infix_of p Multiply a b ≡ Some (product p a b)
  unfolding infix_of
  multiply-answer = refl

  pub add-answer : infix_of p Add a b ≡ Some (sum p a b)
  unfolding infix_of
  add-answer = refl

  pub subtract-answer : infix_of p Subtract a b ≡ Some (difference p a b)
  unfolding infix_of
  subtract-answer = refl

  pub equal-answer : infix_of p Equal a b ≡ None
  unfolding infix_of
  equal-answer = refl

module _ (p : ℕ) (prime : Prime p) where
  above : 0 < p
  above = omega (arith, prime.above)

  -- an element that is not 0 by its value
  pub not-zero-value : (b : ℤ) → elem p b ≡ b → (Some b ≡ Some (pos 0) → ⊥) → elem p b ≡ pos 0 → ⊥
  not-zero-value b c h e = h (ap Some (sym c ∙ e))

  -- an answer that is none at 0
  none_at_zero : (b w : ℤ) → HasValue (pick (eqb (res p b) 0) None (Some w)) ↔ (elem p b ≡ pos 0 → ⊥)
  none_at_zero b w = (
    (λ v e. nothing-value v.0 (sym (pick-zero (res p b) _ _ (zero-elem p above b e)) ∙ v.1)),
    (λ h. (w, pick-else (res p b) _ _ (λ r. h (elem-zero p above b r)))),
  )

  raised-valued : (a n : ℤ) → HasValue (raised p a n) ↔ ((m : ℕ) → n ≡ negsuc m → elem p a ≡ pos 0 → ⊥)
  unfolding raised
  raised-valued a (pos n) = ((λ v m e. absurd (let o : ◌≡◌ {A = ℕ} 0 1 = cc in omega arith)), (λ h. (_, refl)))
  raised-valued a (negsuc n) = ((λ v m e. (none_at_zero a _).0 v), (λ h. (none_at_zero a _).1 (h n refl)))

  module _ (a b : ℤ) where
    -- `/`, `\` and `%` have a value just if the divisor is not 0
    pub divide-valued : HasValue (infix_of p Divide a b) ↔ (elem p b ≡ pos 0 → ⊥)
    unfolding infix_of divide_of
    divide-valued = none_at_zero b _

    pub int-divide-valued : HasValue (infix_of p IntDivide a b) ↔ (elem p b ≡ pos 0 → ⊥)
    unfolding infix_of int_divide_of
    int-divide-valued = none_at_zero b _

    pub modulo-valued : HasValue (infix_of p Modulo a b) ↔ (elem p b ≡ pos 0 → ⊥)
    unfolding infix_of modulo_of
    modulo-valued = none_at_zero b _

    -- a power has one just if it is no negative power of 0
    pub power-valued : HasValue (infix_of p Exponentiate a b) ↔ ((n : ℕ) → elem p b ≡ negsuc n → elem p a ≡ pos 0 → ⊥)
    unfolding infix_of exponentiate_of
    power-valued = raised-valued a (elem p b)

    -- `|` has one just if the divisor is not 0 or the dividend is
    pub divide-z-valued : HasValue (infix_of p DivideZ a b) ↔ (elem p b ≡ pos 0 → elem p a ≡ pos 0)
    unfolding infix_of divide_z_of
    divide-z-valued = (
      (λ v e. zero-there v (zero-elem p above b e)),
      (λ h. go h (ℕ_discrete (res p b) 0)),
    )
      where
        at-zero : res p b ≡ 0 → divide_z_of p a b ≡ pick (eqb (res p a) 0) (Some (pos 0)) None
        at-zero e = pick-zero (res p b) _ _ e

        zero-there : HasValue (divide_z_of p a b) → res p b ≡ 0 → elem p a ≡ pos 0
        zero-there v e = decided (ℕ_discrete (res p a) 0)
          where
            decided : Dec (res p a ≡ 0) → elem p a ≡ pos 0
            decided (yes k) = elem-zero p above a k
            decided (no k) = absurd (nothing-value (v.0) (sym (at-zero e ∙ pick-else (res p a) _ _ k) ∙ v.1))

        go : (elem p b ≡ pos 0 → elem p a ≡ pos 0) → Dec (res p b ≡ 0) → HasValue (divide_z_of p a b)
        go h (yes e) = (pos 0, at-zero e ∙ pick-zero (res p a) _ _ (zero-elem p above a (h (elem-zero p above b e))))
        go h (no e) = (_, pick-else (res p b) _ _ e)

  -- of every operation: it has a value just where the rules say so
  pub has-value-where : HasValueWhere p
  has-value-where a b Divide = divide-valued a b
  has-value-where a b DivideZ = divide-z-valued a b
  has-value-where a b Multiply = ((λ v. tt), (λ h. (_, multiply-answer p a b)))
  has-value-where a b Add = ((λ v. tt), (λ h. (_, add-answer p a b)))
  has-value-where a b Subtract = ((λ v. tt), (λ h. (_, subtract-answer p a b)))
  has-value-where a b Equal = ((λ v. nothing-value (v.0) (sym (equal-answer p a b) ∙ v.1)), (λ h. absurd h))
  has-value-where a b Exponentiate = power-valued a b
  has-value-where a b IntDivide = int-divide-valued a b
  has-value-where a b Modulo = modulo-valued a b
