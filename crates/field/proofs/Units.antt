-- Operations with 0 and 1, for any prime: what the simplifications of `infix_op` rely on.
-- Assumes nothing.
use mathlib.Core.Path.{◌≡◌, refl, sym, ap, ◌∙◌}
use Prim.Native.Nat.{ℕ, suc, ◌<◌}
use native.Mathlib.Nat.{zero-mul, mod-eq_of_lt}
use native.Mathlib.Omega.{arith}
use native.Mathlib.Decide.{ℕ_discrete}
use lib.Dec.{eqb}
use lib.IntN.{ℤ, pos, negsuc, neg_ℤ, +ℤ_idr, +ℤ_invr}
use Rattle.std.specs.Prelude.{Some}
use Rattle.field.specs.declared.InfixOp.TheVariants.{Divide, DivideZ, Multiply, Add, Subtract, IntDivide, Modulo}
use Rattle.field.specs.Prime.{Prime, P}
use Rattle.field.specs.Element.{res, centre, elem}
use Rattle.field.specs.Operations.{pick, difference, product, quotient, nearest, signed_by, whole_quotient, Answer}
use Rattle.field.specs.Operations.{divide_of, divide_z_of, int_divide_of, modulo_of, infix_of}
use Rattle.field.proofs.Elements.{res-zero, elem-zero, elem-one, elem-elem}
use Rattle.field.proofs.ByResidues.{pick-zero, pick-else}
use Rattle.field.proofs.Laws.{sum-commutes, sum-zero, product-commutes, product-one, quotient-only}

-- of the field's own prime
pub one-element : elem P (pos 1) ≡ pos 1
unfolding elem centre res
one-element = refl

pub zero-element : elem P (pos 0) ≡ pos 0
unfolding elem centre res
zero-element = refl

nearest-one : (m : ℕ) → nearest m 1 ≡ m
unfolding nearest
nearest-one m = omega arith

whole-one : (x : ℤ) → whole_quotient x (pos 1) ≡ x
unfolding whole_quotient signed_by
whole-one (pos m) = ap pos (nearest-one m)
whole-one (negsuc m) = ap (λ (n : ℕ). neg_ℤ (pos n)) (nearest-one (suc m))

-- of any prime
module _ (p : ℕ) (prime : Prime p) where
  above : 0 < p
  above = omega (arith, prime.above)

  zero_is : elem p (pos 0) ≡ pos 0
  zero_is = elem-zero p above (pos 0) (res-zero p above)

  one-counts : res p (pos 1) ≡ 0 → ⊥
  unfolding res
  one-counts e = omega (arith, e, mod-eq_of_lt prime.above)

  by_one : (x z : Answer) → pick (eqb (res p (pos 1)) 0) x z ≡ z
  by_one x z = pick-else (res p (pos 1)) x z one-counts

  zero-times : (y : ℤ) → product p (pos 0) y ≡ pos 0
  unfolding product
  zero-times (pos n) = ap (λ (k : ℕ). elem p (pos k)) (zero-mul n) ∙ zero_is
  zero-times (negsuc n) = ap (λ (k : ℕ). elem p (neg_ℤ (pos k))) (zero-mul (suc n)) ∙ zero_is

  zero-over : (y : ℤ) → (res p y ≡ 0 → ⊥) → quotient p (pos 0) y ≡ pos 0
  zero-over y k = sym (quotient-only p prime y k (pos 0) (pos 0) (zero-times y ∙ sym zero_is)) ∙ zero_is

  less-self : (y : ℤ) → difference p y y ≡ pos 0
  unfolding difference
  less-self y = ap (elem p) (+ℤ_invr y) ∙ zero_is

  over-by-one : (x : ℤ) → quotient p x (pos 1) ≡ elem p x
  over-by-one x = sym (quotient-only p prime (pos 1) one-counts x x (product-one p prime x))

  -- 1 * e, e * 1, 0 * e, e * 0
  pub one-multiply : (x : ℤ) → infix_of p Multiply (pos 1) x ≡ Some (elem p x)
  unfolding infix_of
  one-multiply x = ap Some (product-commutes p prime (pos 1) x ∙ product-one p prime x)

  pub multiply-one : (x : ℤ) → infix_of p Multiply x (pos 1) ≡ Some (elem p x)
  unfolding infix_of
  multiply-one x = ap Some (product-one p prime x)

  pub zero-multiply : (x : ℤ) → infix_of p Multiply (pos 0) x ≡ Some (pos 0)
  unfolding infix_of
  zero-multiply x = ap Some (zero-times x)

  pub multiply-zero : (x : ℤ) → infix_of p Multiply x (pos 0) ≡ Some (pos 0)
  unfolding infix_of
  multiply-zero x = ap Some (product-commutes p prime x (pos 0) ∙ zero-times x)

  -- e / 1, e | 1, 0 | e, e \ 1, e % 1
  pub divide-one : (x : ℤ) → infix_of p Divide x (pos 1) ≡ Some (elem p x)
  unfolding infix_of divide_of
  divide-one x = by_one _ _ ∙ ap Some (over-by-one x)

  pub divide-z-one : (x : ℤ) → infix_of p DivideZ x (pos 1) ≡ Some (elem p x)
  unfolding infix_of divide_z_of
  divide-z-one x = by_one _ _ ∙ ap Some (over-by-one x)

  pub zero-divide-z : (y : ℤ) → infix_of p DivideZ (pos 0) y ≡ Some (pos 0)
  unfolding infix_of divide_z_of
  zero-divide-z y = go (ℕ_discrete (res p y) 0)
    where
      go : Dec (res p y ≡ 0) → divide_z_of p (pos 0) y ≡ Some (pos 0)
      go (yes k) = pick-zero (res p y) _ _ k ∙ pick-zero (res p (pos 0)) _ _ (res-zero p above)
      go (no k) = pick-else (res p y) _ _ k ∙ ap Some (zero-over y k)

  pub int-divide-one : (x : ℤ) → infix_of p IntDivide x (pos 1) ≡ Some (elem p x)
  unfolding infix_of int_divide_of
  int-divide-one x =
      by_one _ _
      ∙ ap (λ (y : ℤ). Some (elem p (whole_quotient (elem p x) y))) (elem-one p above prime.above)
      ∙ ap (λ (y : ℤ). Some (elem p y)) (whole-one (elem p x))
      ∙ ap Some (elem-elem p above x)

  pub modulo-one : (x : ℤ) → infix_of p Modulo x (pos 1) ≡ Some (pos 0)
  unfolding infix_of modulo_of
  modulo-one x =
      by_one _ _
      ∙ ap Some
      (ap (λ (y : ℤ). difference p (elem p x) (product p y (whole_quotient (elem p x) y))) (elem-one p above prime.above)
      ∙ ap (λ (y : ℤ). difference p (elem p x) (product p (pos 1) y)) (whole-one (elem p x))
      ∙ ap (difference p (elem p x)) (product-commutes p prime (pos 1) (elem p x) ∙ product-one p prime (elem p x) ∙ elem-elem p above x)
      ∙ less-self (elem p x))

  -- 0 + e, e + 0, e - 0
  pub zero-add : (x : ℤ) → infix_of p Add (pos 0) x ≡ Some (elem p x)
  unfolding infix_of
  zero-add x = ap Some (sum-commutes p prime (pos 0) x ∙ sum-zero p prime x)

  pub add-zero : (x : ℤ) → infix_of p Add x (pos 0) ≡ Some (elem p x)
  unfolding infix_of
  add-zero x = ap Some (sum-zero p prime x)

  pub subtract-zero : (x : ℤ) → infix_of p Subtract x (pos 0) ≡ Some (elem p x)
  unfolding infix_of difference
  subtract-zero x = ap (λ (y : ℤ). Some (elem p y)) (+ℤ_idr x)
