-- `field::whole::checked_quotient` meets its contract. Assumes nothing.
use mathlib.Core.Path.{◌≡◌, refl, ap, ap₂, sym, subst, ◌∙◌}
use mathlib.Core.Bool.{Bool, true, false, cond, beq}
use Prim.Native.Nat.{ℕ, ◌^◌, ◌<◌}
use native.Mathlib.Omega.{arith}
use lib.Dec.{T}
use lib.IntN.{ℤ, pos, negsuc, neg_ℤ, nat_abs, ◌-ℤ◌, +ℤ_idl, neg_ℤ-neg_ℤ}
use lib.Signed.{lt_z}
use mir.Syntax.{w64}
use mir.Val.{SFits, of_z, to_z}
use mir.Facts.{to_z-of_z}
use Rattle.std.specs.Prelude.{Some, None}
use Rattle.std.proofs.lemmas.Bool.{le-ltb}
use Rattle.field.specs.Operations.{nearest, signed_by, whole_quotient, checked_quotient}
use Rattle.field.proofs.ByResidues.{pick-zero, pick-else}
use Rattle.field.proofs.Elements.{abs-zero}
use Rattle.field.proofs.Signed.{back, neg-fits, to_z-small}
use Rattle.field.proofs.Calls.{passed}
use Rattle.field.proofs.whole.checked_quotient.Goals as goal
use Rattle.field.proofs.whole.checked_quotient.Goals.{After-nearest_of-q}

-- the signs by tests
sign-is : (x z : ℤ) → signed_by x z ≡ cond (lt_z x (pos 0)) (neg_ℤ z) z
unfolding signed_by
sign-is (pos n) z = ap (λ (t : Bool). cond t (neg_ℤ z) z) (sym (le-ltb n 0 (omega arith)))
sign-is (negsuc n) z = refl

signed : Bool → ℤ → ℤ
signed t z = cond t (neg_ℤ z) z

alike : (t u : Bool) (z : ℤ) → beq t u ≡ true → signed t (signed u z) ≡ z
unfolding signed
alike true true z e = neg_ℤ-neg_ℤ z
alike false false z e = refl
alike true false z e = absurd (subst T (sym e) tt)
alike false true z e = absurd (subst T (sym e) tt)

unlike : (t u : Bool) (z : ℤ) → beq t u ≡ false → signed t (signed u z) ≡ neg_ℤ z
unfolding signed
unlike true false z e = refl
unlike false true z e = refl
unlike true true z e = absurd (subst T e tt)
unlike false false z e = absurd (subst T e tt)

none-at : (x y : ℤ) → SFits w64 y → of_z w64 y ≡ 0 → checked_quotient x y ≡ None
unfolding checked_quotient
none-at x y f e = pick-zero _ _ _ (ap nat_abs (sym (to_z-of_z f) ∙ ap (to_z w64) e))

by-signs : (x y : ℤ) (q : ℕ) → q ≡ nearest (nat_abs x) (nat_abs y) → whole_quotient x y ≡ signed (lt_z x (pos 0)) (signed (lt_z y (pos 0)) (pos q))
unfolding whole_quotient signed
by-signs x y q e =
    sign-is x _
    ∙ ap (λ (z : ℤ). cond (lt_z x (pos 0)) (neg_ℤ z) z) (sign-is y _ ∙ ap (λ (n : ℕ). cond (lt_z y (pos 0)) (neg_ℤ (pos n)) (pos n)) (sym e))

some-at : (x y : ℤ) (q : ℕ) → (y ≡ pos 0 → ⊥) → q ≡ nearest (nat_abs x) (nat_abs y)
    → checked_quotient x y ≡ Some (signed (lt_z x (pos 0)) (signed (lt_z y (pos 0)) (pos q)))
unfolding checked_quotient
some-at x y q h e = pick-else _ _ _ (λ z. h (abs-zero y z)) ∙ ap Some (by-signs x y q e)

-- of the numbers as they are tested, by the quotient q of their magnitudes
module _ (c : After-nearest_of-q) where
  abbrev q : ℕ
  q = c.nearest_of-q.result

  small : q < 2 ^ 63
  small = omega (arith, c.nearest_of-q.ensures.upper_bound, passed nat_abs _ c.ranges.x c.unsigned_abs.ensures.value, c.requires.0)

  opposite : pos 0 -ℤ to_z w64 q ≡ neg_ℤ (pos q)
  opposite = ap (λ (z : ℤ). pos 0 -ℤ z) (to_z-small q small) ∙ +ℤ_idl (neg_ℤ (pos q))

  quotient-is : checked_quotient c.args.x c.args.y ≡ Some (signed (lt_z (back c.args.x) (pos 0)) (signed (lt_z (back c.args.y) (pos 0)) (pos q)))
  quotient-is =
      some-at c.args.x c.args.y q (λ e. c.if-y-eq0.false (ap (of_z w64) e))
      (c.nearest_of-q.ensures.value
      ∙ ap₂ nearest (passed nat_abs _ c.ranges.x c.unsigned_abs.ensures.value) (passed nat_abs _ c.ranges.y c.unsigned_abs-2.ensures.value))
      ∙ ap₂ (λ (x y : ℤ). Some (signed (lt_z x (pos 0)) (signed (lt_z y (pos 0)) (pos q)))) (sym (to_z-of_z c.ranges.x)) (sym (to_z-of_z c.ranges.y))

pub overflow_cast-q : goal.overflow_cast-q
overflow_cast-q c = record { sfits = small c }

pub overflow_sub-result : goal.overflow_sub-result
overflow_sub-result c = let d = (goal.at.overflow_sub-result c).After-nearest_of-q in neg-fits _ (q d) (opposite d) (small d)

pub returns-then-y-eq0 : goal.returns-then-y-eq0
returns-then-y-eq0 c = sym (none-at _ _ c.ranges.y c.if-y-eq0.true)

pub returns-then-x-y : goal.returns-then-x-y
returns-then-x-y c =
    let d = (goal.at.returns-then-x-y c).After-nearest_of-q in
    ap Some (to_z-small (q d) (small d)) ∙ sym (quotient-is d ∙ ap Some (alike _ _ _ c.if-x-y.true))

pub returns-else-x-y : goal.returns-else-x-y
returns-else-x-y c =
    let d = (goal.at.returns-else-x-y c).After-nearest_of-q in
    ap Some (to_z-of_z (neg-fits _ (q d) (opposite d) (small d)) ∙ opposite d) ∙ sym (quotient-is d ∙ ap Some (unlike _ _ _ c.if-x-y.false))
