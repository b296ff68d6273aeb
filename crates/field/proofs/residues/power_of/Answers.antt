-- `field::residues::power_of` meets its contract. The loop's invariant: the product times what is left of the power has the residue of the whole power.
-- The measure is what is left of the exponent. Assumes nothing.
use mathlib.Core.Path.{◌≡◌, ap, sym, subst⁻¹, ◌∙◌}
use Prim.Native.Nat.{ℕ, ◌*◌, ◌/◌, ◌%◌, ◌^◌, ◌<◌}
use native.Mathlib.Nat.{mod-lt, mod-eq_of_lt, one-mul, mul-one, pow-zero, lt_trans}
use native.Mathlib.Omega.{arith}
use lib.Dec.{lit<}
use Rattle.field.specs.Prime.{P}
use Rattle.field.proofs.Modular.{turn_even, turn_odd}
use Rattle.field.proofs.Calls.{product_small}
use Rattle.field.proofs.residues.power_of.Goals as goal
use Rattle.field.proofs.residues.power_of.Goals.{Joined-left-eq1, then-left-eq1, else-left-eq1}

pub loop-left-init : goal.loop-left-init
loop-left-init c = (omega arith, c.requires, ap (λ (k : ℕ). k % P) (one-mul (c.args.b ^ c.args.n)))

pub overflow_mul-product : goal.overflow_mul-product
overflow_mul-product c = record { fits = lt_trans (product_small c.loop-left.invariant.0 c.loop-left.invariant.1) (lit< tt) }

pub overflow_mul-base : goal.overflow_mul-base
overflow_mul-base c = record { fits = lt_trans (product_small c.loop-left.invariant.1 c.loop-left.invariant.1) (lit< tt) }

pub loop-left-smaller : goal.loop-left-smaller
loop-left-smaller c = omega arith

-- after a turn's branch
joined : (c : Joined-left-eq1)
    → (c.if-left-eq1.product < P)
    × ((c.if-left-eq1.product * (c.loop-left.base * c.loop-left.base % P) ^ (c.loop-left.left / 2)) % P
    ≡ (c.loop-left.product * c.loop-left.base ^ c.loop-left.left) % P)
joined c = let a : ℕ = c.loop-left.product in
    let b : ℕ = c.loop-left.base in
    let e : ℕ = c.loop-left.left in
    elim c.if-left-eq1.branch [
      | then-left-eq1 w ↦ (
        subst⁻¹ (λ (m : ℕ). m < P) w.product-is (mod-lt (a * b) (omega arith)),
        ap (λ (m : ℕ). (m * (b * b % P) ^ (e / 2)) % P) w.product-is ∙ turn_odd P a b e w.if-left-eq1.true,
      )
      | else-left-eq1 w ↦ (
        subst⁻¹ (λ (m : ℕ). m < P) w.product-is c.loop-left.invariant.0,
        ap (λ (m : ℕ). (m * (b * b % P) ^ (e / 2)) % P) w.product-is ∙ turn_even P a b e (omega (arith, w.if-left-eq1.false)),
      )
    ]

pub loop-left-preserved : goal.loop-left-preserved
loop-left-preserved c =
    let turn = joined (goal.at.loop-left-preserved c).Joined-left-eq1 in
    (turn.0, mod-lt _ (omega arith), turn.1 ∙ c.loop-left.invariant.2)

pub returns-clause-value : goal.returns-clause-value
returns-clause-value c =
    let zero : c.loop-left.left ≡ 0 = omega arith in
    sym (mod-eq_of_lt c.loop-left.invariant.0)
    ∙ ap (λ (k : ℕ). k % P) (sym (ap (λ (k : ℕ). c.loop-left.product * c.loop-left.base ^ k) zero
    ∙ ap (λ (k : ℕ). c.loop-left.product * k) (pow-zero c.loop-left.base)
    ∙ mul-one c.loop-left.product))
    ∙ c.loop-left.invariant.2
