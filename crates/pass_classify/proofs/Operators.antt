-- Which operators can be cut. Assumes nothing.
use mathlib.Core.Path.{◌≡◌, refl, ap}
use mathlib.Core.Bool.{true, false}
use mathlib.Core.Logic.{◌⊎◌, ⊎_elim}
use Rattle.field.specs.declared.InfixOp.{InfixOp}
use Rattle.field.specs.declared.InfixOp.TheVariants.{Divide, DivideZ, Multiply, Add, Subtract, Equal, Exponentiate, IntDivide, Modulo}
use Rattle.pass_trees.specs.Passes.{cuttable}

pub not_cut : {o : InfixOp} → (o ≡ Exponentiate) ⊎ (o ≡ Equal) → cuttable o ≡ false
unfolding cuttable
not_cut e = ⊎_elim (λ q. ap cuttable q) (λ q. ap cuttable q) e

pub cut : (o : InfixOp) → (o ≡ Exponentiate → ⊥) → (o ≡ Equal → ⊥) → cuttable o ≡ true
unfolding cuttable
cut Divide e f = refl
cut DivideZ e f = refl
cut Multiply e f = refl
cut Add e f = refl
cut Subtract e f = refl
cut Equal e f = absurd (f refl)
cut Exponentiate e f = absurd (e refl)
cut IntDivide e f = refl
cut Modulo e f = refl
