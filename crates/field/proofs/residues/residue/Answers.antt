-- `field::residues::residue` meets its contract. Assumes nothing.
use mathlib.Core.Path.{◌≡◌, ap, ◌∙◌}
use Prim.Native.Nat.{ℕ, suc, ◌-◌, ◌%◌}
use native.Mathlib.Omega.{arith}
use lib.IntN.{ℤ, negsuc, pos}
use lib.Signed.{mag}
use mir.Facts.{to_z-of_z}
use Rattle.field.specs.Prime.{P}
use Rattle.field.specs.Element.{res}
use Rattle.field.proofs.Signed.{negative, positive}
use Rattle.field.proofs.residues.residue.Goals as goal
use Rattle.field.proofs.residues.residue.Goals.{After-magnitude-r}

res-neg : (x : ℤ) (n : ℕ) → x ≡ negsuc n → res P x ≡ P - suc (n % P)
unfolding res
res-neg x n e = ap (res P) e

res-pos : (x : ℤ) (n : ℕ) → x ≡ pos n → res P x ≡ n % P
unfolding res
res-pos x n e = ap (res P) e

-- what `magnitude` returned
size : (c : After-magnitude-r) → c.magnitude-r.result ≡ mag c.args.x
size c = c.magnitude-r.ensures ∙ ap mag (to_z-of_z c.ranges.x)

pub returns-then-x-lt0-clause-value : goal.returns-then-x-lt0-clause-value
returns-then-x-lt0-clause-value c =
    let x : ℤ = c.args.x in
    omega (arith, size (goal.at.returns-then-x-lt0-clause-value c).After-magnitude-r, res-neg x (mag x) (negative x c.ranges.x c.if-x-lt0.true))

pub returns-else-x-lt0-clause-value : goal.returns-else-x-lt0-clause-value
returns-else-x-lt0-clause-value c =
    let x : ℤ = c.args.x in
    omega (arith, size (goal.at.returns-else-x-lt0-clause-value c).After-magnitude-r, res-pos x (mag x) (positive x c.ranges.x c.if-x-lt0.false))
