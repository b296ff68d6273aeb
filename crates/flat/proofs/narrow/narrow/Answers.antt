-- `flat::narrow::narrow` meets its contract. Assumes nothing.
use mathlib.Core.Path.{◌≡◌, ap, subst⁻¹, ◌∙◌}
use mir.Syntax.{w32, w64}
use mir.Val.{SFits, to_z, of_z}
use mir.Facts.{to_z-of_z}
use Rattle.field.proofs.Calls.{passed, returned}
use Rattle.flat.specs.Narrow.{narrow}
use Rattle.flat.proofs.NarrowLaws.{narrow-fits}
use Rattle.flat.proofs.narrow.narrow.Goals as goal

pub overflow_cast-narrowed : goal.overflow_cast-narrowed
overflow_cast-narrowed c =
    subst⁻¹ (SFits w32) (returned _ c.narrowed.type_inv (passed narrow c.args.z c.ranges.z c.narrowed.ensures)) (narrow-fits c.args.z)

pub returns : goal.returns
returns c =
    let is : to_z w64 (of_z w64 c.narrowed.result) ≡ narrow c.args.z =
    returned _ c.narrowed.type_inv (passed narrow c.args.z c.ranges.z c.narrowed.ensures) in
    let fits : SFits w32 (to_z w64 (of_z w64 c.narrowed.result)) = subst⁻¹ (SFits w32) is (narrow-fits c.args.z) in
    c.unsigned.ensures ∙ ap (of_z w32) (to_z-of_z fits ∙ is)
