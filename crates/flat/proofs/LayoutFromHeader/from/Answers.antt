-- The layout of a header is that of the definition. Assumes nothing.
use mathlib.Core.Path.{refl}
use Rattle.flat.specs.Layout.{layout_by}
use Rattle.flat.proofs.LayoutFromHeader.from.Goals as goal

pub returns : goal.returns
unfolding layout_by
returns c = refl
