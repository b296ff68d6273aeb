-- `eval_places::Places::fill` meets its contract. Assumes nothing.
use mathlib.Core.Path.{refl}
use Rattle.eval_places.proofs.Ways.{fill-more, fill-end}
use Rattle.eval_places.proofs.Places.fill.Goals as goal

pub loop-i-preserved : goal.loop-i-preserved
loop-i-preserved c = fill-more _ _ _ _ _ _ c.loop-i-test.true c.put.ensures c.loop-i.invariant

pub returns : goal.returns
returns c = fill-end _ _ _ _ _ _ c.loop-i-test.false c.loop-i.invariant
