-- `eval_places::Places::note` meets its contract. Assumes nothing.
use Prim.Native.Nat.{◌-◌}
use mathlib.Core.Path.{ap, ◌∙◌}
use Rattle.eval_places.specs.Places.{OF-EQUATIONS, column_number, filled, noted}
use Rattle.eval_places.proofs.Places.note.Goals as goal

pub returns : goal.returns
unfolding noted column_number
returns c =
    let before = c.args.before in
    let behind = c.args.behind in
    c.fill-2.ensures ∙ ap (filled OF-EQUATIONS c.args.x (behind.equations - before.equations) before.equations) c.fill.ensures
