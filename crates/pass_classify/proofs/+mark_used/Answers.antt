-- `pass_classify::mark_used` meets its contract. Assumes nothing.
use mathlib.Core.Path.{refl, ap, ◌∙◌}
use Rattle.flat.specs.Record.{grown}
use Rattle.pass_trees.specs.Passes.{mark_used}
use Rattle.pass_classify.specs.Readable.{tree_of}
use Rattle.pass_classify.proofs.+mark_used.Goals as goal

pub returns-in-Infix : goal.returns-in-Infix
unfolding mark_used grown
returns-in-Infix t c =
    let second = c.mark_used-in-Infix.ensures in
    let right = mark_used c.args.u (tree_of c.args.record.now.bytes.now c.in-Infix.y) in
    rw c.in-Infix.ensures.tree (record { says = second.says ∙ ap right c.mark_used.ensures.says; long = second.long })

pub returns-in-Negate : goal.returns-in-Negate
unfolding mark_used grown
returns-in-Negate t c = rw c.in-Negate.ensures.tree c.mark_used-in-Negate.ensures

pub returns-in-Constant : goal.returns-in-Constant
unfolding mark_used grown
returns-in-Constant t c = rw c.in-Constant.ensures.tree (record { says = refl; long = c.told-usage })

pub returns-in-Variable : goal.returns-in-Variable
unfolding mark_used grown
returns-in-Variable t c = rw c.in-Variable.ensures.tree c.mark.ensures
