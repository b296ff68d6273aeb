-- `pass_entry::passes` meets its contract. Assumes nothing.
use mathlib.Core.Path.{◌∙◌}
use Rattle.std.specs.Prelude.{Err}
use Rattle.std.proofs.lemmas.Result.{err_from_is_err_and}
use Rattle.pass_trees.specs.Passes.{passes}
use Rattle.flat.specs.Record.{module_of}
use Rattle.pass_entry.proofs.Answers.{gives_as, gives-refused, left-refused, answer-made, made-cut, made-numbers, made-body, made_list, array-size}
use Rattle.pass_entry.proofs.Fits.{made_of}
use Rattle.pass_entry.proofs.passes.Goals as goal

pub returns-in_err-built : goal.returns-in_err-built
returns-in_err-built c =
    let p = err_from_is_err_and c.from_residual.result c.from_residual.ensures.1 in
    let o = left-refused _ _ c.in_err-built.was c.pass.ensures.value in
    rw (p.1, p.2) (gives_as c.args.out.now (Err _) _ _ o (gives-refused c.args.out.now _))

pub returns : goal.returns
returns c =
    let q = c.pass.ensures in
    let f = module_of c.args.s.now in
    let left = answer-made _ _ c.in_ok-built.was q.value in
    let body = q.body_after ∙ made-body f _ left _ in
    let list = q.list_after ∙ made_list f _ left _ in
    let made = made_of _ _ c.in_ok-built.built (made-numbers f _ left) body list (array-size _ _ c.filled.ensures) (array-size _ _ c.filled-2.ensures) in
    gives_as c.args.out.now _ _ _ (made-cut f _ left) (c.deliver.ensures (passes f) made)
