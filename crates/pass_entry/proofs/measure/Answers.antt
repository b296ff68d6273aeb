-- `pass_entry::measure` meets its contract. Assumes nothing.
use mathlib.Core.Path.{sym, ap, ◌∙◌}
use Rattle.std.proofs.lemmas.Result.{err_from_is_err_and}
use Rattle.pass_trees.specs.Passes.{passes}
use Rattle.flat.specs.Record.{module_of}
use Rattle.pass_entry.specs.Cut.{need_of}
use Rattle.pass_entry.proofs.Answers.{needs-refused, left-refused, answer-made, made-cut, made-numbers}
use Rattle.pass_entry.proofs.Answers.{record-refused, record-accepted, record-passable}
use Rattle.pass_entry.proofs.Delivered.{needs-numbers}
use Rattle.pass_entry.proofs.measure.Goals as goal

pub pass-requires : goal.pass-requires
pass-requires c = record-passable c.args.s.now (sym c.check_flat.ensures ∙ c.in_ok-check_flat.was)

pub returns-in_err-check_flat : goal.returns-in_err-check_flat
returns-in_err-check_flat c =
    let p = err_from_is_err_and c.from_residual.result c.from_residual.ensures.1 in
    rw (p.1, p.2) (needs-refused _ _ (record-refused c.args.s.now _ (sym c.check_flat.ensures ∙ c.in_err-check_flat.was)))

pub returns-in_err-built : goal.returns-in_err-built
returns-in_err-built c =
    let p = err_from_is_err_and c.from_residual-in_err-built.result c.from_residual-in_err-built.ensures.1 in
    let taken = record-accepted c.args.s.now (sym c.check_flat.ensures ∙ c.in_ok-check_flat.was) in
    rw (p.1, p.2) (needs-refused _ _ (taken ∙ left-refused _ _ c.in_err-built.was c.pass.ensures.value))

pub returns : goal.returns
returns c =
    let f = module_of c.args.s.now in
    let left = answer-made _ _ c.in_ok-built.was c.pass.ensures.value in
    let taken = record-accepted c.args.s.now (sym c.check_flat.ensures ∙ c.in_ok-check_flat.was) in
    needs-numbers (passes f) c.in_ok-built.built (made-numbers f _ left) c.equality_count.ensures c.bytes.ensures ∙ sym (ap need_of (taken ∙ made-cut f _ left))
