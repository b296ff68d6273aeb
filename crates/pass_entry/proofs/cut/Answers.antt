-- `pass_entry::cut` meets its contract. Assumes nothing.
use mathlib.Core.Path.{sym, ◌∙◌}
use Rattle.std.specs.Prelude.{Err}
use Rattle.std.proofs.lemmas.Result.{err_from_is_err_and}
use Rattle.pass_entry.proofs.Answers.{gives_as, gives-refused, record-refused, record-accepted, record-passable}
use Rattle.pass_entry.proofs.cut.Goals as goal

pub passes-requires : goal.passes-requires
passes-requires c = record-passable c.args.s.now (sym c.check_flat.ensures ∙ c.in_ok-check_flat.was)

pub returns-in_err-check_flat : goal.returns-in_err-check_flat
returns-in_err-check_flat c =
    let p = err_from_is_err_and c.from_residual.result c.from_residual.ensures.1 in
    let g = gives_as c.args.out.now (Err _) _ _ (record-refused c.args.s.now _
    (sym c.check_flat.ensures ∙ c.in_err-check_flat.was)) (gives-refused c.args.out.now _) in
    rw (p.1, p.2) (record { value = g.0; out_after = g.1; store_after = c.clear.ensures })

pub returns : goal.returns
returns c =
    let g = gives_as c.args.out.now _ _ _ (record-accepted c.args.s.now (sym c.check_flat.ensures ∙ c.in_ok-check_flat.was)) c.passes.ensures in
    record { value = g.0; out_after = g.1; store_after = c.clear.ensures }
