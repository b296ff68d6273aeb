-- `flatten_entry::flatten` meets its contract. Assumes nothing.
use borrow.Author.Rules.{rules}
use mathlib.Core.Path.{◌≡◌}
use lib.ListN.{length, take}
use Rattle.std.specs.Prelude.{Ok, Err}
use Rattle.std.proofs.lemmas.Result.{err_from_is_err_and}
use Rattle.pass_entry.proofs.Answers.{gives_as, gives-refused}
use Rattle.flatten_entry.proofs.Answers.{passable, refused-gives}
use Rattle.flatten_entry.proofs.flatten.Goals as goal

pub passes-requires : goal.passes-requires
passes-requires c =
    let flat = c.evaluate_source-flat.result in
    let read = c.in_ok-record.record.now in
    let told : (flat.answer ≡ Ok (length read)) × (read ≡ take (length read) flat.bytes) = search rules in
    let p = passable _ _ flat _ (c.evaluate_source-flat.ensures.answer, c.evaluate_source-flat.ensures.bytes) told in
    (p.readable, p.small)

pub returns : goal.returns
returns c =
    let flat = c.evaluate_source-flat.result in
    let read = c.in_ok-record.record.now in
    let told : (flat.answer ≡ Ok (length read)) × (read ≡ take (length read) flat.bytes) = search rules in
    let p = passable _ _ flat _ (c.evaluate_source-flat.ensures.answer, c.evaluate_source-flat.ensures.bytes) told in
    let g = gives_as c.args.out.now _ _ _ p.gives c.passes.ensures in
    record { value = g.0; out_after = g.1; store_after = c.evaluate_source-flat.ensures.store_after }

pub returns-in_err-record : goal.returns-in_err-record
returns-in_err-record c =
    let flat = c.evaluate_source-flat.result in
    let told : flat.answer ≡ Err c.in_err-record.field-0.0 = search rules in
    let q = err_from_is_err_and c.from_residual.result c.from_residual.ensures.1 in
    let e = refused-gives _ _ _ flat (c.evaluate_source-flat.ensures.answer, c.evaluate_source-flat.ensures.bytes) told in
    let g = gives_as c.args.out.now (Err _) _ _ e (gives-refused c.args.out.now _) in
    rw (q.1, q.2) (record { value = g.0; out_after = g.1; store_after = c.evaluate_source-flat.ensures.store_after })
