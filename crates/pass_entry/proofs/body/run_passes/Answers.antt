-- `pass_entry::body::run_passes` meets its contract. Assumes nothing.
use Rattle.flat.specs.Record.{module_of}
use Rattle.pass_entry.proofs.Answers.{passes-22, passes-32, passes-made}
use Rattle.pass_entry.proofs.body.run_passes.Goals as goal

pub returns-then-not-cuttable : goal.returns-then-not-cuttable
returns-then-not-cuttable c =
    let w = passes-22 (module_of c.args.classes.now.record.bytes.now) _ _ c.cuttable.ensures c.if-not-cuttable.true in
    record { value = w.0; body_after = w.1.0; list_after = w.1.1 }

pub returns-then-built-gt-IDS : goal.returns-then-built-gt-IDS
returns-then-built-gt-IDS c =
    let built = c.build-built.ensures in
    let w = passes-32 (module_of c.args.classes.now.record.bytes.now) _ _ c.cuttable.ensures c.build-built.result c.if-not-cuttable.false
    built.value built.body_after built.list_after c.if-built-gt-IDS.true in
    record { value = w.0; body_after = w.1.0; list_after = w.1.1 }

pub returns : goal.returns
returns c =
    let built = c.build-built.ensures in
    let w = passes-made (module_of c.args.classes.now.record.bytes.now) _ _ c.cuttable.ensures c.build-built.result c.if-not-cuttable.false
    built.value built.body_after built.list_after c.if-built-gt-IDS.false in
    record { value = w.0; body_after = w.1.0; list_after = w.1.1 }
