-- `source_check::names::Names::are_equal` meets its contract. Assumes nothing.
use mathlib.Core.Path.{◌∙◌}
use borrow.Author.Tests.{ne_eqb}
use Rattle.source_check.proofs.Prints.{compared, prints-differ}
use Rattle.source_check.proofs.names.Names.are_equal.Goals as goal

pub returns-then-prints-j : goal.returns-then-prints-j
returns-then-prints-j c =
    let names = c.args.self.now in
    compared names.bytes.now names.text names.count names.fit c.requires.below.0 c.requires.below.1 _
    c.name.ensures c.name-then-prints-j.ensures c.eq.ensures

pub returns-else-prints-j : goal.returns-else-prints-j
returns-else-prints-j c =
    let names = c.args.self.now in
    ne_eqb _ _ c.if-prints-j.false
    ∙ prints-differ names.bytes.now names.text names.count _ _ c.args.prints.now c.requires.fingerprinted c.requires.below.0 c.requires.below.1
    c.if-prints-j.false
