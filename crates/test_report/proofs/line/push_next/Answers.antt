use Rattle.std.proofs.Common.{◌∙◌, ap, take, ◌++◌, List, ℕ}
use Rattle.test_report.specs.Lines.{LINE}
use Rattle.test_report.proofs.Laws.{at_mark, at_other}
use Rattle.test_report.proofs.line.push_next.Goals as goal

pub returns-then-byte-eq-MARK : goal.returns-then-byte-eq-MARK
returns-then-byte-eq-MARK c =
    c.push_decimal.ensures
    ∙ ap (λ (t : List ℕ). take LINE (c.args.line.now.items ++ t)) (at_mark c.args.byte c.args.n c.if-byte-eq-MARK.true)

pub returns-else-byte-eq-MARK : goal.returns-else-byte-eq-MARK
returns-else-byte-eq-MARK c =
    c.push_text.ensures
    ∙ ap (λ (t : List ℕ). take LINE (c.args.line.now.items ++ t)) (at_other c.args.byte c.args.n c.if-byte-eq-MARK.false)
