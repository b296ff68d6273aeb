use Rattle.std.proofs.Common.{◌∙◌, ap, take, ◌++◌, List, ℕ}
use Rattle.constraint_text.proofs.Decimal.{decimal-digits}
use Rattle.test_report.specs.Lines.{LINE}
use Rattle.test_report.proofs.line.push_decimal.Goals as goal

pub returns : goal.returns
returns c =
    c.push_text.ensures
    ∙ ap (λ (t : List ℕ). take LINE (c.args.line.now.items ++ t)) (c.as_bytes.ensures.value ∙ c.format.ensures.text ∙ decimal-digits _ c.ranges.n.fits)
