use Rattle.std.proofs.Common.{arith}
use Rattle.std.proofs.lemmas.Grind.{common_steps}
use Rattle.constraint_text.specs.Text.{line_text}
use Rattle.constraint_text.proofs.Decimal.{decimal-digits}
use Rattle.constraint_text.proofs.line.put_line.Goals as goal

pub returns-clause-value : goal.returns-clause-value
unfolding line_text
returns-clause-value c = grind (arith, common_steps, decimal-digits c.args.n c.ranges.n.fits)
