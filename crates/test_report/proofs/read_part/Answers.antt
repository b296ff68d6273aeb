use native.Mathlib.Omega.{arith}
use Rattle.test_report.proofs.read_part.Goals as goal

pub returns-then-n-eq0 : goal.returns-then-n-eq0
returns-then-n-eq0 g c = (omega arith, c.read_standard.auto.buf)

pub returns : goal.returns
returns g c = (omega arith, c.read_standard.auto.buf)
