use native.Mathlib.Omega.{arith}
use Rattle.test_report.proofs.replay_all.Goals as goal

pub returns : goal.returns
returns g c = omega arith
