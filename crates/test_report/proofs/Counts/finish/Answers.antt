use mathlib.Core.Path.{◌≡◌}
use Rattle.test_report.specs.declared.Stop.{Stop}
use Rattle.test_report.specs.Parts.{finished, Finish}
use Rattle.test_report.proofs.Counts.finish.Goals as goal

pub returns-in-Err-Broken : goal.returns-in-Err-Broken
returns-in-Err-Broken g c =
    let broken : c.in-Err-Broken.field-0 ≡ Stop.Broken = rw c.in-Err-Broken.is at c.in-Err-Broken.field-0-is in
    rw (c.in-Err-Broken.is, broken, finished, Finish) (c.finish_broken-in-Err-Broken.ensures, tt)
