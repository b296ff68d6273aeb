use Rattle.test_report.proofs.Counts.count_run.Goals as goal

pub returns-in_err-tell : goal.returns-in_err-tell
returns-in_err-tell g c = rw c.in-Err.is (rw (c.of.ensures, c.is_ok.ensures.value, c.in-Err.is) at c.count.ensures)

pub returns-in_ok-tell : goal.returns-in_ok-tell
returns-in_ok-tell g c = rw c.in-Err.is (rw (c.of.ensures, c.is_ok.ensures.value, c.in-Err.is) at c.count.ensures)
