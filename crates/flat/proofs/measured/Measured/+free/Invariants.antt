use Rattle.flat.proofs.measured.Measured.+free.Given as goal

abbrev pub decreases-free : goal.decreases-free
decreases-free l = l.k
