use Rattle.pass_classify.proofs.+mark_used.Given as goal

abbrev pub decreases-mark_used : goal.decreases-mark_used
decreases-mark_used l = l.k
