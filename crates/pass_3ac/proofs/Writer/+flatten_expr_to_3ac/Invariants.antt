use Rattle.pass_3ac.proofs.Writer.+flatten_expr_to_3ac.Given as goal

abbrev pub decreases-flatten_expr_to_3ac : goal.decreases-flatten_expr_to_3ac
decreases-flatten_expr_to_3ac l = l.k
