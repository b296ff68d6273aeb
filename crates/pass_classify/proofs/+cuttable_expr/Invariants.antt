use Rattle.pass_classify.proofs.+cuttable_expr.Given as goal

abbrev pub decreases-cuttable_expr : goal.decreases-cuttable_expr
decreases-cuttable_expr l = l.k
