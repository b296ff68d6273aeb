use Rattle.numbering.proofs.rows.Scopes.+number_pattern_variables.Given as goal

abbrev pub decreases-number_pattern_variables : goal.decreases-number_pattern_variables
decreases-number_pattern_variables l = l.k
