use Rattle.numbering.proofs.rows.Scopes.+number_parameters.Given as goal

abbrev pub decreases-number_parameters : goal.decreases-number_parameters
decreases-number_parameters l = l.l
