use Prim.Native.Nat.{◌+◌, ◌*◌}
use Rattle.numbering.proofs.rows.Scopes.+number_expr_variables.Given as goal

abbrev pub decreases-number_arms : goal.decreases-number_arms
decreases-number_arms l = 2 * l.l + 1

abbrev pub decreases-number_expr_variables : goal.decreases-number_expr_variables
decreases-number_expr_variables l = 2 * l.k + 1

abbrev pub decreases-number_function : goal.decreases-number_function
decreases-number_function l = 2 * l.y + 2

abbrev pub decreases-number_items : goal.decreases-number_items
decreases-number_items l = 2 * l.l + 1

abbrev pub decreases-number_scope : goal.decreases-number_scope
decreases-number_scope l = 2 * l.y + 2
