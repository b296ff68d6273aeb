-- `pass_classify::cuttable_def` meets its contract. Assumes nothing.
use mathlib.Core.Path.{sym, ◌∙◌}
use Rattle.pass_classify.proofs.Turns.{counted_cut}
use Rattle.pass_classify.proofs.cuttable_def.Goals as goal

pub returns-else-prover : goal.returns-else-prover
returns-else-prover c =
    let none = c.if-prover.false in
    counted_cut _ _ (sym c.is_never.ensures ∙ none.0) (sym c.is_prover-prover.ensures ∙ none.1) c.cuttable_expr.ensures
