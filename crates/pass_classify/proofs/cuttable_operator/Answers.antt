-- `pass_classify::cuttable_operator` meets its contract. Assumes nothing.
use mathlib.Core.Path.{sym, ap, ◌∙◌}
use mathlib.Core.Bool.{not}
use Rattle.pass_classify.proofs.Operators.{not_cut, cut}
use Rattle.pass_classify.proofs.cuttable_operator.Goals as goal
use Rattle.pass_classify.proofs.cuttable_operator.Goals.{in-Exponentiate, in_default}

pub returns : goal.returns
returns c = elim c.match-matches.branch [
  | in-Exponentiate w ↦ ap not w.matches-is ∙ sym (not_cut w.in-Exponentiate.is)
  | in_default w ↦ ap not w.matches-is ∙ sym (cut c.args.op w.in_default.not-Exponentiate w.in_default.not-Equal)
]
