use Rattle.std.proofs.Common.{◌++◌, List, ℕ, ap, sym, ◌∙◌, arith, rules}
use Rattle.std.proofs.lemmas.Grind.{common_steps}
use Rattle.constraint_text.specs.Text.{term_text}
use Rattle.constraint_text.proofs.Decimal.{decimal-digits}
use Rattle.constraint_text.proofs.Wide.{element-digits}
use Rattle.constraint_text.proofs.line.push_term.Goals as goal

pub returns-in-Variable-clause-value : goal.returns-in-Variable-clause-value
unfolding term_text
returns-in-Variable-clause-value c = grind (arith, common_steps, decimal-digits c.in-Variable.id (omega arith))

pub returns-in-Constant-clause-value : goal.returns-in-Constant-clause-value
unfolding term_text
returns-in-Constant-clause-value c =
    c.push_number-in-Constant.ensures.value
    ∙ ap (λ (t : List ℕ). c.args.line.now.bytes ++ t)
    (element-digits c.in-Constant.number _ _ (search rules) c.from.ensures c.canonical.type_inv c.canonical.ensures
    ∙ sym (ap term_text c.in-Constant.is))
