-- `flat::operator` meets its contract. Assumes nothing.
use mathlib.Core.Path.{◌∙◌}
use Rattle.field.proofs.Numbered.{operator-or_modulo}
use Rattle.flat.proofs.operator.Goals as goal

pub returns : goal.returns
returns c = c.unwrap_or.ensures ∙ operator-or_modulo _ _ c.try_from.ensures
