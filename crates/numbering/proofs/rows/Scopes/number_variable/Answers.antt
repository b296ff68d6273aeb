use Rattle.std.proofs.Common.{arith}
use Rattle.numbering.proofs.Held.{variable-known, variable-new}
use Rattle.numbering.proofs.rows.Scopes.number_variable.Goals as goal

pub returns-in-Some : goal.returns-in-Some
returns-in-Some c = rw c.from.ensures (variable-known _ _ c.requires.0 c.in-Some.ensures)

pub returns-in-None : goal.returns-in-None
returns-in-None c = variable-new _ _ c.requires.0 (omega arith) c.in-None.ensures
