-- `numbering::number_module_variables` meets its contract. Assumes nothing.
use Rattle.std.proofs.Common.{refl}
use Rattle.source_check.proofs.Accepted.{checked-accepted}
use Rattle.numbering.specs.Outcome.{Outcome}
use Rattle.numbering.specs.Walks.{no_entries, no_publics}
use Rattle.numbering.proofs.Entire.{refused-is}
use Rattle.numbering.proofs.number_module_variables.Goals as goal

pub number_checked-requires : goal.number_checked-requires
number_checked-requires c = checked-accepted _ c.in-Ok.ensures

pub returns-in-Err : goal.returns-in-Err
unfolding Outcome no_entries no_publics
returns-in-Err c = (refused-is _ c.in-Err.ensures, (refl, refl))
