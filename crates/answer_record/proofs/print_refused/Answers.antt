-- `answer_record::print_refused` meets its contract. Assumes nothing.
use Rattle.std.proofs.Common.{refl}
use Rattle.answer_record.proofs.print_refused.Goals as goal

pub returns : goal.returns
returns g c = refl
