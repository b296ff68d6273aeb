use Rattle.answer_text.proofs.Laws.{added-kept}
use Rattle.answer_text.proofs.print_record.Goals as goal

pub returns-clause-bytes : goal.returns-clause-bytes
returns-clause-bytes g c = added-kept _ _ _ _ _ c.in_ok-lines.ensures.bytes c.close_output.ensures.bytes
