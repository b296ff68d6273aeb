-- `answer_text::print_number` meets its contract. Assumes nothing.
use Rattle.streams.proofs.Laws.{added-cut}
use Rattle.answer_text.proofs.Laws.{added-kept}
use Rattle.answer_text.proofs.print_number.Goals as goal

pub returns-in_err-print_refused-clause-bytes : goal.returns-in_err-print_refused-clause-bytes
returns-in_err-print_refused-clause-bytes g c =
    let (n, front) = c.in_err-print_refused.ensures.bytes in
    added-cut _ _ _ _ n c.from_residual.ensures.0 front

pub returns-clause-bytes : goal.returns-clause-bytes
returns-clause-bytes g c = added-kept _ _ _ _ _ c.in_ok-print_refused.ensures.bytes c.close_output.ensures.bytes
