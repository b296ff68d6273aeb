use Rattle.constraint_text.proofs.Printing.{added-front}
use Rattle.constraint_text.proofs.print_refused.Goals as goal

pub returns-clause-bytes : goal.returns-clause-bytes
returns-clause-bytes g c = added-front _ _ _ _ _ _ _ c.refused_line-n.ensures.value c.refused_line-n.ensures.prefix_len c.write_output.ensures.bytes
