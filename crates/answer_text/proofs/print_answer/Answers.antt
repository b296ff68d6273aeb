use Rattle.std.proofs.Common.{subst}
use Rattle.streams.specs.Streams.{Whole, Added}
use Rattle.answer_text.proofs.Laws.{lines-one, printed-one}
use Rattle.answer_text.proofs.print_answer.Goals as goal

pub returns-in-Err-clause-all : goal.returns-in-Err-clause-all
returns-in-Err-clause-all g c = subst (Whole _) (lines-one _ _ _ c.in-Err.is) c.print_number.ensures.all

pub returns-in-Err-clause-bytes : goal.returns-in-Err-clause-bytes
returns-in-Err-clause-bytes g c = subst (Added _ _ _) (printed-one _ _ _ c.in-Err.is) c.print_number.ensures.bytes
