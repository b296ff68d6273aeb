use Rattle.std.proofs.Common.{◌∙◌, ap, subst, arith}
use Rattle.streams.specs.Streams.{Whole, Added}
use Rattle.constraint_text.specs.Reading.{lines, lines_text}
use Rattle.answer_text.proofs.Laws.{range_front, added_none, lines_none, printed_none, lines-front, printed-front}
use Rattle.answer_text.proofs.print_front.Goals as goal

pub returns-in-None-clause-all : goal.returns-in-None-clause-all
returns-in-None-clause-all g c = subst (Whole _) (lines_none _ _ (omega (arith, c.in-None.ensures.lookup.0))) c.close_output.ensures.whole

pub returns-in-None-clause-bytes : goal.returns-in-None-clause-bytes
returns-in-None-clause-bytes g c =
    subst (Added _ _ _) (printed_none _ _ (omega (arith, c.in-None.ensures.lookup.0))) (added_none _ _ _ c.close_output.ensures.bytes)

pub returns-in-Some-clause-all : goal.returns-in-Some-clause-all
returns-in-Some-clause-all g c =
    let front = c.in-Some.ensures.lookup.0 in
    subst (Whole _) (ap lines (range_front _ _ front.2) ∙ lines-front _ _ front.1) c.print_record.ensures.all

pub returns-in-Some-clause-bytes : goal.returns-in-Some-clause-bytes
returns-in-Some-clause-bytes g c =
    let front = c.in-Some.ensures.lookup.0 in
    subst (Added _ _ _) (ap (λ s. lines_text s 0 (lines s)) (range_front _ _ front.2) ∙ printed-front _ _ front.1) c.print_record.ensures.bytes
