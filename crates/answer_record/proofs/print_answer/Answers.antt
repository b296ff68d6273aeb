use Rattle.std.proofs.Common.{◌∙◌, ap, length, subst, arith}
use Rattle.std.specs.Io.KnownBytes.{Appends}
use Rattle.std.proofs.KnownBytes.{Appends-nil}
use Rattle.streams.specs.Streams.{Whole, Added}
use Rattle.answer_record.proofs.Laws.{range_front, given-all, bytes-all, given-none, bytes-none, given-refused, bytes-refused, added_none}
use Rattle.answer_record.proofs.print_answer.Goals as goal

pub returns-in-Some-clause-whole : goal.returns-in-Some-clause-whole
returns-in-Some-clause-whole g c =
    let front = c.in-Some.ensures.lookup.0 in
    subst (Whole _) (ap length (range_front _ _ front.2) ∙ given-all _ _ _ c.in-Ok.is front.1) c.print_record.ensures.whole

pub returns-in-Some-clause-bytes : goal.returns-in-Some-clause-bytes
returns-in-Some-clause-bytes g c =
    let front = c.in-Some.ensures.lookup.0 in
    subst (Added _ _ _) (range_front _ _ front.2 ∙ bytes-all _ _ _ c.in-Ok.is front.1) c.print_record.ensures.bytes

pub returns-in-None-clause-whole : goal.returns-in-None-clause-whole
returns-in-None-clause-whole g c = given-none _ _ _ c.in-Ok.is (omega (arith, c.in-None.ensures.lookup.0))

pub returns-in-None-clause-bytes : goal.returns-in-None-clause-bytes
returns-in-None-clause-bytes g c = subst (Appends _ _) (bytes-none _ _ _ c.in-Ok.is (omega (arith, c.in-None.ensures.lookup.0))) (Appends-nil _)

pub returns-in-Err-clause-whole : goal.returns-in-Err-clause-whole
returns-in-Err-clause-whole g c = subst (Whole _) (given-refused _ _ _ c.in-Err.is) c.print_refused.ensures

pub returns-in-Err-clause-bytes : goal.returns-in-Err-clause-bytes
returns-in-Err-clause-bytes g c = subst (Added _ _ _) (bytes-refused _ _ _ c.in-Err.is) (added_none _ _)
