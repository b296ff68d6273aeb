use Rattle.std.proofs.Common.{◌≤◌, ◌∙◌, sym, length, arith}
use mathlib.Core.List.{append-nil}
use Rattle.std.proofs.lemmas.List.{take_all, length-take}
use Rattle.test_report.specs.Lines.{LINE}
use Rattle.test_report.proofs.Laws.{filled_more, filled-end}
use Rattle.test_report.proofs.line.fill_line.Goals as goal

pub loop-byte-preserved : goal.loop-byte-preserved
loop-byte-preserved c =
    let turn = c.loop-byte in
    let made = c.push_next.ensures in
    let taken = c.taken-next.ensures in
    let less = c.loop-byte-test.true in
    let same = filled_more LINE _ _ _ _ _ turn.byte-index turn.next _ _ less c.count_at.ensures taken.0 made turn.invariant.0 in
    let few : length c.push_next.new.line.items ≤ LINE = rw (made, length-take) (omega arith) in
    (same, (few, omega arith))

pub returns : goal.returns
returns c =
    let end = filled-end c.args.text.now c.args.counts.now c.loop-byte.byte-index c.loop-byte.next c.loop-byte-test.false in
    let all = take_all LINE c.loop-byte.line.items c.loop-byte.invariant.1.0 in
    sym all ∙ rw (end, append-nil) at c.loop-byte.invariant.0
