-- `constraint_text::line_at` meets its contract. Assumes nothing.
use mathlib.Core.Path.{refl, ◌∙◌}
use native.Mathlib.Omega.{arith}
use Rattle.constraint_text.proofs.Lines.{has-header, has-equality, line-there, line-behind, line-next, line-equality, retold, nothing}
use Rattle.constraint_text.proofs.line_at.Goals as goal

pub returns-then-line_count-k : goal.returns-then-line_count-k
returns-then-line_count-k c =
    record { value = nothing _ _ (line-behind _ _ _ c.line_count.ensures c.if-line_count-k.true); prefix_len = (omega arith, refl) }

pub layout_of-l-requires : goal.layout_of-l-requires
layout_of-l-requires c = has-header _ _ _ c.line_count.ensures c.if-line_count-k.false

pub returns-then-k-eq0 : goal.returns-then-k-eq0
returns-then-k-eq0 c =
    let there = line-there _ _ _ c.line_count.ensures c.if-line_count-k.false in
    let first = line-next _ _ c.layout_of-l.ensures c.if-k-eq0.true in
    record { value = retold _ _ _ _ _ (first ∙ there) c.next_line.ensures.value; prefix_len = c.next_line.ensures.prefix_len }

pub equality_at-requires : goal.equality_at-requires
equality_at-requires c = has-equality _ _ _ c.layout_of-l.ensures c.line_count.ensures c.if-line_count-k.false c.if-k-eq0.false

pub returns : goal.returns
returns c =
    let there = line-there _ _ _ c.line_count.ensures c.if-line_count-k.false in
    let line = line-equality _ _ _ c.layout_of-l.ensures c.if-k-eq0.false c.equality_at.ensures in
    record { value = retold _ _ _ _ _ (line ∙ there) c.equality_line.ensures.value; prefix_len = c.equality_line.ensures.prefix_len }
