use Rattle.std.proofs.Common.{◌≡◌}
use mathlib.Core.List.{append_assoc}
use Rattle.constraint_text.specs.Text.{equality_text, between}
use Rattle.constraint_text.proofs.line.equality_line.Goals as goal

pub returns-clause-value : goal.returns-clause-value
unfolding equality_text between
returns-clause-value c =
    let text : c.push_str-2.new.self.bytes ≡ equality_text c.args.equality =
    rw (c.push_str-2.ensures.bytes, c.push_side.ensures.value, c.push_str.ensures.bytes, c.push_term.ensures.value, c.new-line.ensures)
    (simp append_assoc) in
    rw text at c.copy_line.ensures.value
