use mathlib.Core.Path.{refl}
use mathlib.Core.List.{append_assoc}
use Rattle.constraint_text.specs.Text.{side_text}
use Rattle.constraint_text.proofs.line.push_side.Goals as goal

pub returns-in-Infix-clause-value : goal.returns-in-Infix-clause-value
unfolding side_text
returns-in-Infix-clause-value c =
    rw (c.in-Infix.is, c.push_term-in-Infix.ensures.value, c.push_str.ensures.bytes, c.push_term.ensures.value, c.sign.ensures)
    (simp append_assoc refl)
