-- `constraint::reading::equality_at` meets its contract. Assumes nothing.
use mathlib.Core.Path.{◌∙◌}
use Rattle.constraint.proofs.Read.{equality-infix, equality-one}
use Rattle.constraint.proofs.reading.equality_at.Goals as goal
use Rattle.constraint.proofs.reading.equality_at.Goals.{in-Infix, in-Negate}

pub returns : goal.returns
returns c =
    let op = c.from-operation.ensures in
    elim c.match-operation.branch [
      | in-Infix w ↦ equality-infix _ _ _ c.term_at.ensures c.word_at.ensures c.term_at-2.ensures op w.in-Infix.is (w.second-is ∙ w.term_at-second.ensures)
      | in-Negate w ↦ equality-one _ _ _ c.term_at.ensures c.word_at.ensures c.term_at-2.ensures op w.in-Negate.is w.second-is
    ]
