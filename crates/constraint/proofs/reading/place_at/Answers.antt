-- `constraint::reading::place_at` meets its contract. Assumes nothing.
use Rattle.constraint.proofs.reading.place_at.Goals as goal

pub returns : goal.returns
returns c = c.word_at.ensures
