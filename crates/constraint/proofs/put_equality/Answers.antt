-- `constraint::put_equality` meets its contract. Assumes nothing.
use Rattle.constraint.proofs.Written.{equality-written}
use Rattle.constraint.proofs.put_equality.Goals as goal

pub returns : goal.returns
returns c =
    let entry = c.args in
    equality-written entry.out.now entry.at _ _ _ c.from.ensures c.put_term.ensures c.put_word.ensures
    c.put_term-2.ensures c.put_term-3.ensures c.put_word-2.ensures
