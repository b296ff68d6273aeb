-- `flat::entries::put_equation` meets its contract. Assumes nothing.
use Rattle.flat.specs.Layout.{equation_words}
use Rattle.flat.proofs.entries.put_equation.Goals as goal

pub returns : goal.returns
unfolding equation_words
returns c = c.put_words.ensures
