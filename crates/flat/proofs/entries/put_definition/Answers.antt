-- `flat::entries::put_definition` meets its contract. Assumes nothing.
use Rattle.flat.specs.Layout.{definition_words}
use Rattle.flat.proofs.entries.put_definition.Goals as goal

pub returns : goal.returns
unfolding definition_words
returns c = c.put_words.ensures
