-- `words::put_words` meets its contract. Assumes nothing.
use native.Mathlib.Omega.{arith}
use mathlib.Core.Path.{refl}
use Rattle.words.specs.Words.{set_words}
use Rattle.words.proofs.Laws.{set_words-turn}
use Rattle.words.proofs.put_words.Goals as goal

pub loop-k-init : goal.loop-k-init
unfolding set_words
loop-k-init g c = refl

pub loop-k-preserved : goal.loop-k-preserved
loop-k-preserved g c = set_words-turn _ _ _ _ (omega arith) c.loop-k.invariant c.put_word.ensures
