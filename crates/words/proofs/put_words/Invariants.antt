use mathlib.Core.Path.{◌≡◌}
use lib.ListN.{take}
use Rattle.words.specs.Words.{set_words}
use Rattle.words.proofs.put_words.Given as goal

abbrev pub invariant-loop-k : goal.invariant-loop-k
invariant-loop-k g l = l.s ≡ set_words l.initial.s l.at (take l.k l.fn.ws)
