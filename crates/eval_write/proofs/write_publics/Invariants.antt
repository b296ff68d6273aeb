use mathlib.Core.Path.{◌≡◌}
use Rattle.words.specs.Words.{set_words}
use Rattle.eval_write.specs.Written.{firsts}
use Rattle.eval_write.proofs.write_publics.Given as goal

abbrev pub invariant-loop-i : goal.invariant-loop-i
invariant-loop-i l = l.out ≡ set_words l.initial.out 6 (firsts l.publics l.i)
