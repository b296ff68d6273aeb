use mathlib.Core.Path.{◌≡◌}
use Prim.Native.Nat.{◌+◌, ◌≤◌}
use lib.ListN.{length}
use Rattle.words.specs.Words.{set_words}
use Rattle.eval_write.specs.Written.{up_to, if_marked}
use Rattle.eval_write.proofs.write_provers.Given as goal

abbrev pub invariant-loop-i : goal.invariant-loop-i
invariant-loop-i l =
    ((l.out ≡ set_words l.initial.out l.at (up_to l.i (if_marked l.memory.marks))) × (l.to ≡ l.at + length (up_to l.i (if_marked l.memory.marks))))
    × (l.to ≤ l.at + l.i)
