use mathlib.Core.Path.{◌≡◌}
use lib.ListN.{length}
use Rattle.pass_classify.proofs.Turns.{WitnessesTo}
use Rattle.pass_classify.proofs.add_witnesses.Given as goal

abbrev pub invariant-loop-v : goal.invariant-loop-v
invariant-loop-v l = record { marks : WitnessesTo l.usage l.initial.provers l.provers l.v; long : length l.provers ≡ 65536 }
