use mathlib.Core.Path.{◌≡◌}
use Rattle.flat.specs.Layout.{next}
use Rattle.pass_classify.specs.Arrays.{marked}
use Rattle.pass_entry.proofs.Turns.{Writing}
use Rattle.pass_entry.proofs.lists.put_provers.Given as goal

abbrev pub invariant-loop-v : goal.invariant-loop-v
invariant-loop-v l =
    let b = l.classes.record.bytes.now in
    record { end : l.v-end ≡ next b; writing : Writing (marked l.classes.provers.now) (next b) l.at l.v l.to l.body l.initial.body }
