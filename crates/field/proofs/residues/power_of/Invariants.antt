use mathlib.Core.Path.{◌≡◌}
use Prim.Native.Nat.{◌*◌, ◌%◌, ◌^◌, ◌<◌}
use Rattle.field.specs.Prime.{P}
use Rattle.field.proofs.residues.power_of.Given as goal

abbrev pub invariant-loop-left : goal.invariant-loop-left
invariant-loop-left l = (l.product < P) × (l.base < P) × ((l.product * l.base ^ l.left) % P ≡ l.b ^ l.n % P)

abbrev pub decreases-loop-left : goal.decreases-loop-left
decreases-loop-left l = l.left
