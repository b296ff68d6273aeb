use mathlib.Core.Path.{◌≡◌}
use Prim.Native.Nat.{◌*◌, ◌%◌, ◌<◌}
use Rattle.field.specs.Prime.{P}
use Rattle.field.proofs.inverses.checked_inverse.Given as goal

abbrev pub invariant-loop-rest : goal.invariant-loop-rest
invariant-loop-rest l = (0 < l.rest) × (l.rest < P) × (l.factor < P) × ((l.factor * l.b) % P ≡ l.rest)

abbrev pub decreases-loop-rest : goal.decreases-loop-rest
decreases-loop-rest l = l.rest
