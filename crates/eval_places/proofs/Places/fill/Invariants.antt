use mathlib.Core.Path.{◌≡◌}
use Prim.Native.Nat.{◌-◌}
use Rattle.eval_places.specs.Places.{column_number, filled}
use Rattle.eval_places.proofs.Places.fill.Given as goal

abbrev pub invariant-loop-i : goal.invariant-loop-i
invariant-loop-i l =
    let k = column_number l.k in
    filled k l.x (l.to - l.i) l.i l.self.words ≡ filled k l.x (l.to - l.from) l.from l.initial.self.words
