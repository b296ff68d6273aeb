use Prim.Native.Nat.{◌-◌}
use mathlib.Core.Path.{◌≡◌}
use mathlib.Core.Bool.{true}
use lib.ListN.{length}
use Rattle.flat.specs.Record.{ordered, rows, definition_at}
use Rattle.flat.specs.Marks.{Later}
use Rattle.flat.proofs.measured.Measured.in_order.Given as goal

abbrev pub invariant-loop-k : goal.invariant-loop-k
invariant-loop-k l =
    let s = l.self.layout in
    let ds = rows (s.definitions - l.k) l.k (definition_at l.self.bytes.now s.definitions_at s.nodes_at s.nodes) in
    (ordered ds ≡ true) × Later l.later ds × (length l.later ≡ 65536)
