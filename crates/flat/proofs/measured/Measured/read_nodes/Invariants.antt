use mathlib.Core.Path.{◌≡◌}
use mathlib.Core.Bool.{true}
use Rattle.flat.specs.Record.{nodes_fit, by_nodes}
use Rattle.marks.specs.Marks.{Adds}
use Rattle.flat.proofs.measured.Measured.read_nodes.Given as goal

abbrev pub invariant-loop-k : goal.invariant-loop-k
invariant-loop-k l =
    let s = l.self.layout in
    (nodes_fit l.self.bytes.now s.nodes_at l.k s.next ≡ true) × Adds l.initial.marks l.marks (by_nodes l.self.bytes.now s.nodes_at l.k)
