use mathlib.Core.Path.{◌≡◌}
use mathlib.Core.Bool.{true}
use Rattle.marks.specs.Marks.{Adds}
use Rattle.source.specs.Nodes.{nodes_fit}
use Rattle.source.specs.Uses.{by_nodes}
use Rattle.source_check.proofs.nodes.Nodes.read_nodes.Given as goal

abbrev pub invariant-loop-k : goal.invariant-loop-k
invariant-loop-k l =
    (nodes_fit l.self.bytes.now l.self.at l.self.names l.k ≡ true) × Adds l.initial.marks l.marks (by_nodes l.self.bytes.now l.self.at l.k)
