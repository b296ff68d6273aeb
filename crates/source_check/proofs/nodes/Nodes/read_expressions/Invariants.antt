use mathlib.Core.Path.{◌≡◌}
use mathlib.Core.Bool.{true}
use Rattle.marks.specs.Marks.{Adds}
use Rattle.source.specs.Nodes.{expressions_fit}
use Rattle.source.specs.Uses.{by_expressions}
use Rattle.source_check.proofs.nodes.Nodes.read_expressions.Given as goal

abbrev pub invariant-loop-k : goal.invariant-loop-k
invariant-loop-k l =
    (expressions_fit l.self.bytes.now l.self.at l.self.count l.list l.k ≡ true) × Adds l.initial.marks l.marks (by_expressions l.self.bytes.now l.list l.k)
