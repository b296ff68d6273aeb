use mathlib.Core.Path.{◌≡◌}
use mathlib.Core.Bool.{true}
use Rattle.source.specs.Nodes.{publics_fit}
use Rattle.source_check.proofs.nodes.Nodes.read_publics.Given as goal

abbrev pub invariant-loop-k : goal.invariant-loop-k
invariant-loop-k l =
    publics_fit l.self.bytes.now l.self.names l.list l.k ≡ true
