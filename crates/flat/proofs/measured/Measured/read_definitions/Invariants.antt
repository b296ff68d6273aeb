use mathlib.Core.Path.{◌≡◌}
use mathlib.Core.Bool.{true}
use Rattle.flat.specs.Record.{definitions_fit, by_definitions}
use Rattle.marks.specs.Marks.{Adds}
use Rattle.flat.proofs.measured.Measured.read_definitions.Given as goal

abbrev pub invariant-loop-k : goal.invariant-loop-k
invariant-loop-k l =
    let s = l.self.layout in
    (definitions_fit l.self.bytes.now s.definitions_at l.k s.next s.nodes ≡ true)
    × Adds l.initial.marks l.marks (by_definitions l.self.bytes.now s.definitions_at l.k)
