use mathlib.Core.Path.{◌≡◌}
use mathlib.Core.Bool.{true}
use Rattle.flat.specs.Record.{equations_fit, by_equations}
use Rattle.marks.specs.Marks.{Adds}
use Rattle.flat.proofs.measured.Measured.read_equations.Given as goal

abbrev pub invariant-loop-k : goal.invariant-loop-k
invariant-loop-k l =
    let s = l.self.layout in
    (equations_fit l.self.bytes.now s.equations_at l.k s.nodes ≡ true) × Adds l.initial.marks l.marks (by_equations l.self.bytes.now s.equations_at l.k)
