use Prim.Native.Nat.{◌≤◌, ◌*◌}
use Rattle.test_field.proofs.laws.laws_at_edges.Given as goal

abbrev pub invariant-loop-law : goal.invariant-loop-law
invariant-loop-law l = (l.all.cases ≤ 729 * l.law-index) × (l.all.differ ≤ l.all.cases)
