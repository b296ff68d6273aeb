use Prim.Native.Nat.{◌≤◌, ◌*◌}
use Rattle.test_field.proofs.laws.triples_with.Given as goal

abbrev pub invariant-loop-a : goal.invariant-loop-a
invariant-loop-a g l = l.found ≤ 81 * l.a-index
