use Prim.Native.Nat.{◌≤◌, ◌*◌}
use Rattle.test_field.proofs.laws.pairs_with.Given as goal

abbrev pub invariant-loop-a : goal.invariant-loop-a
invariant-loop-a g l = l.found ≤ 9 * l.a-index
