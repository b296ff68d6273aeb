use mathlib.Core.Path.{◌≡◌}
use lib.ListN.{length}
use Prim.Native.Nat.{◌≤◌}
use Rattle.flat.specs.Layout.{definitions}
use Rattle.pass_classify.proofs.Turns.{ClassifiedFrom}
use Rattle.pass_classify.proofs.mark_definitions.Given as goal

abbrev pub invariant-loop-k : goal.invariant-loop-k
invariant-loop-k l = record {
  most : l.k ≤ definitions l.record.bytes.now;
  marks : ClassifiedFrom l.record.bytes.now l.initial.usage l.usage l.k;
  long : length l.usage ≡ 65536;
}
