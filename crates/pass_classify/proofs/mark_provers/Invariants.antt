use mathlib.Core.Path.{◌≡◌}
use lib.ListN.{length}
use Rattle.flat.specs.Layout.{provers}
use Rattle.pass_classify.proofs.Turns.{MarkedFrom}
use Rattle.pass_classify.proofs.mark_provers.Given as goal

abbrev pub invariant-loop-k : goal.invariant-loop-k
invariant-loop-k l = record {
  end : l.k-end ≡ provers l.record.bytes.now;
  marks : MarkedFrom l.record.bytes.now l.initial.provers l.provers l.k;
  long : length l.provers ≡ 65536;
}
