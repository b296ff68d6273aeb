use mathlib.Core.Path.{◌≡◌}
use lib.ListN.{length}
use Rattle.flat.specs.Layout.{equations}
use Rattle.pass_classify.proofs.Turns.{UsedFrom}
use Rattle.pass_classify.proofs.mark_equations.Given as goal

abbrev pub invariant-loop-k : goal.invariant-loop-k
invariant-loop-k l = record {
  end : l.k-end ≡ equations l.record.bytes.now;
  used : UsedFrom l.record.bytes.now l.initial.usage l.usage l.k;
  long : length l.usage ≡ 65536;
}
