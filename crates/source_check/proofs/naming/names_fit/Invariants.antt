use Prim.Native.Nat.{◌<◌}
use mathlib.Core.Path.{◌≡◌}
use mathlib.Core.Bool.{true}
use Rattle.marks.specs.Indices.{every}
use Rattle.source.specs.Names.{end_of, name_fits}
use Rattle.source_check.proofs.naming.names_fit.Given as goal

abbrev pub invariant-loop-k : goal.invariant-loop-k
invariant-loop-k l = record {
  fit : every l.k (name_fits l.s l.text) ≡ true;
  end : l.end ≡ end_of l.s l.k;
  few : l.end < 8589934592;
}
