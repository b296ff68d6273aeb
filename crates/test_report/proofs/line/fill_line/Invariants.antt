use Prim.Native.Nat.{◌≤◌}
use mathlib.Core.Path.{◌≡◌}
use mathlib.Core.List.{◌++◌}
use lib.ListN.{length, drop, take}
use Rattle.test_report.specs.Lines.{LINE, filled}
use Rattle.test_report.proofs.line.fill_line.Given as goal

abbrev pub invariant-loop-byte : goal.invariant-loop-byte
invariant-loop-byte l =
    (take LINE (l.line.items ++ filled (drop l.byte-index l.text) (drop l.next l.counts)) ≡ take LINE (filled l.text l.counts))
    × ((length l.line.items ≤ LINE) × (l.next ≤ l.byte-index))
