use mathlib.Core.Path.{◌≡◌}
use lib.ListN.{length}
use Rattle.records.specs.SourceRecord.{NAMES}
use Rattle.source_check.specs.Fingerprints.{Fingerprinted}
use Rattle.source_check.proofs.names.Names.fingerprints.Given as goal

abbrev pub invariant-loop-k : goal.invariant-loop-k
invariant-loop-k l = record { each : Fingerprinted l.self.bytes.now l.self.text l.k l.prints; long : length l.prints ≡ NAMES }
