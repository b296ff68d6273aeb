use mathlib.Core.Path.{◌≡◌}
use Rattle.source_check.specs.Fingerprints.{fingerprint_of}
use Rattle.source_check.proofs.fingerprints.fingerprint.Given as goal

abbrev pub invariant-loop-c : goal.invariant-loop-c
invariant-loop-c l = l.h ≡ fingerprint_of l.name 0 l.c-index
