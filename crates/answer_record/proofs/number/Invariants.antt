use Prim.Native.Nat.{◌≤◌}
use mathlib.Core.Path.{◌≡◌}
use lib.ListN.{drop}
use Rattle.answer_record.specs.Given.{number_from}
use Rattle.answer_record.proofs.number.Given as goal

abbrev pub invariant-loop-digit : goal.invariant-loop-digit
invariant-loop-digit l = (number_from l.value (drop l.digit-index l.text) ≡ number_from 0 l.text) × (l.value ≤ 100000000)
