-- The check's answer for what a record is: a module, or refused.
use Rattle.std.specs.Prelude.{Result, Ok, Err}
use Rattle.source.specs.Record.{Read}
use Rattle.records.specs.declared.refusals.Refusal.{Refusal}

-- accepted, or refused
abbrev pub Checked : Type 0
Checked = Result (Unit {0}) Refusal

unfoldable pub checked : Read → Checked
checked (Read.module-of m) = Ok tt
checked (Read.refused r) = Err r
