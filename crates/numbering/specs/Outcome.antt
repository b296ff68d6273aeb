-- What number_module_variables leaves, for every byte string. It is one answer: `numbering_of` (Places.antt) has this outcome and nothing else has
-- (`outcome-exists`, `outcome-unique` in proofs/Unique.antt).
use Rattle.std.specs.Prelude.{◌≡◌, List, ℕ, Result, Ok, Err}
use Rattle.source.specs.Record.{Read, source_of, module_of}
use Rattle.numbering.specs.Numbers.{NumberedIn}
use Rattle.records.specs.declared.refusals.Refusal.{Refusal}

-- the next id, and the ids in the arrays; or the record's refusal, and the arrays as they were
unfoldable pub Outcome : List ℕ → List ℕ → List ℕ → Result ℕ Refusal → List ℕ → List ℕ → Type 0
Outcome b ids public (Ok next) ids' public' = (source_of b ≡ Read.module-of (module_of b)) × NumberedIn b ids public next ids' public'
Outcome b ids public (Err refusal) ids' public' = (source_of b ≡ Read.refused refusal) × ((ids' ≡ ids) × (public' ≡ public))
