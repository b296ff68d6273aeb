-- What `cut` and `measure` answer, and what `cut` leaves in the output. For a reader with docs/RECORDS.md, "Constraint record" and
-- "Refusals", beside it.
use Rattle.std.specs.Prelude.{ℕ, List, ◌++◌, length, drop, leb, Result, Ok, Err}
use Rattle.records.specs.Refusals.{refusal_number}
use Rattle.flat.specs.Record.{pick, Read, flat_of}
use Rattle.constraint.specs.Record.{constraint_bytes}
use Rattle.pass_trees.specs.Passes.{Outcome, cut, refused, cut_of}
use Rattle.pass_entry.specs.declared.Need.{Need}

-- "lent flat record, before the passes: 20, 21", then 22 and 32
unfoldable pub cut_read : Read → Outcome
cut_read (Read.module-of f) = cut_of f
cut_read (Read.refused r) = refused (refusal_number r)

unfoldable pub cut_record : List ℕ → Outcome
cut_record b = cut_read (flat_of b)

-- how many bytes are written, or the number of the refusal: "end: 33 output too short", where the output has `room` bytes
unfoldable pub answer_for : ℕ → Outcome → Result ℕ ℕ
answer_for room (cut c) = pick (leb (length (constraint_bytes c)) room) (Ok (length (constraint_bytes c))) (Err 33)
answer_for room (refused n) = Err n

-- "accepted: the constraint record at the front of the lent output, the rest untouched; refused: output untouched"
unfoldable pub output_for : List ℕ → Outcome → List ℕ
output_for out (cut c) = pick (leb (length (constraint_bytes c)) (length out)) (constraint_bytes c ++ drop (length (constraint_bytes c)) out) out
output_for out (refused n) = out

-- the equalities and the bytes of the constraint record, before any output is lent
unfoldable pub need_of : Outcome → Result Need ℕ
need_of (cut c) = Ok (record { equalities = length c.equalities; bytes = length (constraint_bytes c) })
need_of (refused n) = Err n
