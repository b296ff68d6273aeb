-- The text of a constraint record. For a reader with docs/RECORDS.md, "Constraint record", beside it.
-- That the bytes of a constraint list have the text of the list: `text-listed` in proofs/Listed.antt; that its lines are those of `line_at`: `lines-are-text`.
use Rattle.std.specs.Prelude.{List, [], ◌++◌, ℕ, zero, suc, ◌+◌, ◌*◌, ◌-◌, ◌/◌, min, ltb, length}
use Rattle.flat.specs.Record.{pick}
use Rattle.constraint.specs.Record.{EQUALITY-WORDS}
use Rattle.constraint.specs.Reading.{HEADER, next, equalities, equalities_offset, written_at, constraint_of}
use Rattle.constraint_text.specs.Text.{equality_text, next_text, listing}

-- the text of a record's bytes: that of the list that they say
unfoldable pub text_of : List ℕ → List ℕ
text_of b = listing (constraint_of b)

-- how many equalities have all their words in the bytes
unfoldable pub whole : List ℕ → ℕ
whole b = (length b / 4 - equalities_offset b) / EQUALITY-WORDS

-- how many lines there are: none where the header's words are not all there, and of the equalities only those that are
unfoldable pub lines : List ℕ → ℕ
lines b = pick (ltb (length b) (4 * HEADER)) 0 (1 + min (equalities b) (whole b))

-- "First line: next free id. Then one equality a line"
unfoldable pub line_of : List ℕ → ℕ → List ℕ
line_of b zero = next_text (next b)
line_of b (suc k) = equality_text (written_at b (equalities_offset b) k)

-- line k, and nothing behind the last line
unfoldable pub line_at : List ℕ → ℕ → List ℕ
line_at b k = pick (ltb k (lines b)) (line_of b k) []

-- n lines, from line k on, one after the other
unfoldable pub lines_text : List ℕ → ℕ → ℕ → List ℕ
lines_text b k zero = []
lines_text b k (suc n) = line_at b k ++ lines_text b (suc k) n
