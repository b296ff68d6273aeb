-- The names of a record with the bytes b, whose name text starts at byte `text`: what 3 and 4 say of them.
use Rattle.std.specs.Prelude.{ℕ, zero, suc, ◌+◌, List, Bool, not, ◌&&◌, length, get_or, take, drop, leb, eqb}
use Rattle.source.specs.Trees.{Text}
use Rattle.marks.specs.Indices.{every}
use Rattle.source.specs.Layout.{name_entry}
use Rattle.records.specs.SourceRecord.{NAME-BYTES}

-- "bytes 33 to 126"
abbrev pub FIRST-BYTE : ℕ
FIRST-BYTE = 33

abbrev pub LAST-BYTE : ℕ
LAST-BYTE = 126

-- "one pair of offset and length per name"
unfoldable pub offset_of : List ℕ → ℕ → ℕ
offset_of b k = (name_entry b k).offset

unfoldable pub length_of : List ℕ → ℕ → ℕ
length_of b k = (name_entry b k).size

-- where the first k names end
unfoldable pub end_of : List ℕ → ℕ → ℕ
end_of b zero = 0
end_of b (suc k) = offset_of b k + length_of b k

-- "bytes 33 to 126": n bytes from one on. A byte past the end of the file counts as 0
unfoldable pub printed : List ℕ → ℕ → ℕ → Bool
printed b from n = every n (λ i. leb FIRST-BYTE (get_or b (from + i) 0) && leb (get_or b (from + i) 0) LAST-BYTE)

-- "The first name starts at 0, each next where the last ended"; "lengths 1 to 64, bytes 33 to 126"
unfoldable pub name_fits : List ℕ → ℕ → ℕ → Bool
name_fits b text k =
    eqb (offset_of b k) (end_of b k)
    && (leb 1 (length_of b k)
    && (leb (length_of b k) NAME-BYTES
    && printed b (text + offset_of b k) (length_of b k)))

-- not 3, Name: n names fit, and "the last ends with the file"
unfoldable pub names_fit : List ℕ → ℕ → ℕ → Bool
names_fit b text n = every n (name_fits b text) && eqb (text + end_of b n) (length b)

-- "two equal names": as long, and the same bytes
unfoldable pub same_bytes : List ℕ → ℕ → ℕ → ℕ → Bool
same_bytes b from to n = every n (λ i. eqb (get_or b (from + i) 0) (get_or b (to + i) 0))

unfoldable pub same_name : List ℕ → ℕ → ℕ → ℕ → Bool
same_name b text j k = eqb (length_of b j) (length_of b k) && same_bytes b (text + offset_of b j) (text + offset_of b k) (length_of b j)

-- name k is none of those before it
unfoldable pub name_new : List ℕ → ℕ → ℕ → Bool
name_new b text k = every k (λ j. not (same_name b text j k))

-- not 4, EqualNames
unfoldable pub names_differ : List ℕ → ℕ → ℕ → Bool
names_differ b text n = every n (name_new b text)

-- the text of name k
unfoldable pub name_of : List ℕ → ℕ → ℕ → Text
name_of b text k = take (length_of b k) (drop (text + offset_of b k) b)
