-- For the contracts of the search for equal names: a number made of a name's bytes. Equal names have equal ones; nothing else is asked of it.
use Rattle.std.specs.Prelude.{ℕ, zero, suc, ◌+◌, ◌*◌, ◌%◌, ◌<◌, ◌≡◌, List, get_or}
use Rattle.source.specs.Names.{offset_of, length_of}

-- a polynomial in the bytes; before each step it is cut so that the next one fits a word
abbrev pub ROOM : ℕ
ROOM = 16777216

abbrev pub FACTOR : ℕ
FACTOR = 31

abbrev pub step : ℕ → ℕ → ℕ
step h c = (h % ROOM) * FACTOR + c

-- of n bytes from one on. A byte past the end counts as 0
unfoldable pub fingerprint_of : List ℕ → ℕ → ℕ → ℕ
fingerprint_of b from zero = 0
fingerprint_of b from (suc n) = step (fingerprint_of b from n) (get_or b (from + n) 0)

-- an array holds those of n names
abbrev pub Fingerprinted : List ℕ → ℕ → ℕ → List ℕ → Type 0
Fingerprinted b text n r = (k : ℕ) → k < n → get_or r k 0 ≡ fingerprint_of b (text + offset_of b k) (length_of b k)
