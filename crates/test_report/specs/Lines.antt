-- Lines with counts in them, in ASCII.
use Rattle.std.specs.Prelude.{ℕ, cond, List, [], ◌∷◌, ◌++◌, eqb, get_or, drop}
use Rattle.constraint_text.specs.Text.{decimal}

-- a count stands for it: '#'
abbrev pub MARK : ℕ
MARK = 35

-- room for every line
abbrev pub LINE : ℕ
LINE = 256

-- a byte of a text: the count in decimal for a mark, and any other as it is
unfoldable pub piece : ℕ → ℕ → List ℕ
piece x n = cond (eqb x MARK) (decimal n) (x ∷ [])

-- how many counts it takes
unfoldable pub takes : ℕ → ℕ
takes x = cond (eqb x MARK) 1 0

-- a text with the next of the counts for each mark of it, 0 where none is left
unfoldable pub filled : List ℕ → List ℕ → List ℕ
filled [] ns = []
filled (x ∷ text) ns = piece x (get_or ns 0 0) ++ filled text (drop (takes x) ns)
