-- The working array of the order's check, for the contracts of private functions: which ids are defined later.
use Rattle.std.specs.Prelude.{ℕ, ◌≡◌, List, Bool, false, get_or}
use Rattle.flat.specs.Trees.{Definition, defines}

-- marks that say which ids a list of definitions defines
abbrev pub Later : List Bool → List Definition → Type 0
Later m ds = (v : ℕ) → get_or m v false ≡ defines ds v
