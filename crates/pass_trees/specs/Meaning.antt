-- The inputs of a flat module, and its values worked out from them.
use Rattle.std.specs.Prelude.{◌≡◌, ℕ, ◌<◌, true, false}
use Rattle.flat.specs.Trees.{FlatModule, defines}
use Rattle.flat.specs.Rules.{All, Every}
use Rattle.flat.specs.Meaning.{Assignment, worked_out}
use Rattle.pass_trees.specs.Passes.{member, counted}

-- v is in I unless a counted definition defines it
abbrev pub Known : FlatModule → (ℕ → Type 0) → ℕ → Type 0
Known f I v = defines (counted f) v ≡ false → I v

-- a set of inputs: it has every variable of an equation or of a counted definition's right side that no counted definition defines, and no id that one defines
pub record Inputs (f : FlatModule) (I : ℕ → Type 0) : Type 0 where
  pub equations : All (λ e. Every (Known f I) e.left × Every (Known f I) e.right) f.equations
  pub definitions : All (λ d. Every (Known f I) d.right) (counted f)
  pub only : (v : ℕ) → I v → (v < f.next) × (defines (counted f) v ≡ false)

-- two such sets: the ids that no counted definition defines; and those that no definition defines at all, with the prover variables
abbrev pub Uncounted : FlatModule → ℕ → Type 0
Uncounted f v = (v < f.next) × (defines (counted f) v ≡ false)

abbrev pub Given : FlatModule → ℕ → Type 0
Given f v = (v < f.next) × (defines f.definitions v ≡ true → member v f.provers ≡ true)

-- the module's values from those of its inputs: its counted definitions worked out in order
abbrev pub worked : FlatModule → Assignment → Assignment
worked f ρ = worked_out (counted f) ρ
