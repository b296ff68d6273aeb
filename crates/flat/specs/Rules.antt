-- What holds of the module of a lent flat record, said of its trees. That each accepted record has it: `accepted-well-formed` in proofs/Wellformed.antt.
use Rattle.std.specs.Prelude.{◌≡◌, List, [], ◌∷◌, false, ℕ, ◌<◌, ◌≤◌, length}
use Rattle.flat.specs.Trees.{Flat, Definition, FlatModule, defines, module_nodes}
use Rattle.records.specs.FlatRecord.{IDS, LISTED, NODES}

-- of every element of a list, of every variable of a tree
abbrev pub All : {A : Type 0} → (A → Type 0) → List A → Type 0
All Q [] = Unit {0}
All Q (a ∷ rest) = Q a × All Q rest

abbrev pub Every : (ℕ → Type 0) → Flat → Type 0
Every Q (Flat.infixed o a b) = Every Q a × Every Q b
Every Q (Flat.negate a) = Every Q a
Every Q (Flat.constant c) = Unit {0}
Every Q (Flat.variable v) = Q v

-- "defines each id at most once, and no right side uses an id defined there or later"
abbrev pub Ordered : List Definition → Type 0
Ordered [] = Unit {0}
Ordered (d ∷ ds) = (defines ds d.id ≡ false) × Every (λ v. defines (d ∷ ds) v ≡ false) d.right × Ordered ds

abbrev pub Rising : List ℕ → Type 0
Rising [] = Unit {0}
Rising (v ∷ vs) = All (λ w. v < w) vs × Rising vs

pub record WellFormed (f : FlatModule) : Type 0 where
  pub publics-below : All (λ v. v < f.next) f.publics
  pub provers-below : All (λ v. v < f.next) f.provers
  pub provers-rise : Rising f.provers
  pub definitions-below : All (λ d. (d.id < f.next) × Every (λ v. v < f.next) d.right) f.definitions
  pub equations-below : All (λ e. Every (λ v. v < f.next) e.left × Every (λ v. v < f.next) e.right) f.equations
  pub ordered : Ordered f.definitions

-- what a module has to be for a record of it to be readable
pub record Recordable (f : FlatModule) : Type 0 where
  -- ids lie below the next id, prover ids rise, as in a lent record
  pub publics-below : All (λ v. v < f.next) f.publics
  pub provers-below : All (λ v. v < f.next) f.provers
  pub provers-rise : Rising f.provers
  pub definitions-below : All (λ d. (d.id < f.next) × Every (λ v. v < f.next) d.right) f.definitions
  pub equations-below : All (λ e. Every (λ v. v < f.next) e.left × Every (λ v. v < f.next) e.right) f.equations
  -- "Limits: .. 4,096 of each other list, 16,384 nodes, .. next id to 65,536"
  pub provers-fit : length f.provers ≤ LISTED
  pub definitions-fit : length f.definitions ≤ LISTED
  pub equations-fit : length f.equations ≤ LISTED
  pub nodes-fit : module_nodes f ≤ NODES
  pub next_fits : f.next ≤ IDS
