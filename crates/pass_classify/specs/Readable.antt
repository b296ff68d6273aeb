-- A readable record, as a struct has it: at most one proof says that it is one. And its nodes.
use Rattle.std.specs.Prelude.{List, ℕ, ◌+◌, ◌<◌}
use Rattle.std.specs.Coded.{le_prop}
use Rattle.std.proofs.Math.Nat.{ℕ_set}
use Rattle.std.proofs.Math.Bool.{Bool-set}
use Rattle.flat.specs.declared.Node.{Node}
use Rattle.flat.specs.Layout.{nodes_offset}
use Rattle.flat.specs.Record.{tree}
use Rattle.flat.specs.Trees.{Flat}
use Rattle.flat.specs.Readable.{Readable}
use Rattle.records.specs.FlatRecord.{IDS}

pub Readable-prop : {b : List ℕ} → IsProp (Readable b)
Readable-prop = hlevel (le_prop, ℕ_set, Bool-set)

-- the tree of node k
abbrev pub tree_of : List ℕ → ℕ → Flat
tree_of b k = tree b (nodes_offset b) (k + 1) k

-- a node's children have smaller indices than k, and a variable is an id
abbrev pub Below : ℕ → Node → Type 0
Below k (Node.Infix o x y) = (x < k) × (y < k)
Below k (Node.Negate x) = x < k
Below k (Node.Constant c) = Unit {0}
Below k (Node.Variable v) = v < IDS
