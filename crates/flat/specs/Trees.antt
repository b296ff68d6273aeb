-- A flat module: its lists, with the right sides and equations as trees.
use Rattle.std.specs.Prelude.{List, [], ◌∷◌, Bool, true, false, ◌&&◌, ◌||◌, ℕ, suc, ◌+◌, eqb, ℤ}
use Rattle.field.specs.declared.InfixOp.{InfixOp}

-- the expressions of a flat record: "kinds 4, 5, 7, 8, where 8 holds an id"
pub data Flat : Type 0 where
  infixed : InfixOp → Flat → Flat → Flat
  negate : Flat → Flat
  constant : ℤ → Flat
  variable : ℕ → Flat

-- `place`: that of the statement of the source record it comes from; in a lent record any word
pub record Definition : Type 0 where
  pub id : ℕ
  pub right : Flat
  pub place : ℕ

pub record Equation : Type 0 where
  pub left : Flat
  pub right : Flat
  pub place : ℕ

pub record FlatModule : Type 0 where
  pub next : ℕ
  pub publics : List ℕ
  pub provers : List ℕ
  pub definitions : List Definition
  pub equations : List Equation

-- whether a list of definitions defines an id
unfoldable pub defines : List Definition → ℕ → Bool
defines [] v = false
defines (d ∷ ds) v = eqb v d.id || defines ds v

-- whether every variable of a tree passes a test
unfoldable pub every_id : (ℕ → Bool) → Flat → Bool
every_id p (Flat.infixed o x y) = every_id p x && every_id p y
every_id p (Flat.negate x) = every_id p x
every_id p (Flat.constant c) = true
every_id p (Flat.variable v) = p v

-- the nodes of a tree, and of all trees of a module
unfoldable pub tree_nodes : Flat → ℕ
tree_nodes (Flat.infixed o x y) = suc (tree_nodes x + tree_nodes y)
tree_nodes (Flat.negate x) = suc (tree_nodes x)
tree_nodes (Flat.constant c) = 1
tree_nodes (Flat.variable v) = 1

unfoldable pub definitions_nodes : List Definition → ℕ
definitions_nodes [] = 0
definitions_nodes (d ∷ ds) = tree_nodes d.right + definitions_nodes ds

unfoldable pub equations_nodes : List Equation → ℕ
equations_nodes [] = 0
equations_nodes (e ∷ es) = tree_nodes e.left + tree_nodes e.right + equations_nodes es

unfoldable pub module_nodes : FlatModule → ℕ
module_nodes f = definitions_nodes f.definitions + equations_nodes f.equations
