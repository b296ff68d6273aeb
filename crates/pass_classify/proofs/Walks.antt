-- Walks over the nodes of a readable record, by a falling node index: at each kind of node, what its children's walks say of it. Assumes nothing.
use Prim.Native.Nat.{ℕ, ◌<◌}
use mathlib.Core.Path.{◌≡◌}
use mathlib.Core.List.{List}
use native.Mathlib.Omega.{arith}
use Rattle.flat.specs.declared.Node.{Node}
use Rattle.flat.specs.declared.Node.TheVariants.{Infix, Negate, Constant, Variable}
use Rattle.flat.specs.Layout.{nodes, next, nodes_offset}
use Rattle.flat.specs.Record.{node_of, grown}
use Rattle.flat.specs.Readable.{Readable}
use Rattle.flat.proofs.Nodes.{infix-below, negate-below, variable-below, tree-infix, tree-negate, tree-constant, tree-variable}
use Rattle.pass_classify.specs.Readable.{tree_of, Below}

-- the children of a node are nodes of the record, with smaller indices
pub below-at : {b : List ℕ} → Readable b → (k : ℕ) → k < nodes b → {n : Node} → node_of b (nodes_offset b) k ≡ n → Below k n
below-at {b} r k h {n = Infix o x y} e = infix-below b (nodes_offset b) (nodes b) (next b) r.nodes-fit k h e
below-at {b} r k h {n = Negate x} e = negate-below b (nodes_offset b) (nodes b) (next b) r.nodes-fit k h e
below-at {b} r k h {n = Constant c} e = tt
below-at {b} r k h {n = Variable v} e = omega (arith, variable-below b (nodes_offset b) (nodes b) (next b) r.nodes-fit k h e, r.next_small)

-- a node's tree, by those of its children
pub tree-at : (b : List ℕ) (k : ℕ) (n : Node) → Below k n → node_of b (nodes_offset b) k ≡ n → tree_of b k ≡ grown (tree_of b) n
unfolding grown
tree-at b k (Infix o x y) l e = tree-infix b (nodes_offset b) k e l.0 l.1
tree-at b k (Negate x) l e = tree-negate b (nodes_offset b) k e l
tree-at b k (Constant c) l e = tree-constant b (nodes_offset b) k e
tree-at b k (Variable v) l e = tree-variable b (nodes_offset b) k e
