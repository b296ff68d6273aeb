-- Nodes and their trees, by a falling node index: what `entry_of` says of a node's tree. Assumes nothing.
use Prim.Native.Nat.{ℕ, zero, suc, ◌+◌, ◌≤◌, ◌<◌}
use mathlib.Core.Path.{◌≡◌, refl, ap, ◌∙◌}
use mathlib.Core.List.{List}
use mathlib.Core.Logic.{⊎_elim}
use native.Mathlib.Numerals.{add-one}
use native.Mathlib.Omega.{arith}
use borrow.Author.Tests.{eq-eqb, ne_eqb}
use Rattle.std.specs.Prelude.{Some}
use Rattle.source.specs.declared.Node.{Node}
use Rattle.source.specs.declared.Form.{Form}
use Rattle.source.specs.declared.Shape.{Shape}
use Rattle.records.specs.declared.nodes.NodeEntry.{NodeEntry}
use Rattle.source.specs.Layout.{node_entry}
use Rattle.source.specs.Nodes.{entry_for, entry_of}
use Rattle.source.specs.Record.{Tree, expression_of, pattern_of, link_of, grown, tree, node_tree}
use Rattle.std.proofs.lemmas.Bool.{cases_lt}

-- ---- the words of a node

pub entry-is : (b : List ℕ) (at k : ℕ) (n : NodeEntry) → n ≡ node_entry b at k → entry_for n.kind n.a n.b n.c ≡ entry_of b at k
unfolding entry_of
entry-is b at k n e = rw e refl

-- ---- trees

tree-last : (b : List ℕ) (at n k : ℕ) → k ≡ n → tree b at (suc n) k ≡ grown (tree b at n) (entry_of b at n)
unfolding tree
tree-last b at n k e = rw (eq-eqb k n e, tree)

tree-else : (b : List ℕ) (at n k : ℕ) → (k ≡ n → ⊥) → tree b at (suc n) k ≡ tree b at n k
unfolding tree
tree-else b at n k f = rw (ne_eqb k n f, tree)

-- the tree of a node, whichever count of nodes it is asked of
pub tree_is : (b : List ℕ) (at k : ℕ) → node_tree b at k ≡ grown (tree b at k) (entry_of b at k)
tree_is b at k = rw (add-one, tree-last b at k k refl)

pub settled : (b : List ℕ) (at n k : ℕ) → k < n → tree b at n k ≡ node_tree b at k
settled b at zero k l = absurd (omega arith)
settled b at (suc n) k l =
    ⊎_elim (λ (g : k < n). tree-else b at n k (λ e. omega arith) ∙ settled b at n k g)
    (λ (g : n ≤ k). let e : suc n ≡ k + 1 = omega arith in ap (λ (m : ℕ). tree b at m k) e) (cases_lt k n)

-- a node's tree as an expression or a pattern, by the trees before it
pub expression-is : (b : List ℕ) (at k : ℕ) {f : Form} → entry_of b at k ≡ Some (Node.Expression f)
    → (node_tree b at k).expression ≡ expression_of (tree b at k) f
unfolding grown
expression-is b at k e = ap (λ (t : Tree). t.expression) (tree_is b at k ∙ ap (grown (tree b at k)) e)

pub pattern-is : (b : List ℕ) (at k : ℕ) {p : Shape} → entry_of b at k ≡ Some (Node.Pattern p) → (node_tree b at k).pattern ≡ pattern_of (tree b at k) p
unfolding grown
pattern-is b at k e = ap (λ (t : Tree). t.pattern) (tree_is b at k ∙ ap (grown (tree b at k)) e)

-- the tree of a link
pub link-is : (b : List ℕ) (at x : ℕ) {item next result : ℕ} → entry_of b at x ≡ Some (Node.Link item next result)
    → node_tree b at x ≡ link_of (tree b at x) item next result
unfolding grown
link-is b at x e = tree_is b at x ∙ ap (grown (tree b at x)) e
