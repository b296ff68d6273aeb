-- The nodes of a tree in the list: one after the other they are the tree's, and they fit. Assumes nothing.
use mathlib.Core.Path.{◌≡◌, refl, sym, ap, ap₂, ◌∙◌}
use mathlib.Core.List.{List, ◌++◌}
use Prim.Native.Nat.{ℕ, ◌+◌, ◌*◌, ◌<◌}
use native.Mathlib.Omega.{arith}
use lib.IntN.{ℤ}
use lib.ListN.{length}
use mir.Val.{SFits, to_z, of_z}
use mir.ValLaws.{to_z-of_z}
use mir.Syntax.{w32}
use Rattle.words.specs.Words.{set_words}
use Rattle.words.proofs.Laws.{length-set_words, set_words-append}
use Rattle.field.specs.declared.InfixOp.{InfixOp}
use Rattle.field.specs.Operators.{operator_number}
use Rattle.flat.specs.Trees.{Flat, tree_nodes}
use Rattle.constraint.specs.declared.Term.{Term}
use Rattle.constraint.specs.Record.{number_word, root_from, next_from, node_words, nodes_from}
use Rattle.constraint.proofs.Lengths.{length-nodes, tree-positive}
use Rattle.pass_trees.specs.Passes.{Substitutions, walk, to_expr, copy_propagate_expr}
use Rattle.pass_keep.specs.Keeping.{put_tree}

-- ---- sizes

term-nodes : (t : Term) → tree_nodes (to_expr t) ≡ 1
unfolding tree_nodes to_expr
term-nodes (Term.Variable v) = refl
term-nodes (Term.Constant c) = refl

-- substitutions keep the number of nodes
copied-same : (n : ℕ) (s : Substitutions) (e : Flat) → tree_nodes e ≡ tree_nodes (copy_propagate_expr n s e)
unfolding tree_nodes copy_propagate_expr
copied-same n s (Flat.infixed o a b) = omega (arith, copied-same n s a, copied-same n s b)
copied-same n s (Flat.negate a) = omega (arith, copied-same n s a)
copied-same n s (Flat.constant c) = refl
copied-same n s (Flat.variable v) = sym (term-nodes (walk n s (Term.Variable v)))

-- and a tree has a root
pub copied-nodes : (n : ℕ) (s : Substitutions) (e : Flat) → (tree_nodes e ≡ tree_nodes (copy_propagate_expr n s e)) × (0 < tree_nodes e)
copied-nodes n s e = (copied-same n s e, tree-positive e)

pub next-is : (base n : ℕ) (s : Substitutions) (e : Flat) → next_from base (copy_propagate_expr n s e) ≡ base + tree_nodes e
unfolding next_from root_from
next-is base n s e = omega (arith, copied-nodes n s e)

pub tree-length : (l : List ℕ) (base : ℕ) (e : Flat) → length (put_tree l base e) ≡ length l
unfolding put_tree
tree-length l base e = length-set_words (nodes_from base e) l (4 * base)

-- ---- one node after the other

pub leaf-variable : {t : Term} (v base : ℕ) → t ≡ Term.Variable v → node_words 8 v 0 0 ≡ nodes_from base (to_expr t)
unfolding nodes_from to_expr
leaf-variable v base e = sym (ap (λ (u : Term). nodes_from base (to_expr u)) e)

pub leaf-constant : {t : Term} (c : ℤ) (n base : ℕ) → t ≡ Term.Constant c → SFits w32 c → n ≡ of_z w32 (to_z w32 (of_z w32 c))
    → node_words 7 n 0 0 ≡ nodes_from base (to_expr t)
unfolding nodes_from to_expr number_word
leaf-constant c n base e f q =
    ap (λ (w : ℕ). node_words 7 w 0 0) (q ∙ ap (of_z w32) (to_z-of_z w32 c f)) ∙ sym (ap (λ (u : Term). nodes_from base (to_expr u)) e)

module _ (l : List ℕ) (base : ℕ) where
  -- after the nodes of a first child
  after_first : (ws : List ℕ) {l₁ : List ℕ} {a : ℕ} (x : Flat) → l₁ ≡ put_tree l base x → a ≡ next_from base x
      → set_words l (4 * base) (nodes_from base x ++ ws) ≡ set_words l₁ (4 * a) ws
  unfolding put_tree next_from root_from
  after_first ws {a = a} x p q =
      let e : 4 * base + length (nodes_from base x) ≡ 4 * a = omega (arith, length-nodes x base) in
      set_words-append (nodes_from base x) ws l (4 * base) ∙ ap₂ (λ (m : List ℕ) (i : ℕ). set_words m i ws) (sym p) e

-- the root of a tree of more nodes
infix-root : (a b base : ℕ) (o : InfixOp) (x y : Flat) → a ≡ next_from base x → b ≡ next_from a y
    → (b ≡ root_from base (Flat.infixed o x y)) × (b + 1 ≡ next_from base (Flat.infixed o x y))
unfolding next_from root_from tree_nodes
infix-root a b base o x y qa qb = (omega arith, omega arith)

negate-root : (a base : ℕ) (x : Flat) → a ≡ next_from base x → (a ≡ root_from base (Flat.negate x)) × (a + 1 ≡ next_from base (Flat.negate x))
unfolding next_from root_from tree_nodes
negate-root a base x qa = (omega arith, omega arith)

pub leaf-root : (base : ℕ) (t : Term) → (base ≡ root_from base (to_expr t)) × (base + 1 ≡ next_from base (to_expr t))
unfolding next_from root_from
leaf-root base t = (omega (arith, term-nodes t), omega (arith, term-nodes t))

pub put-infix : (l : List ℕ) (base : ℕ) {l₁ l₂ l₃ : List ℕ} {a b r q o : ℕ} {op : InfixOp} {e x y : Flat} → e ≡ Flat.infixed op x y → l₁ ≡ put_tree l base x
    → r ≡ root_from base x → a ≡ next_from base x → l₂ ≡ put_tree l₁ a y → q ≡ root_from a y → b ≡ next_from a y → o ≡ operator_number op
    → l₃ ≡ set_words l₂ (4 * b) (node_words 4 r q o) → (l₃ ≡ put_tree l base e) × (b ≡ root_from base e) × (b + 1 ≡ next_from base e)
unfolding put_tree nodes_from
put-infix l base {l₁} {l₂} {l₃} {a} {b} {r} {q} {o} {op} {e} {x} {y} i p₁ er ea p₂ eq eb eo p₃ =
    let node : List ℕ = node_words 4 (root_from base x) (root_from (next_from base x) y) (operator_number op) in
    let same : node_words 4 r q o ≡ node = rw (er, eq, eo, ea) in
    let move : set_words l₁ (4 * a) (nodes_from (next_from base x) y ++ node) ≡ set_words l₁ (4 * a) (nodes_from a y ++ node) =
    ap (λ (j : ℕ). set_words l₁ (4 * a) (nodes_from j y ++ node)) (sym ea) in
    let whole : put_tree l base (Flat.infixed op x y) ≡ set_words l₂ (4 * b) node =
    after_first l base (nodes_from (next_from base x) y ++ node) x p₁ ea ∙ move ∙ after_first l₁ a node y p₂ eb in
    let w = infix-root a b base op x y ea eb in
    (p₃ ∙ ap (set_words l₂ (4 * b)) same ∙ sym (ap (put_tree l base) i ∙ whole), w.0 ∙ ap (root_from base) (sym i), w.1 ∙ ap (next_from base) (sym i))

pub put-negate : (l : List ℕ) (base : ℕ) {l₁ l₂ : List ℕ} {a r : ℕ} {e x : Flat} → e ≡ Flat.negate x → l₁ ≡ put_tree l base x → r ≡ root_from base x
    → a ≡ next_from base x → l₂ ≡ set_words l₁ (4 * a) (node_words 5 r 0 0)
    → (l₂ ≡ put_tree l base e) × (a ≡ root_from base e) × (a + 1 ≡ next_from base e)
unfolding put_tree nodes_from
put-negate l base {l₁} {l₂} {a} {r} {e} {x} i p₁ er ea p₂ =
    let same : node_words 5 r 0 0 ≡ node_words 5 (root_from base x) 0 0 = rw er in
    let whole : put_tree l base (Flat.negate x) ≡ set_words l₁ (4 * a) (node_words 5 (root_from base x) 0 0) =
    after_first l base (node_words 5 (root_from base x) 0 0) x p₁ ea in
    let w = negate-root a base x ea in
    (p₂ ∙ ap (set_words l₁ (4 * a)) same ∙ sym (ap (put_tree l base) i ∙ whole), w.0 ∙ ap (root_from base) (sym i), w.1 ∙ ap (next_from base) (sym i))

pub put-term : (l : List ℕ) (base : ℕ) {l₁ ws : List ℕ} {e : Flat} {t u : Term} → e ≡ to_expr t → u ≡ t → ws ≡ nodes_from base (to_expr u)
    → l₁ ≡ set_words l (4 * base) ws → (l₁ ≡ put_tree l base e) × (base ≡ root_from base e) × (base + 1 ≡ next_from base e)
unfolding put_tree
put-term l base {e = e} {t = t} {u = u} q r n p =
    let w : to_expr u ≡ e = ap to_expr r ∙ sym q in
    let z = leaf-root base u in
    (p ∙ ap (set_words l (4 * base)) (n ∙ ap (nodes_from base) w), z.0 ∙ ap (root_from base) w, z.1 ∙ ap (next_from base) w)
