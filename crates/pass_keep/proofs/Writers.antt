-- What steps on a writer leave, one after the other, and that there is room for the next. Assumes nothing.
use mathlib.Core.Path.{◌≡◌, ap, ◌∙◌}
use mathlib.Core.List.{List}
use denote.MutBor.{MutBor}
use Prim.Native.Nat.{ℕ, suc, ◌+◌}
use native.Mathlib.Omega.{arith}
use lib.ListN.{length}
use Rattle.field.specs.declared.InfixOp.{InfixOp}
use Rattle.field.specs.Operators.{operator_number}
use Rattle.flat.specs.Trees.{Flat, tree_nodes}
use Rattle.constraint.specs.declared.Term.{Term}
use Rattle.constraint.specs.Record.{node_words, nodes_from}
use Rattle.pass_trees.specs.Passes.{Substitutions, to_expr, copy_propagate_expr}
use Rattle.pass_keep.specs.declared.Writer.{Writer}
use Rattle.pass_keep.specs.Writers.{Lent, NodePut, TreePut, NodesIn}
use Rattle.pass_keep.proofs.Nodes.{copied-nodes, next-is, tree-length, put-infix, put-negate, put-term}

-- a slice that is lent stays the same one
pub lent-on : {A : Type 0} (x : MutBor A) {y z : MutBor A} → y ≡ record x { now = y.now } → z ≡ record y { now = z.now } → z ≡ record x { now = z.now }
lent-on {A} x {z = z} e f = f ∙ ap (λ (m : MutBor A). record m { now = z.now }) e

-- and so with the values that stand in it then
pub lent-as : {A : Type 0} (x : MutBor A) {y : MutBor A} {a : A} → y ≡ record x { now = y.now } → y.now ≡ a → y ≡ record x { now = a }
lent-as {A} x e q = e ∙ ap (λ (n : A). record x { now = n }) q

pub lent-then : {u v w : Writer} → Lent u v → Lent v w → Lent u w
lent-then {u} p q = record { body = lent-on u.body p.body q.body; list = lent-on u.list p.list q.list }

-- ---- a tree by its children

module _ {v w : Writer} {n : ℕ} {ws : List ℕ} (p : NodePut ws n v w) where
  pub term-put : {e : Flat} {t u : Term} → e ≡ to_expr t → u ≡ t → ((base : ℕ) → ws ≡ nodes_from base (to_expr u)) → TreePut e n v w
  term-put i r f =
      let q = put-term v.list.now v.nodes i r (f v.nodes) p.list-is in
      record { list-is = q.0; root_is = p.root_is ∙ q.1; next-is = p.next-is ∙ q.2; body_is = p.body_is; at_is = p.at_is; lent = p.lent }

module _ {u v w : Writer} {r n : ℕ} {x e : Flat} (p : TreePut x r u v) where
  pub negate-put : e ≡ Flat.negate x → NodePut (node_words 5 r 0 0) n v w → TreePut e n u w
  negate-put i q =
      let t = put-negate u.list.now u.nodes i p.list-is p.root_is p.next-is q.list-is in
      record {
        list-is = t.0;
        root_is = q.root_is ∙ t.1;
        next-is = q.next-is ∙ t.2;
        body_is = q.body_is ∙ p.body_is;
        at_is = q.at_is ∙ p.at_is;
        lent = lent-on u.list p.lent q.lent;
      }

  pub infix-put : {z : Writer} {s o : ℕ} {op : InfixOp} {y : Flat} → e ≡ Flat.infixed op x y → TreePut y s v w → o ≡ operator_number op
      → NodePut (node_words 4 r s o) n w z → TreePut e n u z
  infix-put i q eo s =
      let t = put-infix u.list.now u.nodes i p.list-is p.root_is p.next-is q.list-is q.root_is q.next-is eo s.list-is in
      record {
        list-is = t.0;
        root_is = s.root_is ∙ t.1;
        next-is = s.next-is ∙ t.2;
        body_is = s.body_is ∙ q.body_is ∙ p.body_is;
        at_is = s.at_is ∙ q.at_is ∙ p.at_is;
        lent = lent-on u.list (lent-on u.list p.lent q.lent) s.lent;
      }

-- ---- room

module _ (t : Flat) (n : ℕ) (s : Substitutions) (w : Writer) (room : NodesIn (tree_nodes t) w) where
  abbrev Put : Flat → ℕ → Writer → Writer → Type 0
  Put x = TreePut (copy_propagate_expr n s x)

  -- after a first tree
  nodes-are : {v : Writer} {r : ℕ} (x : Flat) → Put x r w v → v.nodes ≡ w.nodes + tree_nodes x
  nodes-are x p = p.next-is ∙ next-is w.nodes n s x

  length-is : {v : Writer} {r : ℕ} (x : Flat) → Put x r w v → length v.list.now ≡ length w.list.now
  length-is x p = ap length p.list-is ∙ tree-length w.list.now w.nodes _

  module _ {o : InfixOp} {x y : Flat} (e : t ≡ Flat.infixed o x y) where
    size : tree_nodes t ≡ suc (tree_nodes x + tree_nodes y)
    unfolding tree_nodes
    size = ap tree_nodes e

    pub room-left : NodesIn (tree_nodes x) w
    room-left = record { long = omega (arith, size, room.long); few = omega (arith, size, room.few) }

    module _ {v : Writer} {r : ℕ} (p : Put x r w v) where
      pub room-right : NodesIn (tree_nodes y) v
      room-right =
          record { long = omega (arith, size, room.long, nodes-are x p, length-is x p); few = omega (arith, size, room.few, nodes-are x p) }

      pub room-root : {z : Writer} {q : ℕ} → Put y q v z → NodesIn 1 z
      room-root {z} g =
          let a : z.nodes ≡ v.nodes + tree_nodes y = g.next-is ∙ next-is v.nodes n s y in
          let b : length z.list.now ≡ length v.list.now = ap length g.list-is ∙ tree-length v.list.now v.nodes _ in
          record { long = omega (arith, size, room.long, nodes-are x p, length-is x p); few = omega (arith, size, room.few, nodes-are x p) }

  module _ {x : Flat} (e : t ≡ Flat.negate x) where
    size-negate : tree_nodes t ≡ suc (tree_nodes x)
    unfolding tree_nodes
    size-negate = ap tree_nodes e

    pub room-child : NodesIn (tree_nodes x) w
    room-child = record { long = omega (arith, size-negate, room.long); few = omega (arith, size-negate, room.few) }

    pub room-above : {v : Writer} {r : ℕ} → Put x r w v → NodesIn 1 v
    room-above p =
        record { long = omega (arith, size-negate, room.long, nodes-are x p, length-is x p); few = omega (arith, size-negate, room.few, nodes-are x p) }

  pub room-leaf : NodesIn 1 w
  room-leaf = let f = copied-nodes n s t in record { long = omega (arith, room.long); few = omega (arith, room.few) }
