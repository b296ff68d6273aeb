-- A tree with the substitutions made, cut: by its root; and how many equalities and ids the cut takes at most. Assumes nothing.
use mathlib.Core.Path.{◌≡◌, refl, ap, ◌∙◌}
use mathlib.Core.List.{List, [], ◌∷◌, ◌++◌}
use mathlib.Core.Option.{Option, none, some}
use Prim.Native.Nat.{ℕ, suc, ◌+◌, ◌≤◌, ◌<◌}
use native.Mathlib.Omega.{arith}
use lib.IntN.{ℤ}
use lib.ListN.{length, length-append}
use Rattle.field.specs.declared.InfixOp.{InfixOp}
use Rattle.std.specs.Prelude.{Option as Maybe, None}
use Rattle.pass_copies.specs.Substituted.{option_of}
use Rattle.flat.specs.Trees.{Flat, tree_nodes}
use Rattle.constraint.specs.declared.Term.{Term}
use Rattle.constraint.specs.Trees.{Side, Equality, at_place}
use Rattle.pass_trees.specs.Passes.{Substitutions, walk, to_expr, copy_propagate_expr, infix_op, Cut, push_constraint_def, copied, flatten_expr_to_3ac}
use Rattle.pass_trees.specs.Passes.{or_variable, all_at}
use Rattle.pass_trees.proofs.Placed.{placed-append}
use Rattle.pass_3ac.specs.Cutting.{placed_cut, tree_cut}

-- a term draws no id
pub term-cut : (out : Option Term) (t : Term) (n : ℕ) → flatten_expr_to_3ac out (to_expr t) n ≡ copied out t n
unfolding flatten_expr_to_3ac to_expr
term-cut out (Term.Variable v) n = refl
term-cut out (Term.Constant c) n = refl

-- a place given to the equalities: as many, and those of an operation behind those of its parts
length-placed : (place : ℕ) (qs : List Equality) → length (all_at place qs) ≡ length qs
unfolding all_at
length-placed place [] = refl
length-placed place (q ∷ qs) = ap suc (length-placed place qs)

abbrev pub push_at : ℕ → Option Term → List Equality → ℕ → Side → Cut
push_at place out es n s =
    record { term = or_variable out n; next = suc n; equalities = es ++ (record { left = or_variable out n; right = s; place = place } ∷ []) }

push_placed : (place : ℕ) (out : Option Term) (es : List Equality) (n : ℕ) (s : Side)
    → placed_cut place (push_constraint_def out es n s) ≡ push_at place out (all_at place es) n s
unfolding push_constraint_def all_at at_place
push_placed place out es n s = ap (λ (l : List Equality). record { term = or_variable out n; next = suc n; equalities = l }) (placed-append place es _)

module _ (place : ℕ) (target : Maybe Term) (k : ℕ) (s : Substitutions) {e : Flat} (n : ℕ) where
  pub cut-infix : {o : InfixOp} {a b : Flat} (x y : Cut) → e ≡ Flat.infixed o a b → x ≡ tree_cut place None k s a n → y ≡ tree_cut place None k s b x.next
      → tree_cut place target k s e n ≡ push_at place (option_of target) (x.equalities ++ y.equalities) y.next (infix_op o x.term y.term)
  unfolding tree_cut copy_propagate_expr flatten_expr_to_3ac option_of
  cut-infix {o} {a} {b} x y p q r =
      let f : Cut = flatten_expr_to_3ac none (copy_propagate_expr k s a) n in
      let g : Cut = flatten_expr_to_3ac none (copy_propagate_expr k s b) f.next in
      rw (p, r, q)
      (push_placed place (option_of target) (f.equalities ++ g.equalities) g.next (infix_op o f.term g.term)
      ∙ ap (λ (l : List Equality). push_at place (option_of target) l g.next (infix_op o f.term g.term)) (placed-append place f.equalities g.equalities))

  pub cut-negate : {a : Flat} (x : Cut) → e ≡ Flat.negate a → x ≡ tree_cut place None k s a n
      → tree_cut place target k s e n ≡ push_at place (option_of target) x.equalities x.next (Side.negate x.term)
  unfolding tree_cut copy_propagate_expr flatten_expr_to_3ac option_of
  cut-negate x p q = rw (p, q) (push_placed place (option_of target) _ _ _)

  pub cut-constant : {c : ℤ} → e ≡ Flat.constant c → tree_cut place target k s e n ≡ placed_cut place (copied (option_of target) (Term.Constant c) n)
  unfolding tree_cut copy_propagate_expr flatten_expr_to_3ac
  cut-constant p = rw p

  pub cut-variable : {v : ℕ} → e ≡ Flat.variable v
      → tree_cut place target k s e n ≡ placed_cut place (copied (option_of target) (walk k s (Term.Variable v)) n)
  unfolding tree_cut copy_propagate_expr
  cut-variable {v} p = rw p (ap (placed_cut place) (term-cut (option_of target) (walk k s (Term.Variable v)) n))

-- ---- sizes

pub nodes-some : (e : Flat) → 0 < tree_nodes e
unfolding tree_nodes
nodes-some (Flat.infixed o a b) = omega arith
nodes-some (Flat.negate a) = omega arith
nodes-some (Flat.constant c) = omega arith
nodes-some (Flat.variable v) = omega arith

term-nodes : (t : Term) → tree_nodes (to_expr t) ≡ 1
unfolding tree_nodes to_expr
term-nodes (Term.Variable v) = refl
term-nodes (Term.Constant c) = refl

-- substitutions put terms for variables
pub copied-nodes : (k : ℕ) (s : Substitutions) (e : Flat) → tree_nodes (copy_propagate_expr k s e) ≡ tree_nodes e
unfolding tree_nodes copy_propagate_expr
copied-nodes k s (Flat.infixed o a b) = omega (arith, copied-nodes k s a, copied-nodes k s b)
copied-nodes k s (Flat.negate a) = omega (arith, copied-nodes k s a)
copied-nodes k s (Flat.constant c) = refl
copied-nodes k s (Flat.variable v) = term-nodes (walk k s (Term.Variable v))

-- a tree with no left side given has a leaf that leaves no equality
new-few : (e : Flat) (n : ℕ) → length (flatten_expr_to_3ac none e n).equalities < tree_nodes e
unfolding flatten_expr_to_3ac copied push_constraint_def tree_nodes
new-few (Flat.infixed o a b) n =
    let x : Cut = flatten_expr_to_3ac none a n in
    let y : Cut = flatten_expr_to_3ac none b x.next in
    let p : length x.equalities < tree_nodes a = new-few a n in
    let q : length y.equalities < tree_nodes b = new-few b x.next in
    simp length-append (omega arith)
new-few (Flat.negate a) n =
    let p : length (flatten_expr_to_3ac none a n).equalities < tree_nodes a = new-few a n in
    simp length-append (omega arith)
new-few (Flat.constant c) n = omega arith
new-few (Flat.variable v) n = omega arith

few : (out : Option Term) (e : Flat) (n : ℕ) → length (flatten_expr_to_3ac out e n).equalities ≤ tree_nodes e
unfolding flatten_expr_to_3ac copied push_constraint_def tree_nodes
few none e n = let p = new-few e n in omega arith
few (some t) (Flat.infixed o a b) n =
    let x : Cut = flatten_expr_to_3ac none a n in
    let y : Cut = flatten_expr_to_3ac none b x.next in
    let p : length x.equalities < tree_nodes a = new-few a n in
    let q : length y.equalities < tree_nodes b = new-few b x.next in
    simp length-append (omega arith)
few (some t) (Flat.negate a) n =
    let p : length (flatten_expr_to_3ac none a n).equalities < tree_nodes a = new-few a n in
    simp length-append (omega arith)
few (some t) (Flat.constant c) n = omega arith
few (some t) (Flat.variable v) n = omega arith

new-ids : (e : Flat) (n : ℕ) → (flatten_expr_to_3ac none e n).next < n + tree_nodes e
unfolding flatten_expr_to_3ac copied push_constraint_def tree_nodes
new-ids (Flat.infixed o a b) n =
    let x : Cut = flatten_expr_to_3ac none a n in
    let p : x.next < n + tree_nodes a = new-ids a n in
    let q : (flatten_expr_to_3ac none b x.next).next < x.next + tree_nodes b = new-ids b x.next in
    omega arith
new-ids (Flat.negate a) n = let p : (flatten_expr_to_3ac none a n).next < n + tree_nodes a = new-ids a n in omega arith
new-ids (Flat.constant c) n = omega arith
new-ids (Flat.variable v) n = omega arith

ids : (out : Option Term) (e : Flat) (n : ℕ) → (flatten_expr_to_3ac out e n).next ≤ n + tree_nodes e
unfolding flatten_expr_to_3ac copied push_constraint_def tree_nodes
ids none e n = let p = new-ids e n in omega arith
ids (some t) (Flat.infixed o a b) n =
    let x : Cut = flatten_expr_to_3ac none a n in
    let p : x.next < n + tree_nodes a = new-ids a n in
    let q : (flatten_expr_to_3ac none b x.next).next < x.next + tree_nodes b = new-ids b x.next in
    omega arith
ids (some t) (Flat.negate a) n = let p : (flatten_expr_to_3ac none a n).next < n + tree_nodes a = new-ids a n in omega arith
ids (some t) (Flat.constant c) n = omega arith
ids (some t) (Flat.variable v) n = omega arith

module _ (place : ℕ) (k : ℕ) (s : Substitutions) (e : Flat) (n : ℕ) where
  pub cut-new-few : length (tree_cut place None k s e n).equalities < tree_nodes e
  unfolding tree_cut option_of
  cut-new-few =
      let qs = (flatten_expr_to_3ac none (copy_propagate_expr k s e) n).equalities in
      omega (arith, length-placed place qs, new-few (copy_propagate_expr k s e) n, copied-nodes k s e)

  pub cut-few : (target : Maybe Term) → length (tree_cut place target k s e n).equalities ≤ tree_nodes e
  unfolding tree_cut
  cut-few target =
      let qs = (flatten_expr_to_3ac (option_of target) (copy_propagate_expr k s e) n).equalities in
      omega (arith, length-placed place qs, few (option_of target) (copy_propagate_expr k s e) n, copied-nodes k s e)

  pub cut-ids : (target : Maybe Term) → (tree_cut place target k s e n).next ≤ n + tree_nodes e
  unfolding tree_cut
  cut-ids target = omega (arith, ids (option_of target) (copy_propagate_expr k s e) n, copied-nodes k s e)
