-- Nodes and their trees, for walks by a falling node index: what `node_of` says of a node's tree, and, where the nodes fit, of its children and its id.
-- Assumes nothing.
use Prim.Native.Nat.{ℕ, zero, suc, ◌+◌, ◌*◌, ◌≤◌, ◌<◌}
use mathlib.Core.Path.{◌≡◌, refl, sym, ap, ◌∙◌}
use mathlib.Core.List.{List}
use mathlib.Core.Bool.{Bool, true, false, ◌&&◌}
use mathlib.Core.Logic.{⊎_elim}
use native.Mathlib.Numerals.{add-one}
use native.Mathlib.Omega.{arith}
use lib.Dec.{eqb, ltb, leb}
use lib.IntN.{ℤ}
use mir.Val.{to_z}
use mir.Syntax.{w32}
use borrow.Author.Tests.{eq-eqb, ne_eqb, ltb-true}
use Rattle.words.specs.Words.{word_at}
use Rattle.field.specs.declared.InfixOp.{InfixOp}
use Rattle.flat.specs.declared.Node.{Node}
use Rattle.flat.specs.declared.Node.TheVariants.{Infix, Negate, Constant, Variable}
use Rattle.flat.specs.Trees.{Flat}
use Rattle.flat.specs.Rules.{Every}
use Rattle.records.specs.declared.nodes.NodeEntry.{NodeEntry}
use Rattle.flat.specs.Layout.{node_at, node_entry}
use Rattle.flat.specs.Record.{pick, node_fits, nodes_fit, operator_of, node_for, node_of, grown, tree}
use Rattle.std.proofs.lemmas.Bool.{cases_lt, cases_eq}
use Rattle.marks.proofs.Indices.{and_left, and_right, every-at}

last : (t a c : Bool) → pick t (a && c) false ≡ true → a ≡ true
unfolding pick
last true a c e = and_left a c e
last false a c e = cc

-- ---- a node by its kind

module _ (kind x y z : ℕ) where
  pub for-4 : kind ≡ 4 → node_for kind x y z ≡ Infix (operator_of z) x y
  unfolding node_for pick
  for-4 e = rw (eq-eqb kind 4 e)

  pub for-5 : kind ≡ 5 → node_for kind x y z ≡ Negate x
  unfolding node_for pick
  for-5 e = rw (ne_eqb kind 4 (λ q. omega arith), eq-eqb kind 5 e)

  pub for-7 : kind ≡ 7 → node_for kind x y z ≡ Constant (to_z w32 x)
  unfolding node_for pick
  for-7 e = rw (ne_eqb kind 4 (λ q. omega arith), ne_eqb kind 5 (λ q. omega arith), eq-eqb kind 7 e)

  pub for-8 : (kind ≡ 4 → ⊥) → (kind ≡ 5 → ⊥) → (kind ≡ 7 → ⊥) → node_for kind x y z ≡ Variable x
  unfolding node_for pick
  for-8 n4 n5 n7 = rw (ne_eqb kind 4 n4, ne_eqb kind 5 n5, ne_eqb kind 7 n7)

  -- the four cases
  pub by_kind : {A : Type 0} → (kind ≡ 4 → A) → (kind ≡ 5 → A) → (kind ≡ 7 → A) → ((kind ≡ 4 → ⊥) → (kind ≡ 5 → ⊥) → (kind ≡ 7 → ⊥) → A) → A
  by_kind f4 f5 f7 f8 =
      ⊎_elim f4
      (λ (n4 : kind ≡ 4 → ⊥). ⊎_elim f5 (λ (n5 : kind ≡ 5 → ⊥). ⊎_elim f7 (λ (n7 : kind ≡ 7 → ⊥). f8 n4 n5 n7) (cases_eq kind 7))
      (cases_eq kind 5)) (cases_eq kind 4)

  -- the kind by its node
  is-4 : {o : InfixOp} {a b : ℕ} → node_for kind x y z ≡ Infix o a b → (kind ≡ 4) × (a ≡ x) × (b ≡ y)
  is-4 e = by_kind
      (λ q. let w = for-4 q in (q, cc, cc))
      (λ q. let w = for-5 q in cc)
      (λ q. let w = for-7 q in cc)
      (λ n4 n5 n7. let w = for-8 n4 n5 n7 in cc)

  is-5 : {a : ℕ} → node_for kind x y z ≡ Negate a → (kind ≡ 5) × (a ≡ x)
  is-5 e = by_kind
      (λ q. let w = for-4 q in cc)
      (λ q. let w = for-5 q in (q, cc))
      (λ q. let w = for-7 q in cc)
      (λ n4 n5 n7. let w = for-8 n4 n5 n7 in cc)

  is-8 : {a : ℕ} → node_for kind x y z ≡ Variable a → (kind ≡ 4 → ⊥) × (kind ≡ 5 → ⊥) × (kind ≡ 7 → ⊥) × (a ≡ x)
  is-8 e = by_kind
      (λ q. let w = for-4 q in cc)
      (λ q. let w = for-5 q in cc)
      (λ q. let w = for-7 q in cc)
      (λ n4 n5 n7. let w = for-8 n4 n5 n7 in (n4, n5, n7, cc))

  -- what fits
  module _ (limit k : ℕ) (h : node_fits limit k kind x y z ≡ true) where
    pub fits-4 : kind ≡ 4 → (x < k) × (y < k)
    unfolding node_fits pick
    fits-4 e =
        let g : (ltb x k && (ltb y k && leb z 8)) ≡ true = rw (eq-eqb kind 4 e) at h in
        (ltb-true x k (and_left (ltb x k) (ltb y k && leb z 8) g), ltb-true y k (and_left (ltb y k) (leb z 8) (and_right (ltb x k) (ltb y k && leb z 8) g)))

    pub fits-5 : kind ≡ 5 → x < k
    unfolding node_fits pick
    fits-5 e =
        let n : kind ≡ 4 → ⊥ = λ q. omega arith in
        let g : (ltb x k && (eqb y 0 && eqb z 0)) ≡ true = rw (ne_eqb kind 4 n, eq-eqb kind 5 e) at h in
        ltb-true x k (and_left (ltb x k) (eqb y 0 && eqb z 0) g)

    pub fits_8 : (kind ≡ 4 → ⊥) → (kind ≡ 5 → ⊥) → (kind ≡ 7 → ⊥) → x < limit
    unfolding node_fits pick
    fits_8 n4 n5 n7 =
        let g : pick (eqb kind 8) (ltb x limit && (eqb y 0 && eqb z 0)) false ≡ true = rw (ne_eqb kind 4 n4, ne_eqb kind 5 n5, ne_eqb kind 7 n7) at h in
        ltb-true x limit (last (eqb kind 8) (ltb x limit) (eqb y 0 && eqb z 0) g)

-- a node whose words are known
pub node-by : {A : Type 0} (b : List ℕ) (at k : ℕ) (f : ℕ → ℕ → ℕ → ℕ → A) {w : NodeEntry} → w ≡ node_entry b at k → node_at b at k f ≡ f w.kind w.a w.b w.c
unfolding node_at
node-by b at k f e = rw e

-- the same, word by word
pub node-is : {A : Type 0} (b : List ℕ) (at k : ℕ) (f : ℕ → ℕ → ℕ → ℕ → A) {kind x y z : ℕ} → kind ≡ word_at b (at + 4 * k) → x ≡ word_at b (at + 4 * k + 1)
    → y ≡ word_at b (at + 4 * k + 2) → z ≡ word_at b (at + 4 * k + 3) → node_at b at k f ≡ f kind x y z
unfolding node_at
node-is b at k f p q r s = rw (p, q, r, s)

-- what a reader of the four words has read
module _ (b : List ℕ) (at k kind x : ℕ) (p : kind ≡ word_at b (at + 4 * k)) (q : x ≡ word_at b (at + 4 * k + 1)) where
  pub read-4 : {y z : ℕ} {o : InfixOp} → y ≡ word_at b (at + 4 * k + 2) → z ≡ word_at b (at + 4 * k + 3) → kind ≡ 4 → o ≡ operator_of z
      → Infix o x y ≡ node_of b at k
  unfolding node_of
  read-4 {y} r s e f = ap (λ (w : InfixOp). Infix w x y) f ∙ sym (node-is b at k node_for p q r s ∙ for-4 _ _ _ _ e)

  pub read-5 : kind ≡ 5 → Negate x ≡ node_of b at k
  unfolding node_of
  read-5 e = sym (node-is b at k node_for p q refl refl ∙ for-5 _ _ _ _ e)

  pub read-7 : {c : ℤ} → kind ≡ 7 → c ≡ to_z w32 x → Constant c ≡ node_of b at k
  unfolding node_of
  read-7 e f = ap (λ (w : ℤ). Constant w) f ∙ sym (node-is b at k node_for p q refl refl ∙ for-7 _ _ _ _ e)

  pub read-8 : (kind ≡ 4 → ⊥) → (kind ≡ 5 → ⊥) → (kind ≡ 7 → ⊥) → Variable x ≡ node_of b at k
  unfolding node_of
  read-8 n4 n5 n7 = sym (node-is b at k node_for p q refl refl ∙ for-8 _ _ _ _ n4 n5 n7)

-- ---- nodes that fit: children before their parent, ids below the limit

module _ (b : List ℕ) (at n limit : ℕ) (h : nodes_fit b at n limit ≡ true) (k : ℕ) (l : k < n) where
  pub fits-at : node_at b at k (node_fits limit k) ≡ true
  unfolding nodes_fit
  fits-at = every-at n k (λ j. node_at b at j (node_fits limit j)) h l

  pub infix-below : {o : InfixOp} {x y : ℕ} → node_of b at k ≡ Infix o x y → (x < k) × (y < k)
  unfolding node_of node_at
  infix-below e =
      let w = is-4 _ _ _ _ e in
      let f = fits-4 _ _ _ _ limit k fits-at w.0 in
      (omega (arith, f.0, w.1), omega (arith, f.1, w.2))

  pub negate-below : {x : ℕ} → node_of b at k ≡ Negate x → x < k
  unfolding node_of node_at
  negate-below e = let w = is-5 _ _ _ _ e in omega (arith, fits-5 _ _ _ _ limit k fits-at w.0, w.1)

  pub variable-below : {v : ℕ} → node_of b at k ≡ Variable v → v < limit
  unfolding node_of node_at
  variable-below e = let w = is-8 _ _ _ _ e in omega (arith, fits_8 _ _ _ _ limit k fits-at w.0 w.1 w.2, w.3)

-- ---- trees

-- the last of the nodes, and any other
tree-last : (b : List ℕ) (at n k : ℕ) → k ≡ n → tree b at (suc n) k ≡ grown (tree b at n) (node_of b at n)
unfolding tree
tree-last b at n k e = rw (eq-eqb k n e, tree)

tree-else : (b : List ℕ) (at n k : ℕ) → (k ≡ n → ⊥) → tree b at (suc n) k ≡ tree b at n k
unfolding tree
tree-else b at n k f = rw (ne_eqb k n f, tree)

-- the tree of a node, whichever count of nodes it is asked of
pub tree_is : (b : List ℕ) (at k : ℕ) → tree b at (k + 1) k ≡ grown (tree b at k) (node_of b at k)
tree_is b at k = rw (add-one, tree-last b at k k refl)

pub settled : (b : List ℕ) (at n k : ℕ) → k < n → tree b at n k ≡ tree b at (k + 1) k
settled b at zero k l = absurd (omega arith)
settled b at (suc n) k l =
    ⊎_elim (λ (g : k < n). tree-else b at n k (λ e. omega arith) ∙ settled b at n k g)
    (λ (g : n ≤ k). let e : suc n ≡ k + 1 = omega arith in ap (λ (m : ℕ). tree b at m k) e) (cases_lt k n)

-- the tree of a node, by those of its children
module _ (b : List ℕ) (at k : ℕ) where
  pub tree-infix : {o : InfixOp} {x y : ℕ} → node_of b at k ≡ Infix o x y → x < k → y < k
      → tree b at (k + 1) k ≡ Flat.infixed o (tree b at (x + 1) x) (tree b at (y + 1) y)
  unfolding grown
  tree-infix {x = x} {y = y} e hx hy = rw (tree_is b at k, e, settled b at k x hx, settled b at k y hy)

  pub tree-negate : {x : ℕ} → node_of b at k ≡ Negate x → x < k → tree b at (k + 1) k ≡ Flat.negate (tree b at (x + 1) x)
  unfolding grown
  tree-negate {x} e hx = rw (tree_is b at k, e, settled b at k x hx)

  pub tree-constant : {c : ℤ} → node_of b at k ≡ Constant c → tree b at (k + 1) k ≡ Flat.constant c
  unfolding grown
  tree-constant e = rw (tree_is b at k, e)

  pub tree-variable : {v : ℕ} → node_of b at k ≡ Variable v → tree b at (k + 1) k ≡ Flat.variable v
  unfolding grown
  tree-variable e = rw (tree_is b at k, e)

-- both at once, of nodes that fit
module _ (b : List ℕ) (at n limit : ℕ) (h : nodes_fit b at n limit ≡ true) (k : ℕ) (l : k < n) where
  pub at-infix : {o : InfixOp} {x y : ℕ} → node_of b at k ≡ Infix o x y
      → (x < k) × (y < k) × (tree b at (k + 1) k ≡ Flat.infixed o (tree b at (x + 1) x) (tree b at (y + 1) y))
  at-infix e = let w = infix-below b at n limit h k l e in (w.0, w.1, tree-infix b at k e w.0 w.1)

  pub at-negate : {x : ℕ} → node_of b at k ≡ Negate x → (x < k) × (tree b at (k + 1) k ≡ Flat.negate (tree b at (x + 1) x))
  at-negate e = let w = negate-below b at n limit h k l e in (w, tree-negate b at k e w)

  pub at_constant : {c : ℤ} → node_of b at k ≡ Constant c → tree b at (k + 1) k ≡ Flat.constant c
  at_constant e = tree-constant b at k e

  pub at-variable : {v : ℕ} → node_of b at k ≡ Variable v → (v < limit) × (tree b at (k + 1) k ≡ Flat.variable v)
  at-variable e = (variable-below b at n limit h k l e, tree-variable b at k e)

-- the variables of every tree lie below the limit
module _ (b : List ℕ) (at n limit : ℕ) (h : nodes_fit b at n limit ≡ true) where
  grown-below : (m : ℕ) → m < n → ((k : ℕ) → k < m → Every (λ v. v < limit) (tree b at m k)) → (w : Node) → node_of b at m ≡ w
      → Every (λ v. v < limit) (grown (tree b at m) w)
  unfolding grown
  grown-below m l i (Infix o x y) e = let f = infix-below b at n limit h m l e in (i x f.0, i y f.1)
  grown-below m l i (Negate x) e = i x (negate-below b at n limit h m l e)
  grown-below m l i (Constant c) e = tt
  grown-below m l i (Variable v) e = variable-below b at n limit h m l e

  pub tree-below : (m : ℕ) → m ≤ n → (k : ℕ) → k < m → Every (λ v. v < limit) (tree b at m k)
  tree-below zero l k g = absurd (omega arith)
  tree-below (suc m) l k g = ⊎_elim
      (λ (e : k ≡ m). rw (tree-last b at m k e) (grown-below m (omega arith) (tree-below m (omega arith)) (node_of b at m) refl))
      (λ (f : k ≡ m → ⊥). rw (tree-else b at m k f) (tree-below m (omega arith) k (omega arith)))
      (cases_eq k m)
