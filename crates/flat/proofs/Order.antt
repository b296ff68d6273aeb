-- The order rule, from the last definition to the first. Assumes nothing.
use Prim.Native.Nat.{ℕ, zero, suc, ◌+◌, ◌-◌, ◌≤◌, ◌<◌}
use mathlib.Core.Path.{◌≡◌, refl, sym, ap, ◌∙◌}
use mathlib.Core.List.{List, ◌∷◌}
use mathlib.Core.Bool.{Bool, true, false, not, ◌&&◌, and-false}
use mathlib.Core.Logic.{⊎_elim}
use native.Mathlib.Omega.{arith}
use lib.ListN.{replicate, length-replicate, length, get_or, set}
use lib.Seq.{get_or-set_same, get_or-set_other}
use lib.Dec.{ltb}
use borrow.Author.Tests.{eq-eqb, ne_eqb, ltb-true}
use Rattle.flat.specs.Trees.{Flat, Definition, every_id, defines}
use Rattle.flat.specs.Marks.{Later}
use Rattle.flat.specs.declared.Node.TheVariants.{Infix, Negate, Constant, Variable}
use Rattle.flat.specs.declared.entries.DefinitionEntry.{DefinitionEntry}
use Rattle.flat.specs.Layout.{definition_entry}
use Rattle.flat.specs.Record.{rows, node_of, tree, ordered, definition_at, definitions_fit}
use Rattle.std.proofs.lemmas.Bool.{cases_eq}
use Rattle.marks.proofs.Indices.{and_left, and_right, every-at}
use Rattle.flat.proofs.Nodes.{settled, tree-infix, tree-negate, tree-constant, tree-variable}
use Rattle.field.specs.declared.InfixOp.{InfixOp}
use lib.IntN.{ℤ}

pub every_id-same : (p q : ℕ → Bool) → ((v : ℕ) → p v ≡ q v) → (t : Flat) → every_id p t ≡ every_id q t
unfolding every_id
every_id-same p q h (Flat.infixed o x y) = rw (every_id-same p q h x, every_id-same p q h y)
every_id-same p q h (Flat.negate x) = every_id-same p q h x
every_id-same p q h (Flat.constant c) = refl
every_id-same p q h (Flat.variable v) = h v

-- one definition more
later-set : (m : List Bool) (ds : List Definition) (d : Definition) → Later m ds → d.id < length m → Later (set m d.id true) (d ∷ ds)
unfolding defines
later-set m ds d h l v =
    ⊎_elim
    (λ (e : v ≡ d.id). rw (eq-eqb v d.id e, e, get_or-set_same m d.id true false l))
    (λ (n : v ≡ d.id → ⊥). rw (ne_eqb v d.id n, get_or-set_other m d.id v true false n) (h v))
    (cases_eq v d.id)

-- the definitions from k - 1 on are the one there and those from k on
rows_step : {A : Type 0} (n k : ℕ) (f : ℕ → A) → 0 < k → k ≤ n → rows (n - (k - 1)) (k - 1) f ≡ f (k - 1) ∷ rows (n - k) k f
unfolding rows
rows_step n k f h l =
    let e : n - (k - 1) ≡ suc (n - k) = omega arith in
    let g : suc (k - 1) ≡ k = omega arith in
    rw (e, g)

-- what fails from k on fails whole
fails : (n k : ℕ) (f : ℕ → Definition) → k ≤ n → ordered (rows (n - k) k f) ≡ false → false ≡ ordered (rows n 0 f)
unfolding ordered
fails n zero f l h = let e : n - 0 ≡ n = omega arith in sym (rw e at h)
fails n (suc k) f l h =
    let e : suc k - 1 ≡ k = omega arith in
    let s : rows (n - k) k f ≡ f k ∷ rows (n - suc k) (suc k) f = rw e at (rows_step n (suc k) f (omega arith) l) in
    fails n k f (omega arith) (rw (s, h, and-false, and-false))

ordered-cons : (d : Definition) (ds : List Definition) (t : Bool) → not (defines ds d.id) ≡ true → every_id (λ v. not (defines (d ∷ ds) v)) d.right ≡ t
    → ordered (d ∷ ds) ≡ (t && ordered ds)
unfolding ordered
ordered-cons d ds t i w = rw (i, w)

none-later : (n v : ℕ) → get_or (replicate n false) v false ≡ false
none-later zero v = refl
none-later (suc n) zero = refl
none-later (suc n) (suc v) = none-later n v

-- before the loop: no definition, no marks
pub order-start : (n : ℕ) (f : ℕ → Definition)
    → ((ordered (rows (n - n) n f) ≡ true) × Later (replicate 65536 false) (rows (n - n) n f)) × (length (replicate 65536 false) ≡ 65536)
unfolding ordered rows defines
order-start n f = let z : n - n ≡ 0 = omega arith in (rw z (refl, none-later 65536), length-replicate 65536 false)

-- after it
pub order-end : (n k : ℕ) (f : ℕ → Definition) → k ≡ 0 → ordered (rows (n - k) k f) ≡ true → true ≡ ordered (rows n 0 f)
order-end n k f z h = let e : n - 0 ≡ n = omega arith in sym (rw (z, e) at h)

module _ (b : List ℕ) (at n trees nodes k : ℕ) (pos : 0 < k) (le : k ≤ n) (m : List Bool) (known : Later m (rows (n - k) k (definition_at b at trees nodes)))
    (id node : ℕ) (e1 : id ≡ (definition_entry b at (k - 1)).id) (e2 : node ≡ (definition_entry b at (k - 1)).node) where
  pub order-double : get_or m id false ≡ true → false ≡ ordered (rows n 0 (definition_at b at trees nodes))
  unfolding ordered definition_at
  order-double f = fails n (k - 1) _ (omega arith) (rw (rows_step n k (definition_at b at trees nodes) pos le, ← e1, ← known id, f))

  module _ (t : Bool) (free : get_or m id false ≡ false) (l : id < length m) (one : node < nodes)
      (walked : t ≡ every_id (λ v. not (get_or (set m id true) v false)) (tree b trees (node + 1) node)) where
    later-set-on : Later (set m id true) (definition_at b at trees nodes (k - 1) ∷ rows (n - k) k (definition_at b at trees nodes))
    unfolding definition_at
    later-set-on = rw e1 (later-set m (rows (n - k) k (definition_at b at trees nodes)) (definition_at b at trees nodes (k - 1)) known (rw e1 at l))

    first : ordered (definition_at b at trees nodes (k - 1) ∷ rows (n - k) k (definition_at b at trees nodes))
        ≡ (t && ordered (rows (n - k) k (definition_at b at trees nodes)))
    unfolding definition_at
    first =
        let d = definition_at b at trees nodes (k - 1) in
        let ds = rows (n - k) k (definition_at b at trees nodes) in
        let i : not (defines ds d.id) ≡ true = rw e1 at (ap not (sym (known id) ∙ free)) in
        let r : d.right ≡ tree b trees (node + 1) node = ap (λ (j : ℕ). tree b trees nodes j) (sym e2) ∙ settled b trees nodes node one in
        let w : every_id (λ v. not (defines (d ∷ ds) v)) d.right ≡ t = ap (λ (x : Flat). every_id (λ v. not (defines (d ∷ ds) v)) x) r
        ∙ sym (every_id-same (λ v. not (get_or (set m id true) v false)) (λ v. not (defines (d ∷ ds) v))
        (λ v. ap not (later-set-on v)) (tree b trees (node + 1) node)) ∙ sym walked in
        ordered-cons d ds t i w

    pub order-used : t ≡ false → false ≡ ordered (rows n 0 (definition_at b at trees nodes))
    order-used h = fails n (k - 1) _ (omega arith) (rw (rows_step n k (definition_at b at trees nodes) pos le) (first ∙ rw h))

    pub order-more : t ≡ true → ordered (rows (n - k) k (definition_at b at trees nodes)) ≡ true
        → (ordered (rows (n - (k - 1)) (k - 1) (definition_at b at trees nodes)) ≡ true)
        × Later (set m id true) (rows (n - (k - 1)) (k - 1) (definition_at b at trees nodes))
    order-more h g = rw (rows_step n k (definition_at b at trees nodes) pos le) (first ∙ rw (h, g), later-set-on)

-- what the code knows of a definition that fits
pub definition-fits : (b : List ℕ) (at n limit count k : ℕ) {d : DefinitionEntry} → definitions_fit b at n limit count ≡ true → k < n
    → d ≡ definition_entry b at k → (d.id < limit) × (d.node < count)
unfolding definitions_fit
definition-fits b at n limit count k {d} h l e =
    let w = every-at n k (λ j. ltb (definition_entry b at j).id limit && ltb (definition_entry b at j).node count) h l in
    let g : (ltb d.id limit && ltb d.node count) ≡ true = rw e w in
    (ltb-true d.id limit (and_left _ _ g), ltb-true d.node count (and_right _ _ g))

-- the walk at a node: what it finds is what its children's walks find
module _ (b : List ℕ) (at k : ℕ) (p : ℕ → Bool) where
  pub walk-infix-no : {o : InfixOp} {x y : ℕ} {l : Bool} → node_of b at k ≡ Infix o x y → (x < k) × (y < k) → l ≡ every_id p (tree b at (x + 1) x) → l ≡ false
      → l ≡ every_id p (tree b at (k + 1) k)
  unfolding every_id
  walk-infix-no {l = l} e h hl n = rw (tree-infix b at k e h.0 h.1, ← hl, n)

  pub walk-infix : {o : InfixOp} {x y : ℕ} {l r : Bool} → node_of b at k ≡ Infix o x y → (x < k) × (y < k) → l ≡ every_id p (tree b at (x + 1) x) → l ≡ true
      → r ≡ every_id p (tree b at (y + 1) y) → r ≡ every_id p (tree b at (k + 1) k)
  unfolding every_id
  walk-infix e h hl n hr = rw (tree-infix b at k e h.0 h.1, ← hl, n) hr

  pub walk-negate : {x : ℕ} {l : Bool} → node_of b at k ≡ Negate x → x < k → l ≡ every_id p (tree b at (x + 1) x) → l ≡ every_id p (tree b at (k + 1) k)
  unfolding every_id
  walk-negate e h hl = rw (tree-negate b at k e h) hl

  pub walk-constant : {c : ℤ} → node_of b at k ≡ Constant c → true ≡ every_id p (tree b at (k + 1) k)
  unfolding every_id
  walk-constant e = rw (tree-constant b at k e)

  pub walk-variable : {v : ℕ} → node_of b at k ≡ Variable v → p v ≡ every_id p (tree b at (k + 1) k)
  unfolding every_id
  walk-variable e = rw (tree-variable b at k e)
