-- The whole check: the marks from the start to the test at the end, the length, and the rules. Assumes nothing.
use Prim.Native.Nat.{ℕ, ◌+◌, ◌*◌, ◌≤◌, ◌<◌}
use mathlib.Core.Path.{◌≡◌, refl, sym, ap, ◌∙◌}
use mathlib.Core.List.{List}
use mathlib.Core.Bool.{Bool, true, false, ◌&&◌}
use native.Mathlib.Omega.{arith}
use lib.ListN.{length}
use lib.Dec.{eqb}
use borrow.Author.Tests.{leb-true, eqb-true, le-leb, lt-leb, eq-eqb, ne_eqb}
use Rattle.marks.specs.declared.Uses.{Uses}
use Rattle.marks.specs.Marks.{Adds, no_marks, all_once}
use Rattle.std.proofs.lemmas.Bool.{and_parts}
use Rattle.marks.proofs.Indices.{and_no, and-on}
use Rattle.marks.proofs.Counted.{adds-more, counted-once}
use Rattle.flat.specs.Layout.{layout_of, next, definitions, equations, nodes, definitions_offset, equations_offset, nodes_offset, size, Within}
use Rattle.flat.specs.Record.{has_few, ids_hold, measured, rules, rows, definitions_fit, equations_fit}
use Rattle.flat.specs.Record.{nodes_fit, ordered, definition_at, used_once, trees_hold, by_definitions, by_equations, by_nodes}
use Rattle.flat.specs.declared.Layout.{Layout}

-- the rules of definitions, equations and nodes as they are tested, with the marks that each test leaves
module _ (b : List ℕ) (next d ds e es t ts : ℕ) {u : Bool} (p : u ≡ definitions_fit b d ds next ts) where
  pub trees-1 : u ≡ false → u ≡ trees_hold b next d ds e es t ts
  unfolding trees_hold
  trees-1 f = f ∙ and_no _ _ (sym p ∙ f)

  module _ {v : Bool} (y : u ≡ true) (q : v ≡ equations_fit b e es ts) where
    pub trees-2 : v ≡ false → v ≡ trees_hold b next d ds e es t ts
    unfolding trees_hold
    trees-2 f = f ∙ and-on _ (sym p ∙ y) (and_no _ _ (sym q ∙ f))

    module _ {w : Bool} (z : v ≡ true) (o : w ≡ nodes_fit b t ts next) where
      pub trees-3 : w ≡ false → w ≡ trees_hold b next d ds e es t ts
      unfolding trees_hold
      trees-3 f = f ∙ and-on _ (sym p ∙ y) (and-on _ (sym q ∙ z) (and_no _ _ (sym o ∙ f)))

      pub trees-all : {r : Bool} {m m1 m2 m3 : List Uses} → w ≡ true → ts ≤ 16384 → m ≡ no_marks 16384 → Adds m m1 (by_definitions b d ds)
          → Adds m1 m2 (by_equations b e es) → Adds m2 m3 (by_nodes b t ts) → r ≡ all_once m3 ts → r ≡ trees_hold b next d ds e es t ts
      unfolding trees_hold used_once
      trees-all h l n a1 a2 a3 k =
          let a = adds-more (λ k. by_definitions b d ds k + by_equations b e es k + by_nodes b t ts k)
          (adds-more (λ k. by_definitions b d ds k + by_equations b e es k) a1 a2 (λ k. refl)) a3 (λ k. refl) in
          and-on _ (sym p ∙ y) (and-on _ (sym q ∙ z) (and-on _ (sym o ∙ h) (k ∙ counted-once ts _ l n a)))

-- the parts of the rules of definitions, equations and nodes
module _ (b : List ℕ) (next d ds e es t ts : ℕ) (h : trees_hold b next d ds e es t ts ≡ true) where
  pub hold-definitions : definitions_fit b d ds next ts ≡ true
  unfolding trees_hold
  hold-definitions = (and_parts _ _ h).0

  hold-rest : equations_fit b e es ts && (nodes_fit b t ts next && used_once b d ds e es t ts) ≡ true
  unfolding trees_hold
  hold-rest = (and_parts _ _ h).1

  pub hold-equations : equations_fit b e es ts ≡ true
  hold-equations = (and_parts _ _ hold-rest).0

  pub hold-nodes : nodes_fit b t ts next ≡ true
  hold-nodes = (and_parts _ _ (and_parts _ _ hold-rest).1).0

  pub hold-uses : used_once b d ds e es t ts ≡ true
  hold-uses = (and_parts _ _ (and_parts _ _ hold-rest).1).1

-- what a layout of few has, and a record of the right length
pub record Few (l : Layout) : Type 0 where
  pub publics : l.publics ≤ 64
  pub provers : l.provers ≤ 4096
  pub definitions : l.definitions ≤ 4096
  pub equations : l.equations ≤ 4096
  pub nodes : l.nodes ≤ 16384

pub few-has : (l : Layout) → has_few l ≡ true → Few l
unfolding has_few
few-has l h =
    let h1 = and_parts _ _ h in
    let h2 = and_parts _ _ h1.1 in
    let h3 = and_parts _ _ h2.1 in
    let h4 = and_parts _ _ h3.1 in
    record {
      publics = leb-true _ _ h1.0;
      provers = leb-true _ _ h2.0;
      definitions = leb-true _ _ h3.0;
      equations = leb-true _ _ h4.0;
      nodes = leb-true _ _ h4.1;
    }

pub record Measured (b : List ℕ) : Type 0 where
  pub long : length b ≡ 4 * size b
  pub few : Few (layout_of b)

pub measured-has : (b : List ℕ) → measured b ≡ true → Measured b
unfolding measured
measured-has b h =
    let h1 = and_parts _ _ h in
    let h2 = and_parts _ _ h1.1 in
    record { long = eqb-true _ _ h2.1; few = few-has (layout_of b) h2.0 }

-- so its size fits
pub size-small : (b : List ℕ) {l : Layout} → l ≡ layout_of b → has_few l ≡ true → l.size ≤ 98304
unfolding layout_of
size-small b {l} e h =
    let f : Few (layout_of b) = few-has (layout_of b) (rw e at h) in
    let s : l.size ≡ size b = ap (λ (x : Layout). x.size) e in
    omega (arith, f.publics, f.provers, f.definitions, f.equations, f.nodes)

-- the ways through the length's test
pub too-short : (b : List ℕ) → length b < 24 → measured b ≡ false
unfolding measured
too-short b h = rw (lt-leb 24 (length b) h)

module _ (b : List ℕ) {l : Layout} (e : l ≡ layout_of b) (h : 24 ≤ length b) where
  pub too-many : has_few l ≡ false → measured b ≡ false
  unfolding measured
  too-many f = let g : has_few (layout_of b) ≡ false = rw e at f in rw (le-leb 24 (length b) h, g)

  size-is : l.size ≡ size b
  unfolding layout_of
  size-is = ap (λ (x : Layout). x.size) e

  module _ (f : has_few l ≡ true) where
    pub not-sized : (length b ≡ 4 * l.size → ⊥) → measured b ≡ false
    unfolding measured
    not-sized n =
        let g : has_few (layout_of b) ≡ true = rw e at f in
        let q : eqb (length b) (4 * size b) ≡ false = ne_eqb _ _ (λ z. n (omega (arith, size-is))) in
        rw (le-leb 24 (length b) h, g, q)

    pub is-measured : length b ≡ 4 * l.size → measured b ≡ true
    unfolding measured
    is-measured n =
        let g : has_few (layout_of b) ≡ true = rw e at f in
        let q : eqb (length b) (4 * size b) ≡ true = eq-eqb _ _ (omega (arith, size-is)) in
        rw (le-leb 24 (length b) h, g, q)

-- what the rules say
pub record Ruled (b : List ℕ) : Type 0 where
  pub ids : ids_hold b (layout_of b) ≡ true
  pub trees : trees_hold b (next b) (definitions_offset b) (definitions b) (equations_offset b) (equations b) (nodes_offset b) (nodes b) ≡ true
  pub ordered : ordered (rows (definitions b) 0 (definition_at b (definitions_offset b) (nodes_offset b) (nodes b))) ≡ true

pub rules-have : (b : List ℕ) → rules b ≡ true → Ruled b
unfolding rules
rules-have b r =
    let r1 = and_parts _ _ r in
    let r2 = and_parts _ _ r1.1 in
    record { ids = r1.0; trees = r2.0; ordered = r2.1 }

-- the rules, by the numbers of the layout
pub rules-by : (b : List ℕ) {l : Layout} → l ≡ layout_of b →
    (ids_hold b l
    && (trees_hold b l.next l.definitions_at l.definitions l.equations_at l.equations l.nodes_at l.nodes
    && ordered (rows l.definitions 0 (definition_at b l.definitions_at l.nodes_at l.nodes)))) ≡ rules b
unfolding rules layout_of
rules-by b e = rw e

pub next-small : (b : List ℕ) (l : Layout) → ids_hold b l ≡ true → l.next ≤ 65536
unfolding ids_hold
next-small b l h = leb-true _ _ (and_parts _ _ h).0

-- what a record's length and its layout say
pub within : (b : List ℕ) (l : Layout) → l ≡ layout_of b → measured b ≡ true → Within b l
unfolding layout_of
within b l e m =
    let w = measured-has b m in
    let long = w.long in
    rw e (record {
      publics = omega arith;
      provers = omega arith;
      definitions = omega arith;
      equations = omega arith;
      nodes = omega arith;
      few = w.few.nodes;
    })
