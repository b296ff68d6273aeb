-- Marks of nodes: what the children of a node add, and the turns of the loops over nodes, definitions and equations. Assumes nothing.
use Prim.Native.Nat.{ℕ, ◌+◌, ◌≤◌, ◌<◌}
use mathlib.Core.Path.{◌≡◌, refl, sym, ap, ◌∙◌}
use mathlib.Core.List.{List}
use mathlib.Core.Bool.{Bool, true, false, ◌&&◌, and-false}
use native.Mathlib.Omega.{arith}
use lib.Dec.{leb, ltb}
use borrow.Author.Tests.{eq-eqb, ne_eqb, lt-ltb, le-ltb}
use Rattle.marks.specs.declared.Uses.{Uses}
use Rattle.marks.specs.Marks.{Adds, used}
use Rattle.marks.proofs.Indices.{every-fails, every_more, total-more}
use Rattle.marks.proofs.Counted.{adds-use, adds_none, adds-more, adds_same}
use Rattle.records.specs.declared.nodes.NodeEntry.{NodeEntry}
use Rattle.flat.specs.declared.entries.DefinitionEntry.{DefinitionEntry}
use Rattle.flat.specs.declared.entries.EquationEntry.{EquationEntry}
use Rattle.flat.specs.Layout.{node_at, node_entry, definition_entry, equation_entry}
use Rattle.flat.specs.Record.{pick, same, every, total, used_by, node_fits, nodes_fit, by_nodes, by_definitions, by_equations, definitions_fit, equations_fit}
use Rattle.flat.proofs.Nodes.{fits-4, fits-5, node-by}

-- the children of a node
used-4 : (k kind x y z : ℕ) → kind ≡ 4 → used_by k kind x y z ≡ same x k + same y k
unfolding used_by pick
used-4 k kind x y z e = rw (eq-eqb kind 4 e)

used-5 : (k kind x y z : ℕ) → (kind ≡ 4 → ⊥) → kind ≡ 5 → used_by k kind x y z ≡ same x k
unfolding used_by pick
used-5 k kind x y z n e = rw (ne_eqb kind 4 n, eq-eqb kind 5 e)

used-none : (k kind x y z : ℕ) → (kind ≡ 4 → ⊥) → (kind ≡ 5 → ⊥) → used_by k kind x y z ≡ 0
unfolding used_by pick
used-none k kind x y z n e = rw (ne_eqb kind 4 n, ne_eqb kind 5 e)

module _ (kind x y : ℕ) where
  pub children-4 : {m m' m'' : List Uses} → kind ≡ 4 → m' ≡ used m x → m'' ≡ used m' y → Adds m m'' (λ k. used_by k kind x y 0)
  children-4 e p q = adds-more (λ k. used_by k kind x y 0) (adds-use x p) (adds-use y q) (λ k. used-4 k kind x y 0 e)

  pub children-5 : {m m' : List Uses} → kind ≡ 5 → m' ≡ used m x → Adds m m' (λ k. used_by k kind x y 0)
  children-5 e p = adds_same (λ k. used_by k kind x y 0) (adds-use x p) (λ k. used-5 k kind x y 0 (λ q. omega arith) e)

  pub children-none : (m : List Uses) → (kind ≡ 4 → ⊥) → (kind ≡ 5 → ⊥) → Adds m m (λ k. used_by k kind x y 0)
  children-none m n e = adds_none m _ (λ k. used-none k kind x y 0 n e)

-- an infix node whose children stand before it
pub infix-fits : (limit k kind x y z : ℕ) → kind ≡ 4 → x < k → ltb y k ≡ true → leb z 8 ≡ node_fits limit k kind x y z
unfolding node_fits pick
infix-fits limit k kind x y z e p q = rw (eq-eqb kind 4 e, lt-ltb x k p, q)

-- a node that fits has its children before it
pub children-below : (limit k : ℕ) (w : NodeEntry) {t : Bool} → t ≡ node_fits limit k w.kind w.a w.b w.c → t ≡ true → k < 16384
    → (w.kind ≡ 4 → (w.a < 16384) × (w.b < 16384)) × (w.kind ≡ 5 → w.a < 16384)
children-below limit k w e h l =
    let g : node_fits limit k w.kind w.a w.b w.c ≡ true = sym e ∙ h in
    (λ q. let f = fits-4 w.kind w.a w.b w.c limit k g q in (omega (arith, f.0), omega (arith, f.1)), λ q. omega (arith, fits-5 w.kind w.a w.b w.c limit k g q))

-- a turn of the loop over nodes
pub nodes-fail : (b : List ℕ) (at n limit k : ℕ) {w : NodeEntry} {t : Bool} → k < n → w ≡ node_entry b at k → t ≡ node_fits limit k w.kind w.a w.b w.c
    → t ≡ false → false ≡ nodes_fit b at n limit
unfolding nodes_fit
nodes-fail b at n limit k l p e h = every-fails n k _ l (node-by b at k (node_fits limit k) p ∙ sym e ∙ h)

pub nodes-more : (b : List ℕ) (at limit k : ℕ) {w : NodeEntry} {t : Bool} {m m' m'' : List Uses} → (nodes_fit b at k limit ≡ true)
    → Adds m m' (by_nodes b at k) → w ≡ node_entry b at k → t ≡ node_fits limit k w.kind w.a w.b w.c → t ≡ true
    → Adds m' m'' (λ j. used_by j w.kind w.a w.b 0) → (nodes_fit b at (k + 1) limit ≡ true) × Adds m m'' (by_nodes b at (k + 1))
unfolding nodes_fit by_nodes used_by
nodes-more b at limit k a c p e h d = (
  every_more k _ a (node-by b at k (node_fits limit k) p ∙ sym e ∙ h),
  adds-more (by_nodes b at (k + 1)) c d
      (λ j. total-more k (λ i. node_at b at i (used_by j)) ∙ ap (λ (w : ℕ). by_nodes b at k j + w) (node-by b at k (used_by j) p)),
)

pub nodes-none : (b : List ℕ) (at limit : ℕ) (m : List Uses) → (nodes_fit b at 0 limit ≡ true) × Adds m m (by_nodes b at 0)
unfolding nodes_fit by_nodes every total
nodes-none b at limit m = (refl, adds_none m _ (λ k. refl))

-- a turn of the loop over definitions
abbrev defined : List ℕ → ℕ → ℕ → ℕ → ℕ → Bool
defined b at limit count j = ltb (definition_entry b at j).id limit && ltb (definition_entry b at j).node count

module _ (b : List ℕ) (at limit count k : ℕ) {d : DefinitionEntry} (e : d ≡ definition_entry b at k) where
  pub defs-id : (n : ℕ) → k < n → limit ≤ d.id → false ≡ definitions_fit b at n limit count
  unfolding definitions_fit
  defs-id n l h = every-fails n k (defined b at limit count) l (let g = rw e at (le-ltb d.id limit h) in rw g)

  pub defs-node : (n : ℕ) → k < n → count ≤ d.node → false ≡ definitions_fit b at n limit count
  unfolding definitions_fit
  defs-node n l h = every-fails n k (defined b at limit count) l (let g = rw e at (le-ltb d.node count h) in rw (g, and-false))

  pub defs-more : {m m' m'' : List Uses} → (definitions_fit b at k limit count ≡ true) → Adds m m' (by_definitions b at k) → d.id < limit → d.node < count
      → m'' ≡ used m' d.node → (definitions_fit b at (k + 1) limit count ≡ true) × Adds m m'' (by_definitions b at (k + 1))
  unfolding definitions_fit by_definitions
  defs-more a c h g q = (
    every_more k (defined b at limit count) a (let u = rw e at (lt-ltb d.id limit h) in let v = rw e at (lt-ltb d.node count g) in rw (u, v)),
    adds-more (by_definitions b at (k + 1)) c (adds-use d.node q)
        (λ j. total-more k (λ i. same (definition_entry b at i).node j) ∙ ap (λ (f : DefinitionEntry). by_definitions b at k j + same f.node j) (sym e)),
  )

pub defs-none : (b : List ℕ) (at limit count : ℕ) (m : List Uses) → (definitions_fit b at 0 limit count ≡ true) × Adds m m (by_definitions b at 0)
unfolding definitions_fit by_definitions every total
defs-none b at limit count m = (refl, adds_none m _ (λ k. refl))

-- a turn of the loop over equations
abbrev sides_fit : List ℕ → ℕ → ℕ → ℕ → Bool
sides_fit b at count j = ltb (equation_entry b at j).left count && ltb (equation_entry b at j).right count

module _ (b : List ℕ) (at count k : ℕ) {d : EquationEntry} (e : d ≡ equation_entry b at k) where
  pub equations-left : (n : ℕ) → k < n → count ≤ d.left → false ≡ equations_fit b at n count
  unfolding equations_fit
  equations-left n l h = every-fails n k (sides_fit b at count) l (let g = rw e at (le-ltb d.left count h) in rw g)

  pub equations-right : (n : ℕ) → k < n → count ≤ d.right → false ≡ equations_fit b at n count
  unfolding equations_fit
  equations-right n l h = every-fails n k (sides_fit b at count) l (let g = rw e at (le-ltb d.right count h) in rw (g, and-false))

  pub equations-more : {m m' m₂ m₃ : List Uses} → (equations_fit b at k count ≡ true) → Adds m m' (by_equations b at k) → d.left < count → d.right < count
      → m₂ ≡ used m' d.left → m₃ ≡ used m₂ d.right → (equations_fit b at (k + 1) count ≡ true) × Adds m m₃ (by_equations b at (k + 1))
  unfolding equations_fit by_equations
  equations-more a c h g q r = (
    every_more k (sides_fit b at count) a (let u = rw e at (lt-ltb d.left count h) in let v = rw e at (lt-ltb d.right count g) in rw (u, v)),
    adds-more (by_equations b at (k + 1)) c (adds-more (λ j. same d.left j + same d.right j) (adds-use d.left q) (adds-use d.right r) (λ j. refl))
        (λ j. total-more k (λ i. same (equation_entry b at i).left j + same (equation_entry b at i).right j)
        ∙ ap (λ (f : EquationEntry). by_equations b at k j + (same f.left j + same f.right j)) (sym e)),
  )

pub equations-none : (b : List ℕ) (at count : ℕ) (m : List Uses) → (equations_fit b at 0 count ≡ true) × Adds m m (by_equations b at 0)
unfolding equations_fit by_equations every total
equations-none b at count m = (refl, adds_none m _ (λ k. refl))
