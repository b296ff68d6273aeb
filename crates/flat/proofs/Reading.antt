-- Reading a record: what an accepted one is, that it is readable, what a readable one has at each index, and how a written one is shown readable.
-- Assumes nothing.
use Prim.Native.Nat.{ℕ, ◌+◌, ◌-◌, ◌*◌, ◌≤◌, ◌<◌}
use mathlib.Core.Path.{◌≡◌, refl, sym, ap, ◌∙◌}
use mathlib.Core.List.{List}
use mathlib.Core.Bool.{Bool, true, false, ◌&&◌}
use native.Mathlib.Omega.{arith}
use lib.ListN.{length}
use lib.Dec.{ltb}
use borrow.Author.Tests.{ltb-true, leb-true, lt-ltb, le-leb, eq-eqb, ne_eqb}
use Rattle.std.proofs.Common.{Ok, Err}
use Rattle.std.proofs.lemmas.Bool.{and_parts}
use Rattle.words.specs.Words.{word_at}
use Rattle.records.specs.declared.refusals.Refusal.{Refusal}
use Rattle.flat.specs.Trees.{FlatModule}
use Rattle.flat.specs.Layout.{layout_of, next, publics, provers, definitions, equations, nodes, provers_offset, definitions_offset}
use Rattle.flat.specs.Layout.{equations_offset, nodes_offset, size, node_at, public_at, prover_at, definition_entry, equation_entry}
use Rattle.flat.specs.Record.{pick, has_few, ids_hold, measured, module_of, all_below, rising, definitions_fit, equations_fit, node_fits, nodes_fit}
use Rattle.flat.specs.Record.{definition_at, equation_at, tree, rules, Read, flat_of, checked}
use Rattle.flat.specs.Readable.{Readable}
use Rattle.marks.proofs.Indices.{and_left, and_right, every-at, every-from}
use Rattle.flat.proofs.Nodes.{settled}
use Rattle.flat.proofs.Answers.{measured-has, rules-have, hold-definitions, hold-equations, hold-nodes}

-- ---- accepted records

module-at : (m r : Bool) (g f : FlatModule)
    → pick m (pick r (Read.module-of g) (Read.refused Refusal.FlatRule)) (Read.refused Refusal.FlatLength) ≡ Read.module-of f
    → (m ≡ true) × (r ≡ true) × (g ≡ f)
unfolding pick
module-at true true g f h = (refl, refl, cc)
module-at true false g f h = cc
module-at false r g f h = cc

module _ (b : List ℕ) (f : FlatModule) (h : flat_of b ≡ Read.module-of f) where
  accepted-tests : (measured b ≡ true) × (rules b ≡ true) × (module_of b ≡ f)
  unfolding flat_of
  accepted-tests = module-at (measured b) (rules b) (module_of b) f h

  pub accepted-measured : measured b ≡ true
  accepted-measured = accepted-tests.0

  pub accepted-rules : rules b ≡ true
  accepted-rules = accepted-tests.1

  -- the module of an accepted record
  pub accepted-module : module_of b ≡ f
  accepted-module = accepted-tests.2

-- ---- the code's answers

answer : (t : Read) → (checked t ≡ Ok tt → (f : FlatModule) × (t ≡ Read.module-of f)) × ((r : Refusal) → checked t ≡ Err r → t ≡ Read.refused r)
unfolding checked
answer (Read.module-of f) = (λ e. (f, refl), λ r e. cc)
answer (Read.refused q) = (λ e. cc, λ r e. cc)

pub checked-accepted : (b : List ℕ) → checked (flat_of b) ≡ Ok tt → flat_of b ≡ Read.module-of (module_of b)
checked-accepted b e = let w = (answer (flat_of b)).0 e in w.1 ∙ ap (λ (f : FlatModule). Read.module-of f) (sym (accepted-module b w.0 w.1))

pub checked_refused : (b : List ℕ) (r : Refusal) → checked (flat_of b) ≡ Err r → flat_of b ≡ Read.refused r
checked_refused b r e = (answer (flat_of b)).1 r e

-- ---- accepted records are readable

pub tests-readable : (b : List ℕ) → measured b ≡ true → rules b ≡ true → Readable b
unfolding ids_hold layout_of
tests-readable b m r =
    let w = measured-has b m in
    let q = rules-have b r in
    let i1 = and_parts _ _ q.ids in
    let i2 = and_parts _ _ i1.1 in
    let i3 = and_parts _ _ i2.1 in
    record {
      long = w.long;
      publics-few = w.few.publics;
      provers-few = w.few.provers;
      definitions-few = w.few.definitions;
      equations-few = w.few.equations;
      nodes-few = w.few.nodes;
      next_small = leb-true _ _ i1.0;
      publics-below = i2.0;
      provers-below = i3.0;
      provers-rise = i3.1;
      definitions-fit = hold-definitions b _ _ _ _ _ _ _ q.trees;
      equations-fit = hold-equations b _ _ _ _ _ _ _ q.trees;
      nodes-fit = hold-nodes b _ _ _ _ _ _ _ q.trees;
    }

pub accepted-readable : (b : List ℕ) (f : FlatModule) → flat_of b ≡ Read.module-of f → Readable b
accepted-readable b f h = tests-readable b (accepted-measured b f h) (accepted-rules b f h)

pub checked-readable : (b : List ℕ) → checked (flat_of b) ≡ Ok tt → Readable b
checked-readable b e = accepted-readable b (module_of b) (checked-accepted b e)

-- ---- a readable record at each index

-- words below a limit, and words that rise
pub below_at : (b : List ℕ) (at n limit : ℕ) → all_below b at n limit ≡ true → (k : ℕ) → k < n → word_at b (at + k) < limit
unfolding all_below
below_at b at n limit h k l = ltb-true _ _ (every-at n k (λ j. ltb (word_at b (at + j)) limit) h l)

pub rising-at : (b : List ℕ) (at n : ℕ) → rising b at n ≡ true → (k : ℕ) → k + 1 < n → word_at b (at + k) < word_at b (at + k + 1)
unfolding rising
rising-at b at n h k l = ltb-true _ _ (every-at (n - 1) k (λ j. ltb (word_at b (at + j)) (word_at b (at + j + 1))) h (omega arith))

pub definition-at : (b : List ℕ) (at n limit count : ℕ) → definitions_fit b at n limit count ≡ true → (k : ℕ) → k < n
    → ((definition_entry b at k).id < limit) × ((definition_entry b at k).node < count)
unfolding definitions_fit
definition-at b at n limit count h k l =
    let g = every-at n k (λ j. ltb (definition_entry b at j).id limit && ltb (definition_entry b at j).node count) h l in
    let id-fits = ltb (definition_entry b at k).id limit in
    (ltb-true _ _ (and_left id-fits _ g), ltb-true _ _ (and_right id-fits _ g))

pub equation-at : (b : List ℕ) (at n count : ℕ) → equations_fit b at n count ≡ true → (k : ℕ) → k < n
    → ((equation_entry b at k).left < count) × ((equation_entry b at k).right < count)
unfolding equations_fit
equation-at b at n count h k l =
    let g = every-at n k (λ j. ltb (equation_entry b at j).left count && ltb (equation_entry b at j).right count) h l in
    let left-fits = ltb (equation_entry b at k).left count in
    (ltb-true _ _ (and_left left-fits _ g), ltb-true _ _ (and_right left-fits _ g))

module _ {b : List ℕ} (r : Readable b) where
  pub public-below : (k : ℕ) → k < publics b → public_at b k < next b
  public-below = below_at b 6 (publics b) (next b) r.publics-below

  pub prover-below : (k : ℕ) → k < provers b → prover_at b (provers_offset b) k < next b
  prover-below = below_at b (provers_offset b) (provers b) (next b) r.provers-below

  pub prover-rises : (k : ℕ) → k + 1 < provers b → word_at b (provers_offset b + k) < word_at b (provers_offset b + k + 1)
  prover-rises = rising-at b (provers_offset b) (provers b) r.provers-rise

  pub definition-below : (k : ℕ) → k < definitions b
      → ((definition_entry b (definitions_offset b) k).id < next b) × ((definition_entry b (definitions_offset b) k).node < nodes b)
  definition-below = definition-at b (definitions_offset b) (definitions b) (next b) (nodes b) r.definitions-fit

  pub equation-below : (k : ℕ) → k < equations b
      → ((equation_entry b (equations_offset b) k).left < nodes b) × ((equation_entry b (equations_offset b) k).right < nodes b)
  equation-below = equation-at b (equations_offset b) (equations b) (nodes b) r.equations-fit

  -- the trees of the lists, as a walk from their nodes meets them
  pub definition-tree : (k : ℕ) → k < definitions b
      → (definition_at b (definitions_offset b) (nodes_offset b) (nodes b) k).right
      ≡ tree b (nodes_offset b) ((definition_entry b (definitions_offset b) k).node + 1) (definition_entry b (definitions_offset b) k).node
  unfolding definition_at
  definition-tree k l = settled b (nodes_offset b) (nodes b) _ (definition-below k l).1

  pub left-tree : (k : ℕ) → k < equations b
      → (equation_at b (equations_offset b) (nodes_offset b) (nodes b) k).left
      ≡ tree b (nodes_offset b) ((equation_entry b (equations_offset b) k).left + 1) (equation_entry b (equations_offset b) k).left
  unfolding equation_at
  left-tree k l = settled b (nodes_offset b) (nodes b) _ (equation-below k l).0

  pub right-tree : (k : ℕ) → k < equations b
      → (equation_at b (equations_offset b) (nodes_offset b) (nodes b) k).right
      ≡ tree b (nodes_offset b) ((equation_entry b (equations_offset b) k).right + 1) (equation_entry b (equations_offset b) k).right
  unfolding equation_at
  right-tree k l = settled b (nodes_offset b) (nodes b) _ (equation-below k l).1

  pub readable-measured : measured b ≡ true
  unfolding measured has_few layout_of
  readable-measured =
      rw (
        le-leb 24 (length b) (omega arith),
        le-leb (publics b) 64 r.publics-few,
        le-leb (provers b) 4096 r.provers-few,
        le-leb (definitions b) 4096 r.definitions-few,
        le-leb (equations b) 4096 r.equations-few,
        le-leb (nodes b) 16384 r.nodes-few,
        eq-eqb (length b) (4 * size b) r.long,
      )

-- ---- what was written is readable: each test from what holds at each index

pub below-from : (b : List ℕ) (at n limit : ℕ) → ((k : ℕ) → k < n → word_at b (at + k) < limit) → all_below b at n limit ≡ true
unfolding all_below
below-from b at n limit h = every-from n _ (λ k l. lt-ltb _ _ (h k l))

pub rising-from : (b : List ℕ) (at n : ℕ) → ((k : ℕ) → k + 1 < n → word_at b (at + k) < word_at b (at + k + 1)) → rising b at n ≡ true
unfolding rising
rising-from b at n h = every-from (n - 1) _ (λ k l. lt-ltb _ _ (h k (omega arith)))

pub definitions-from : (b : List ℕ) (at n limit count : ℕ)
    → ((k : ℕ) → k < n → ((definition_entry b at k).id < limit) × ((definition_entry b at k).node < count))
    → definitions_fit b at n limit count ≡ true
unfolding definitions_fit
definitions-from b at n limit count h =
    every-from n _ (λ k l. rw (lt-ltb (definition_entry b at k).id limit (h k l).0, lt-ltb (definition_entry b at k).node count (h k l).1))

pub equations-from : (b : List ℕ) (at n count : ℕ) → ((k : ℕ) → k < n → ((equation_entry b at k).left < count) × ((equation_entry b at k).right < count))
    → equations_fit b at n count ≡ true
unfolding equations_fit
equations-from b at n count h =
    every-from n _ (λ k l. rw (lt-ltb (equation_entry b at k).left count (h k l).0, lt-ltb (equation_entry b at k).right count (h k l).1))

pub nodes-from : (b : List ℕ) (at n limit : ℕ) → ((k : ℕ) → k < n → node_at b at k (node_fits limit k) ≡ true) → nodes_fit b at n limit ≡ true
unfolding nodes_fit
nodes-from b at n limit h = every-from n _ h

-- a node fits, by its kind
module _ (limit k kind x y z : ℕ) where
  pub fit-4 : kind ≡ 4 → x < k → y < k → z ≤ 8 → node_fits limit k kind x y z ≡ true
  unfolding node_fits pick
  fit-4 e p q r = rw (eq-eqb kind 4 e, lt-ltb x k p, lt-ltb y k q, le-leb z 8 r)

  pub fit-5 : kind ≡ 5 → x < k → y ≡ 0 → z ≡ 0 → node_fits limit k kind x y z ≡ true
  unfolding node_fits pick
  fit-5 e p q r = rw (ne_eqb kind 4 (λ w. omega arith), eq-eqb kind 5 e, lt-ltb x k p, eq-eqb y 0 q, eq-eqb z 0 r)

  pub fit-7 : kind ≡ 7 → y ≡ 0 → z ≡ 0 → node_fits limit k kind x y z ≡ true
  unfolding node_fits pick
  fit-7 e q r = rw (ne_eqb kind 4 (λ w. omega arith), ne_eqb kind 5 (λ w. omega arith), eq-eqb kind 7 e, eq-eqb y 0 q, eq-eqb z 0 r)

  pub fit-8 : kind ≡ 8 → x < limit → y ≡ 0 → z ≡ 0 → node_fits limit k kind x y z ≡ true
  unfolding node_fits pick
  fit-8 e p q r = rw (
    ne_eqb kind 4 (λ w. omega arith),
    ne_eqb kind 5 (λ w. omega arith),
    ne_eqb kind 7 (λ w. omega arith),
    eq-eqb kind 8 e,
    lt-ltb x limit p,
    eq-eqb y 0 q,
    eq-eqb z 0 r,
  )
