-- Loops over the lists of a readable record: what is left of a list from an index on, and what the code knows at each index. Assumes nothing.
use Prim.Native.Nat.{ℕ, suc, ◌+◌, ◌-◌, ◌≤◌, ◌<◌}
use mathlib.Core.Path.{◌≡◌, sym, ap, ◌∙◌}
use mathlib.Core.List.{List, [], ◌∷◌}
use native.Mathlib.Numerals.{add-one}
use native.Mathlib.Omega.{arith}
use Rattle.flat.specs.declared.entries.DefinitionEntry.{DefinitionEntry}
use Rattle.flat.specs.declared.entries.EquationEntry.{EquationEntry}
use Rattle.flat.specs.Trees.{Definition, Equation}
use Rattle.flat.specs.Layout.{provers, definitions, equations, nodes, provers_offset, definitions_offset}
use Rattle.flat.specs.Layout.{equations_offset, nodes_offset, prover_at, definition_entry, equation_entry}
use Rattle.flat.specs.Record.{rows, definition_at, equation_at, module_of}
use Rattle.flat.proofs.Nodes.{settled}
use Rattle.flat.proofs.Parts.{id-is, node-is, place_is, left_is, right_is, equation_place-is}
use Rattle.pass_classify.specs.Readable.{tree_of}

-- ---- rows from an index on

module _ {A : Type 0} (n k : ℕ) (f : ℕ → A) where
  rows_more : k < n → rows (n - k) k f ≡ f k ∷ rows (n - (k + 1)) (k + 1) f
  unfolding rows
  rows_more l = let e : n - k ≡ suc (n - (k + 1)) = omega arith in rw (e, add-one)

  rows_none : n ≤ k → rows (n - k) k f ≡ []
  unfolding rows
  rows_none l = let e : n - k ≡ 0 = omega arith in rw e

rows_whole : {A : Type 0} (n : ℕ) (f : ℕ → A) → rows n 0 f ≡ rows (n - 0) 0 f
rows_whole n f = let e : n ≡ n - 0 = omega arith in ap (λ (m : ℕ). rows m 0 f) e

-- the prover ids, definitions and equations from index k on
module _ (b : List ℕ) (k : ℕ) where
  unfoldable pub provers_from : List ℕ
  provers_from = rows (provers b - k) k (prover_at b (provers_offset b))

  unfoldable pub definitions_from : List Definition
  definitions_from = rows (definitions b - k) k (definition_at b (definitions_offset b) (nodes_offset b) (nodes b))

  unfoldable pub equations_from : List Equation
  equations_from = rows (equations b - k) k (equation_at b (equations_offset b) (nodes_offset b) (nodes b))

  pub provers-none : provers b ≤ k → provers_from ≡ []
  unfolding provers_from
  provers-none l = rows_none (provers b) k _ l

  pub definitions-none : definitions b ≤ k → definitions_from ≡ []
  unfolding definitions_from
  definitions-none l = rows_none (definitions b) k _ l

  pub equations-none : equations b ≤ k → equations_from ≡ []
  unfolding equations_from
  equations-none l = rows_none (equations b) k _ l

module _ (b : List ℕ) where
  pub provers-whole : (module_of b).provers ≡ provers_from b 0
  unfolding module_of provers_from
  provers-whole = rows_whole (provers b) _

  pub definitions-whole : (module_of b).definitions ≡ definitions_from b 0
  unfolding module_of definitions_from
  definitions-whole = rows_whole (definitions b) _

  pub equations-whole : (module_of b).equations ≡ equations_from b 0
  unfolding module_of equations_from
  equations-whole = rows_whole (equations b) _

-- ---- what stands at an index

module _ (b : List ℕ) {k id : ℕ} (h : k < provers b) (read : id ≡ prover_at b (provers_offset b) k) where
  pub provers-more : provers_from b k ≡ id ∷ provers_from b (k + 1)
  unfolding provers_from
  provers-more = rows_more (provers b) k _ h ∙ ap (λ (x : ℕ). x ∷ provers_from b (k + 1)) (sym read)

-- a definition that was read
module _ (b : List ℕ) {k : ℕ} {entry : DefinitionEntry} (h : k < definitions b) (read : entry ≡ definition_entry b (definitions_offset b) k)
    (within : (entry.id < 65536) × (entry.node < nodes b)) where
  pub definitions-more : definitions_from b k ≡ record { id = entry.id; right = tree_of b entry.node; place = entry.place } ∷ definitions_from b (k + 1)
  unfolding definitions_from definition_at
  definitions-more =
      rows_more (definitions b) k _ h ∙ rw (← id-is read, ← node-is read, ← place_is read, settled b (nodes_offset b) (nodes b) entry.node within.1)

-- an equation that was read
module _ (b : List ℕ) {k : ℕ} {entry : EquationEntry} (h : k < equations b) (read : entry ≡ equation_entry b (equations_offset b) k)
    (within : (entry.left < nodes b) × (entry.right < nodes b)) where
  pub equations-more : equations_from b k
      ≡ record { left = tree_of b entry.left; right = tree_of b entry.right; place = entry.place } ∷ equations_from b (k + 1)
  unfolding equations_from equation_at
  equations-more =
      let left-settled = settled b (nodes_offset b) (nodes b) entry.left within.0 in
      let right-settled = settled b (nodes_offset b) (nodes b) entry.right within.1 in
      rows_more (equations b) k _ h ∙ rw (← left_is read, ← right_is read, ← equation_place-is read, left-settled, right-settled)
