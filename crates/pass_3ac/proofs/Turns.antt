-- The loops over definitions and equations: where they start, a turn, and where they end. Assumes nothing.
use mathlib.Core.Path.{◌≡◌, ap}
use mathlib.Core.List.{List, [], ◌∷◌}
use Prim.Native.Nat.{ℕ, ◌+◌, ◌≤◌, ◌<◌}
use native.Mathlib.Omega.{arith}
use lib.ListN.{length}
use Rattle.flat.specs.declared.entries.DefinitionEntry.{DefinitionEntry}
use Rattle.flat.specs.declared.entries.EquationEntry.{EquationEntry}
use Rattle.flat.specs.Trees.{Flat, Definition, tree_nodes, definitions_nodes, equations_nodes}
use Rattle.flat.specs.Layout.{definitions, equations, nodes, definitions_offset, equations_offset, definition_entry, equation_entry}
use Rattle.flat.specs.Record.{module_of}
use Rattle.pass_trees.specs.Passes.{Substitutions}
use Rattle.pass_classify.proofs.Lists.{definitions_from, equations_from, definitions-none, equations-none, definitions-whole}
use Rattle.pass_classify.proofs.Lists.{equations-whole, definitions-more, equations-more}
use Rattle.pass_classify.specs.Readable.{tree_of}
use Rattle.pass_copies.specs.declared.Substitute.{Substitute}
use Rattle.pass_copies.specs.Substituted.{subst_of}
use Rattle.pass_3ac.specs.Cutting.{Place}
use Rattle.pass_3ac.specs.Cutting.{defs_cut, equations_cut, DefsPut, Room}
use Rattle.pass_3ac.proofs.Ways.{room-less}
use Rattle.pass_3ac.proofs.Joining.{Puts, room-puts}
use Rattle.pass_3ac.proofs.Definitions.{leave_none, leave-join, few-def}
use Rattle.pass_3ac.proofs.Equations.{put-equations-none, put-equations-join, few-equation}

-- ---- definitions

-- what the definitions from index j on leave of the present state, all of them leave of the first one
abbrev pub DefsFrom : List ℕ → ℕ → List Substitute → List ℕ → ℕ → ℕ → List Substitute → List ℕ → ℕ → ℕ → ℕ → Type 0
DefsFrom b k m₀ c₀ at₀ n₀ m c at n j = (m' : List Substitute) (c' : List ℕ) (r : Place) → DefsPut b k (definitions_from b j) m m' c c' at n r →
    DefsPut b k (module_of b).definitions m₀ m' c₀ c' at₀ n₀ r

pub defs-start : (b : List ℕ) (k : ℕ) (m : List Substitute) (c : List ℕ) (at n : ℕ) → DefsFrom b k m c at n m c at n 0
defs-start b k m c at n m' c' r l = rw (definitions-whole b) l

pub room-start : (b : List ℕ) {at n : ℕ} {c : List ℕ} → Room (definitions_nodes (module_of b).definitions) at n c
    → Room (definitions_nodes (definitions_from b 0)) at n c
room-start b h = rw (definitions-whole b) at h

module _ (b : List ℕ) {j : ℕ} where
  pub defs-end : definitions b ≤ j → (k : ℕ) (m₀ : List Substitute) (c₀ : List ℕ) (at₀ n₀ : ℕ) (m : List Substitute) (c : List ℕ) (at n : ℕ) →
      DefsFrom b k m₀ c₀ at₀ n₀ m c at n j → DefsPut b k (module_of b).definitions m₀ m c₀ c at₀ n₀ (record { next = n; at = at })
  defs-end h k m₀ c₀ at₀ n₀ m c at n f = f m c _ (rw (definitions-none b j h) (leave_none b k m c at n))

  module _ {entry : DefinitionEntry} (h : j < definitions b) (read : entry ≡ definition_entry b (definitions_offset b) j)
      (within : (entry.id < 65536) × (entry.node < nodes b)) where
    abbrev right : Flat
    right = tree_of b entry.node

    abbrev this : Definition
    this = record { id = entry.id; right = right; place = entry.place }

    size : definitions_nodes (definitions_from b j) ≡ tree_nodes right + definitions_nodes (definitions_from b (j + 1))
    unfolding definitions_nodes
    size = ap definitions_nodes (definitions-more b h read within)

    pub room-def : {at n : ℕ} {c : List ℕ} → Room (definitions_nodes (definitions_from b j)) at n c → Room (tree_nodes right) at n c
    room-def g = room-less _ g (omega (arith, size))

    module _ (k : ℕ) (m m1 : List Substitute) (c : List ℕ) {c1 : List ℕ} (at n : ℕ) {a : Place} (l1 : DefsPut b k (this ∷ []) m m1 c c1 at n a) where
      pub defs-turn : length m ≡ 65536 → (m₀ : List Substitute) (c₀ : List ℕ) (at₀ n₀ : ℕ) → DefsFrom b k m₀ c₀ at₀ n₀ m c at n j →
          DefsFrom b k m₀ c₀ at₀ n₀ m1 c1 a.at a.next (j + 1)
      defs-turn long m₀ c₀ at₀ n₀ f m' c' z l2 =
          f m' c' z (rw (definitions-more b h read within) (leave-join b k this (definitions_from b (j + 1)) m m1 m' c at n long within.0 l1 l2))

      pub room-turn : Room (definitions_nodes (definitions_from b j)) at n c → Room (definitions_nodes (definitions_from b (j + 1))) a.at a.next c1
      room-turn g =
          room-puts (defs_cut b k (subst_of m) (this ∷ []) n) (tree_nodes right) _
          (few-def b k (subst_of m) entry.id right entry.place n) (l1.0, l1.1) (rw size at g)

-- ---- equations

abbrev pub EquationsFrom : List ℕ → ℕ → Substitutions → List ℕ → ℕ → ℕ → List ℕ → ℕ → ℕ → ℕ → Type 0
EquationsFrom b k s c₀ at₀ n₀ c at n j =
    (c' : List ℕ) (r : Place) → Puts c c' at (equations_cut k s (equations_from b j) n) r → Puts c₀ c' at₀ (equations_cut k s (module_of b).equations n₀) r

pub equations-start : (b : List ℕ) (k : ℕ) (s : Substitutions) (c : List ℕ) (at n : ℕ) → EquationsFrom b k s c at n c at n 0
equations-start b k s c at n c' r l = rw (equations-whole b) l

pub room-equations-start : (b : List ℕ) {at n : ℕ} {c : List ℕ} → Room (equations_nodes (module_of b).equations) at n c
    → Room (equations_nodes (equations_from b 0)) at n c
room-equations-start b h = rw (equations-whole b) at h

module _ (b : List ℕ) {j : ℕ} where
  pub equations-end : equations b ≤ j → (k : ℕ) (s : Substitutions) (c₀ : List ℕ) (at₀ n₀ : ℕ) (c : List ℕ) (at n : ℕ) → EquationsFrom b k s c₀ at₀ n₀ c at n j
      → Puts c₀ c at₀ (equations_cut k s (module_of b).equations n₀) (record { next = n; at = at })
  equations-end h k s c₀ at₀ n₀ c at n f = f c _ (rw (equations-none b j h) (put-equations-none k s c at n))

  module _ {entry : EquationEntry} (h : j < equations b) (read : entry ≡ equation_entry b (equations_offset b) j)
      (within : (entry.left < nodes b) × (entry.right < nodes b)) where
    abbrev x : Flat
    x = tree_of b entry.left

    abbrev y : Flat
    y = tree_of b entry.right

    sizes : equations_nodes (equations_from b j) ≡ tree_nodes x + tree_nodes y + equations_nodes (equations_from b (j + 1))
    unfolding equations_nodes
    sizes = ap equations_nodes (equations-more b h read within)

    pub room-equation : {at n : ℕ} {c : List ℕ} → Room (equations_nodes (equations_from b j)) at n c → Room (tree_nodes x + tree_nodes y) at n c
    room-equation g = room-less _ g (omega (arith, sizes))

    module _ (k : ℕ) (s : Substitutions) (c : List ℕ) {c1 : List ℕ} (at n : ℕ) {a : Place}
        (l1 : Puts c c1 at (equations_cut k s (record { left = x; right = y; place = entry.place } ∷ []) n) a) where
      pub equations-turn : (c₀ : List ℕ) (at₀ n₀ : ℕ) → EquationsFrom b k s c₀ at₀ n₀ c at n j → EquationsFrom b k s c₀ at₀ n₀ c1 a.at a.next (j + 1)
      equations-turn c₀ at₀ n₀ f c' z l2 =
          f c' z (rw (equations-more b h read within)
          (put-equations-join k s (record { left = x; right = y; place = entry.place }) (equations_from b (j + 1)) c at n l1 l2))

      pub room-equations-turn : Room (equations_nodes (equations_from b j)) at n c → Room (equations_nodes (equations_from b (j + 1))) a.at a.next c1
      room-equations-turn g =
          room-puts (equations_cut k s (record { left = x; right = y; place = entry.place } ∷ []) n) (tree_nodes x + tree_nodes y) _
          (few-equation k s x y entry.place n) l1 (rw sizes at g)
