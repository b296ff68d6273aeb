-- THE LONGEST CONSTRAINT RECORD: a node of the flat record gives an equality or a kept node, never both, so no record passes OUTPUT-BYTES. Assumes nothing.
use Prim.Native.Nat.{ℕ, ◌+◌, ◌≤◌}
use mathlib.Core.Path.{◌≡◌, refl, subst}
use mathlib.Core.Bool.{Bool, true, false, not, ◌||◌}
use mathlib.Core.List.{List, [], ◌∷◌}
use mathlib.Core.Option.{none}
use native.Mathlib.Omega.{arith}
use lib.ListN.{length, length-append}
use Rattle.records.specs.FlatRecord.{IDS, NODES, PUBLICS}
use Rattle.flat.specs.Layout.{publics, next}
use Rattle.flat.specs.Readable.{Readable}
use Rattle.flat.specs.Record.{Read, flat_of, module_of}
use Rattle.flat.proofs.Rows.{length-rows}
use Rattle.flat.proofs.Reading.{accepted-readable, accepted-module}
use Rattle.flat.proofs.Sizes.{accepted-nodes}
use Rattle.flat.specs.Trees.{Definition, FlatModule, tree_nodes, definitions_nodes, module_nodes}
use Rattle.constraint.specs.declared.Term.{Term}
use Rattle.constraint.specs.Trees.{ConstraintModule}
use Rattle.constraint.specs.Record.{constraint_bytes}
use Rattle.constraint.proofs.Lengths.{tree-positive, length-bytes}
use Rattle.pass_trees.specs.Passes.{keep_if, ids_from, member, those, is_never, is_witness, usage, classify_defs, Substitutions}
use Rattle.pass_trees.specs.Passes.{copy_propagate_def, after_def, copy_propagate_defs, after_defs, copy_propagate, eliminate_dead_equalities, Cuts}
use Rattle.pass_trees.specs.Passes.{cuts_of, joined, placed, flatten_def_to_3ac, flatten_defs, flatten_lists, flatten_module_to_3ac, passes}
use Rattle.pass_trees.specs.Passes.{cut, refused}
use Rattle.pass_trees.proofs.Agreement.{accepted}
use Rattle.std.specs.Prelude.{Some}
use Rattle.pass_copies.specs.Substituted.{option_of}
use Rattle.pass_3ac.specs.Cutting.{tree_cut, equations_cut}
use Rattle.pass_3ac.proofs.Trees.{copied-nodes, cut-few}
use Rattle.pass_3ac.proofs.Equations.{few-equations}
use Rattle.pass_entry.specs.Body.{OUTPUT-BYTES}
use Rattle.pass_entry.specs.Cut.{cut_record, cut_read}
use Rattle.pass_entry.specs.Longest.{LongestLent}
use Rattle.pass_entry.proofs.Building.{ids-few, those-nodes}

-- every definition has a node
kept-long : (ds : List Definition) → length ds ≤ definitions_nodes ds
unfolding definitions_nodes
kept-long [] = omega arith
kept-long (d ∷ ds) = omega (arith, tree-positive d.right, kept-long ds)

-- definitions are cut or kept
module _ (ps : List ℕ) (k : ℕ) where
  shared : (s : Substitutions) (ds : List Definition) (n : ℕ)
      → length (flatten_defs ps (copy_propagate_defs ps k s ds) n).equalities + definitions_nodes (those (λ v. member v ps) (copy_propagate_defs ps k s ds))
      ≤ definitions_nodes ds
  unfolding copy_propagate_defs copy_propagate_def definitions_nodes flatten_defs flatten_def_to_3ac placed joined cuts_of those keep_if tree_cut option_of
  shared s [] n = omega arith
  shared s (d ∷ ds) n =
      let others = (flatten_defs ps rest one.next).equalities in
      omega (arith, length-append one.equalities others, first (member d.id ps), shared (after_def ps k s d) ds one.next)
    where
      one : Cuts
      one = flatten_def_to_3ac (member d.id ps) (copy_propagate_def k s d) n

      rest : List Definition
      rest = copy_propagate_defs ps k (after_def ps k s d) ds

      kept : List Definition
      kept = those (λ v. member v ps) rest

      first : (c : Bool) → length (flatten_def_to_3ac c (copy_propagate_def k s d) n).equalities + definitions_nodes (keep_if c (copy_propagate_def k s d) kept)
          ≤ tree_nodes d.right + definitions_nodes kept
      first true = omega (arith, copied-nodes k s d.right)
      first false = omega (arith, cut-few d.place k s d.right n (Some (Term.Variable d.id)))

module _ (f : FlatModule) where
  abbrev provers : List ℕ
  provers = ids_from (λ v. member v f.provers || is_witness (usage f v)) 0 f.next

  abbrev used : List Definition
  used = those (λ v. not (is_never (usage f v))) f.definitions

  passes-shared : length (passes f).equalities + definitions_nodes (passes f).kept ≤ module_nodes f
  unfolding passes flatten_module_to_3ac eliminate_dead_equalities copy_propagate classify_defs flatten_lists joined module_nodes equations_cut
  passes-shared =
      let k = length used in
      let x : Cuts = flatten_defs provers (copy_propagate_defs provers k (λ _. none) used) f.next in
      let s : Substitutions = after_defs provers k (λ _. none) used in
      let y : Cuts = equations_cut k s f.equations x.next in
      omega (
        arith,
        length-append x.equalities y.equalities,
        shared provers k (λ _. none) used f.next,
        those-nodes (λ v. not (is_never (usage f v))) f.definitions,
        (few-equations k s f.equations x.next).equalities,
      )

  passes-provers : length (passes f).provers ≤ f.next
  unfolding passes flatten_module_to_3ac eliminate_dead_equalities copy_propagate classify_defs
  passes-provers = ids-few (λ v. member v f.provers || is_witness (usage f v)) 0 f.next

  passes-publics : length (passes f).publics ≤ length f.publics
  unfolding passes flatten_module_to_3ac eliminate_dead_equalities copy_propagate classify_defs
  passes-publics = omega arith

  pub passes-short : length f.publics ≤ PUBLICS → f.next ≤ IDS → module_nodes f ≤ NODES → length (constraint_bytes (passes f)) ≤ OUTPUT-BYTES
  passes-short p n m = omega (arith, length-bytes (passes f), passes-publics, passes-provers, passes-shared, kept-long (passes f).kept)

-- ---- a lent record's

module-publics : (b : List ℕ) → length (module_of b).publics ≡ publics b
unfolding module_of
module-publics b = length-rows _ (publics b) 0

module-next : (b : List ℕ) → (module_of b).next ≡ next b
unfolding module_of
module-next b = refl

never-cut : (n : ℕ) (c : ConstraintModule) → refused n ≡ cut c → ⊥
never-cut n c e = let z : ◌≡◌ {A = ℕ} 0 1 = cc in omega arith

pub longest-lent : LongestLent
unfolding cut_record cut_read
longest-lent b c e = go (flat_of b) refl e
  where
    go : (r : Read) → flat_of b ≡ r → cut_read r ≡ cut c → length (constraint_bytes c) ≤ OUTPUT-BYTES
    go (Read.module-of f) h k =
        let r : Readable b = accepted-readable b f h in
        let is : module_of b ≡ f = accepted-module b f h in
        let short =
        passes-short (module_of b) (omega (arith, module-publics b, r.publics-few)) (omega (arith, module-next b, r.next_small))
        (omega (arith, accepted-nodes b f h, r.nodes-few)) in
        subst (λ (x : ConstraintModule). length (constraint_bytes x) ≤ OUTPUT-BYTES) (accepted f c k).1
        (subst (λ (g : FlatModule). length (constraint_bytes (passes g)) ≤ OUTPUT-BYTES) is short)
    go (Read.refused n) h k = absurd (never-cut _ c k)
