-- The definitions on small records: case F is its module; one byte less is 20, an id that is not below the next id is 21. Assumes nothing.
use Prim.Native.Nat.{ℕ}
use mathlib.Core.Path.{◌≡◌, refl}
use mathlib.Core.List.{List, [], ◌∷◌}
use lib.IntN.{pos}
use lib.ListN.{take}
use Rattle.words.specs.Words.{word_at, set_word, bytes_of}
use Rattle.field.specs.declared.InfixOp.TheVariants.{Multiply, Add}
use Rattle.records.specs.declared.refusals.Refusal.{Refusal}
use Rattle.flat.specs.Trees.{Flat, FlatModule, defines, every_id}
use Rattle.flat.specs.Layout.{layout_of, node_at}
use Rattle.flat.specs.Record.{has_few, ids_hold, every, total, rows, pick, measured, operator_of, node_for, node_of, grown, tree, definition_at}
use Rattle.flat.specs.Record.{equation_at, module_of, all_below, rising, definitions_fit, equations_fit, node_fits, nodes_fit, same}
use Rattle.flat.specs.Record.{used_by, by_nodes, by_definitions, by_equations, used_once, trees_hold, ordered, rules, flat_of, Read}

-- "next id 10, no publics, no prover ids, definition 2 = (v0 + 1) * v0, equation v2 = v1", the places 3 and 8
unfoldable pub record_f : List ℕ
record_f =
    bytes_of
    (10 ∷ 0 ∷ 0 ∷ 1 ∷ 1 ∷ 7 ∷ 2 ∷ 4 ∷ 3 ∷ 5 ∷ 6 ∷ 8
    ∷ 8 ∷ 0 ∷ 0 ∷ 0
    ∷ 7 ∷ 1 ∷ 0 ∷ 0
    ∷ 4 ∷ 0 ∷ 1 ∷ 3
    ∷ 8 ∷ 0 ∷ 0 ∷ 0
    ∷ 4 ∷ 2 ∷ 3 ∷ 2
    ∷ 8 ∷ 2 ∷ 0 ∷ 0
    ∷ 8 ∷ 1 ∷ 0 ∷ 0
    ∷ [])

unfoldable pub module_f : FlatModule
module_f = record {
  next = 10;
  publics = [];
  provers = [];
  definitions =
      record { id = 2; right = Flat.infixed Multiply (Flat.infixed Add (Flat.variable 0) (Flat.constant (pos 1))) (Flat.variable 0); place = 3 } ∷ [];
  equations = record { left = Flat.variable 2; right = Flat.variable 1; place = 8 } ∷ [];
}

pub case-F : flat_of record_f ≡ Read.module-of module_f
unfolding record_f module_f word_at bytes_of defines every_id every total rows pick has_few ids_hold layout_of measured
    node_at operator_of node_for node_of grown tree definition_at
    equation_at module_of all_below rising definitions_fit equations_fit node_fits nodes_fit same used_by by_nodes by_definitions by_equations used_once
    trees_hold ordered rules flat_of
case-F = refl

pub case-short : flat_of (take 159 record_f) ≡ Read.refused Refusal.FlatLength
unfolding record_f word_at bytes_of pick has_few layout_of measured flat_of
case-short = refl

pub case-next : flat_of (set_word record_f 0 2) ≡ Read.refused Refusal.FlatRule
unfolding record_f word_at set_word bytes_of defines every_id every total rows pick has_few ids_hold layout_of measured
    node_at operator_of node_for node_of grown tree definition_at all_below
    rising definitions_fit equations_fit node_fits nodes_fit same used_by by_nodes by_definitions by_equations used_once trees_hold ordered rules flat_of
case-next = refl
