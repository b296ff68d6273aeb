-- A record's words: v5 = v0 + 1 and v5 = -v1 of place 0, v5 = -2 of place 2, with next id 8, public v0 twice, and v6 kept as -(v5 * 7) for the prover,
-- of place 1.
use Rattle.std.specs.Prelude.{◌≡◌, refl, List, [], ◌∷◌, ◌++◌, ℕ, pos, negsuc}
use Rattle.field.specs.declared.InfixOp.{InfixOp}
use Rattle.flat.specs.Trees.{Flat, tree_nodes, definitions_nodes}
use Rattle.constraint.specs.declared.Term.{Term}
use Rattle.constraint.specs.Trees.{Side, ConstraintModule, operation, first, second, written_of}
use Rattle.constraint.specs.Record.{number_word, term_words, operation_word, written_words, equality_words, equalities_words, next_from}
use Rattle.constraint.specs.Record.{root_from, node_words, nodes_from, definition_words, definitions_words, definitions_trees, header_words, constraint_words}

abbrev pub example : ConstraintModule
example =
    record {
      next = 8;
      publics = 0 ∷ 0 ∷ [];
      provers = 6 ∷ [];
      equalities =
          record { left = Term.Variable 5; right = Side.infixed InfixOp.Add (Term.Variable 0) (Term.Constant (pos 1)); place = 0 }
          ∷ record { left = Term.Variable 5; right = Side.negate (Term.Variable 1); place = 0 }
          ∷ record { left = Term.Variable 5; right = Side.copy (Term.Constant (negsuc 1)); place = 2 }
          ∷ [];
      kept = record { id = 6; right = Flat.negate (Flat.infixed InfixOp.Multiply (Flat.variable 5) (Flat.constant (pos 7))); place = 1 } ∷ [];
    }

abbrev pub example-words : List ℕ
example-words =
    (8 ∷ 2 ∷ 1 ∷ 3 ∷ 1 ∷ 4 ∷ [])
    ++ ((0 ∷ 0 ∷ 6 ∷ [])
    ++ ((0 ∷ 5 ∷ 3 ∷ 0 ∷ 0 ∷ 1 ∷ 1 ∷ 0 ∷ [])
    ++ ((0 ∷ 5 ∷ 9 ∷ 0 ∷ 1 ∷ 0 ∷ 0 ∷ 0 ∷ [])
    ++ ((0 ∷ 5 ∷ 10 ∷ 1 ∷ 4294967294 ∷ 0 ∷ 0 ∷ 2 ∷ [])
    ++ ((6 ∷ 3 ∷ 1 ∷ [])
    ++ ((8 ∷ 5 ∷ 0 ∷ 0 ∷ [])
    ++ ((7 ∷ 7 ∷ 0 ∷ 0 ∷ [])
    ++ ((4 ∷ 0 ∷ 1 ∷ 2 ∷ [])
    ++ (5 ∷ 2 ∷ 0 ∷ 0 ∷ [])))))))))

pub example-written : constraint_words example ≡ example-words
unfolding operation first second written_of number_word term_words operation_word written_words equality_words equalities_words next_from root_from node_words
    nodes_from definition_words definitions_words definitions_trees tree_nodes definitions_nodes header_words constraint_words
example-written = refl
