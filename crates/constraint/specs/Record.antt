-- The constraint record: its words, and its bytes. For a reader with docs/RECORDS.md, "Constraint record", beside it.
use Rattle.std.specs.Prelude.{List, [], ◌∷◌, ◌++◌, ℕ, length}
use Rattle.words.specs.Words.{bytes_of}
use Rattle.flat.specs.Trees.{definitions_nodes}
use Rattle.flat.specs.Layout.{DEFINITION-WORDS}
unfoldable pub use Rattle.flat.specs.Layout.{node_words, definition_words, header_words}
unfoldable pub use Rattle.flat.specs.Writer.{number_word, next_from, root_from, nodes_from, definitions_words, definitions_trees}
use Rattle.constraint.specs.declared.Operation.{Operation}
use Rattle.constraint.specs.declared.Equality.{Equality as Written}
use Rattle.constraint.specs.declared.Term.{Term}
use Rattle.constraint.specs.Trees.{Equality, ConstraintModule, written}
use Rattle.field.specs.Operators.{operator_number}

-- the operations that are no operators
abbrev pub NEGATE : ℕ
NEGATE = 9

abbrev pub COPY : ℕ
COPY = 10

-- the words of an equality, of a kept definition, which is a flat record's, and of a term
abbrev pub EQUALITY-WORDS : ℕ
EQUALITY-WORDS = 8

-- where among them its place stands, the last
abbrev pub PLACE-WORD : ℕ
PLACE-WORD = 7

abbrev pub KEPT-WORDS : ℕ
KEPT-WORDS = DEFINITION-WORDS

abbrev pub TERM-WORDS : ℕ
TERM-WORDS = 2

-- "a term is [...] 0 and an id, or 1 and a number"
unfoldable pub term_words : Term → List ℕ
term_words (Term.Variable v) = 0 ∷ v ∷ []
term_words (Term.Constant c) = 1 ∷ number_word c ∷ []

-- "operation (0 to 8, 9 negate, 10 copy)"
unfoldable pub operation_word : Operation → ℕ
operation_word (Operation.Infix o) = operator_number o
operation_word Operation.Negate = NEGATE
operation_word Operation.Copy = COPY

-- "an equality is seven words: left term, operation, two terms", and "one word more, its last": its place
unfoldable pub written_words : Written → ℕ → List ℕ
written_words q place = term_words q.left ++ (operation_word q.operation ∷ (term_words q.first ++ (term_words q.second ++ (place ∷ []))))

unfoldable pub equality_words : Equality → List ℕ
equality_words q = written_words (written q) q.place

unfoldable pub equalities_words : List Equality → List ℕ
equalities_words [] = []
equalities_words (q ∷ qs) = equality_words q ++ equalities_words qs

-- "words: next id, counts of publics, prover ids, equalities, kept definitions, nodes; then the lists"
unfoldable pub constraint_words : ConstraintModule → List ℕ
constraint_words m =
    header_words m.next (length m.publics) (length m.provers) (length m.equalities) (length m.kept) (definitions_nodes m.kept)
    ++ (m.publics ++ (m.provers ++ (equalities_words m.equalities ++ (definitions_words 0 m.kept ++ definitions_trees 0 m.kept))))

-- "little-endian 32-bit words"
unfoldable pub constraint_bytes : ConstraintModule → List ℕ
constraint_bytes m = bytes_of (constraint_words m)
