-- The words and the bytes of a flat module's record. For a reader with docs/RECORDS.md, "Flat record", beside it; the words of an entry are in Layout.antt.
-- That the record is read as the module: `flat-reads` in proofs/Write_back.antt.
use Rattle.std.specs.Prelude.{List, [], ◌∷◌, ◌++◌, ℕ, ◌+◌, ◌-◌, ℤ, length}
use Rattle.std.proofs.Common.{of_z, SFits}
use Rattle.std.specs.Int.{w32}
use Rattle.words.specs.Words.{bytes_of}
use Rattle.field.specs.Operators.{operator_number}
use Rattle.records.specs.Kinds.{CONSTANT, INFIX, NEGATE, VARIABLE}
use Rattle.flat.specs.Trees.{Flat, Definition, Equation, FlatModule, tree_nodes, definitions_nodes, module_nodes}
use Rattle.flat.specs.Layout.{header_words, definition_words, equation_words, node_words}
use Rattle.flat.specs.Rules.{All}

-- a number's 32 bits
unfoldable pub number_word : ℤ → ℕ
number_word c = of_z w32 c

-- "nodes stand children first, left to right": where a tree's first node has the index `base`, the index after it, and that of its root, its last node
unfoldable pub next_from : ℕ → Flat → ℕ
next_from base e = base + tree_nodes e

unfoldable pub root_from : ℕ → Flat → ℕ
root_from base e = next_from base e - 1

unfoldable pub nodes_from : ℕ → Flat → List ℕ
nodes_from base (Flat.infixed o a b) =
    let middle = next_from base a in
    nodes_from base a ++ (nodes_from middle b ++ node_words INFIX (root_from base a) (root_from middle b) (operator_number o))
nodes_from base (Flat.negate a) = nodes_from base a ++ node_words NEGATE (root_from base a) 0 0
nodes_from base (Flat.constant c) = node_words CONSTANT (number_word c) 0 0
nodes_from base (Flat.variable v) = node_words VARIABLE v 0 0

-- definitions in their order, and their nodes, where the first has the index `base`: of a flat record, and the kept ones of a constraint record
unfoldable pub definitions_words : ℕ → List Definition → List ℕ
definitions_words base [] = []
definitions_words base (d ∷ ds) = definition_words d.id (root_from base d.right) d.place ++ definitions_words (next_from base d.right) ds

unfoldable pub definitions_trees : ℕ → List Definition → List ℕ
definitions_trees base [] = []
definitions_trees base (d ∷ ds) = nodes_from base d.right ++ definitions_trees (next_from base d.right) ds

-- equations, and their nodes: left, then right
unfoldable pub equations_words : ℕ → List Equation → List ℕ
equations_words base [] = []
equations_words base (e ∷ es) =
    let middle = next_from base e.left in
    equation_words (root_from base e.left) (root_from middle e.right) e.place ++ equations_words (next_from middle e.right) es

unfoldable pub equations_trees : ℕ → List Equation → List ℕ
equations_trees base [] = []
equations_trees base (e ∷ es) =
    let middle = next_from base e.left in
    nodes_from base e.left ++ (nodes_from middle e.right ++ equations_trees (next_from middle e.right) es)

-- "Words: next id, counts of publics, prover ids, definitions, equations, nodes; public ids; prover ids; definitions (id, node); equations (node, node);
-- nodes"; definitions and equations with their place
unfoldable pub flat_words : FlatModule → List ℕ
flat_words m =
    header_words m.next (length m.publics) (length m.provers) (length m.definitions) (length m.equations) (module_nodes m)
    ++ (m.publics
    ++ (m.provers
    ++ (definitions_words 0 m.definitions
    ++ (equations_words (definitions_nodes m.definitions) m.equations
    ++ (definitions_trees 0 m.definitions
    ++ equations_trees (definitions_nodes m.definitions) m.equations)))))

-- "little-endian 32-bit words"
unfoldable pub flat_bytes : FlatModule → List ℕ
flat_bytes m = bytes_of (flat_words m)

-- constants that fit 32 bits, of a tree and of a module
abbrev pub SignedTree : Flat → Type 0
SignedTree (Flat.infixed o x y) = SignedTree x × SignedTree y
SignedTree (Flat.negate x) = SignedTree x
SignedTree (Flat.constant c) = SFits w32 c
SignedTree (Flat.variable v) = Unit {0}

abbrev pub SignedModule : FlatModule → Type 0
SignedModule m = All (λ d. SignedTree d.right) m.definitions × All (λ e. SignedTree e.left × SignedTree e.right) m.equations
