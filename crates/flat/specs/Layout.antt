-- The layout of a flat record, said once: how wide each entry is, where each list starts, and the words of an entry as they are read and as they are written.
-- For a reader with docs/RECORDS.md, "Flat record", beside it. `b` is the list of the record's bytes; places are counted in words.
use Rattle.std.specs.Prelude.{ℕ, ◌+◌, ◌*◌, ◌≤◌, List, [], ◌∷◌, length}
use Rattle.words.specs.Words.{word_at}
use Rattle.flat.specs.declared.Layout.{Layout}
use Rattle.flat.specs.declared.entries.Header.{Header}
use Rattle.flat.specs.declared.entries.DefinitionEntry.{DefinitionEntry}
use Rattle.flat.specs.declared.entries.EquationEntry.{EquationEntry}
use Rattle.records.specs.FlatRecord.{HEADER, LISTED, NODES, PUBLICS}
use Rattle.records.specs.Kinds.{NODE-WORDS}
pub use Rattle.records.specs.Nodes.{node_entry}

-- the words of a definition (id, node, place) and of an equation (node, node, place)
abbrev pub DEFINITION-WORDS : ℕ
DEFINITION-WORDS = 3

abbrev pub EQUATION-WORDS : ℕ
EQUATION-WORDS = 3

-- ---- the header and the places of the lists

-- "Words: next id, counts of publics, prover ids, definitions, equations, nodes; public ids; prover ids; definitions (id, node); equations (node, node);
-- nodes"; definitions and equations with "one word more, its last: the place of its statement in the source record"
module _ (b : List ℕ) where
  abbrev pub next : ℕ
  next = word_at b 0

  abbrev pub publics : ℕ
  publics = word_at b 1

  abbrev pub provers : ℕ
  provers = word_at b 2

  abbrev pub definitions : ℕ
  definitions = word_at b 3

  abbrev pub equations : ℕ
  equations = word_at b 4

  abbrev pub nodes : ℕ
  nodes = word_at b 5

  -- where each list starts, and where the record ends; the public ids start behind the header
  abbrev pub provers_offset : ℕ
  provers_offset = HEADER + publics

  abbrev pub definitions_offset : ℕ
  definitions_offset = provers_offset + provers

  abbrev pub equations_offset : ℕ
  equations_offset = definitions_offset + DEFINITION-WORDS * definitions

  abbrev pub nodes_offset : ℕ
  nodes_offset = equations_offset + EQUATION-WORDS * equations

  abbrev pub size : ℕ
  size = nodes_offset + NODE-WORDS * nodes

-- the header's numbers and the places of the lists, as the code has them
unfoldable pub layout_of : List ℕ → Layout
layout_of b = record {
  next = next b;
  publics = publics b;
  provers = provers b;
  definitions = definitions b;
  equations = equations b;
  nodes = nodes b;
  provers_at = provers_offset b;
  definitions_at = definitions_offset b;
  equations_at = equations_offset b;
  nodes_at = nodes_offset b;
  size = size b;
}

-- the layout that a header says, before it is written or after
unfoldable pub layout_by : Header → Layout
layout_by h = record {
  next = h.next;
  publics = h.publics;
  provers = h.provers;
  definitions = h.first;
  equations = h.second;
  nodes = h.nodes;
  provers_at = HEADER + h.publics;
  definitions_at = HEADER + h.publics + h.provers;
  equations_at = HEADER + h.publics + h.provers + DEFINITION-WORDS * h.first;
  nodes_at = HEADER + h.publics + h.provers + DEFINITION-WORDS * h.first + EQUATION-WORDS * h.second;
  size = HEADER + h.publics + h.provers + DEFINITION-WORDS * h.first + EQUATION-WORDS * h.second + NODE-WORDS * h.nodes;
}

-- a layout of which each list ends within the bytes, and has no more nodes than a record may
pub record Within (b : List ℕ) (l : Layout) : Type 0 where
  pub publics : 4 * (HEADER + l.publics) ≤ length b
  pub provers : 4 * (l.provers_at + l.provers) ≤ length b
  pub definitions : 4 * (l.definitions_at + DEFINITION-WORDS * l.definitions) ≤ length b
  pub equations : 4 * (l.equations_at + EQUATION-WORDS * l.equations) ≤ length b
  pub nodes : 4 * (l.nodes_at + NODE-WORDS * l.nodes) ≤ length b
  pub few : l.nodes ≤ NODES

-- where each list starts at most, and the longest record: "64 publics, 4,096 of each other list, 16,384 nodes"
abbrev pub LAST-PROVERS-AT : ℕ
LAST-PROVERS-AT = HEADER + PUBLICS

abbrev pub LAST-DEFINITIONS-AT : ℕ
LAST-DEFINITIONS-AT = LAST-PROVERS-AT + LISTED

abbrev pub LAST-EQUATIONS-AT : ℕ
LAST-EQUATIONS-AT = LAST-DEFINITIONS-AT + DEFINITION-WORDS * LISTED

abbrev pub LAST-NODES-AT : ℕ
LAST-NODES-AT = LAST-EQUATIONS-AT + EQUATION-WORDS * LISTED

abbrev pub WORDS : ℕ
WORDS = LAST-NODES-AT + NODE-WORDS * NODES

abbrev pub BYTES : ℕ
BYTES = 4 * WORDS

-- ---- entry k of a list that starts at word `at`, as it is read; the public ids start behind the header

abbrev pub public_at : List ℕ → ℕ → ℕ
public_at b k = word_at b (HEADER + k)

abbrev pub prover_at : List ℕ → ℕ → ℕ → ℕ
prover_at b at k = word_at b (at + k)

abbrev pub definition_entry : List ℕ → ℕ → ℕ → DefinitionEntry
definition_entry b at k =
    let i = at + DEFINITION-WORDS * k in
    record { id = word_at b i; node = word_at b (i + 1); place = word_at b (i + 2) }

abbrev pub equation_entry : List ℕ → ℕ → ℕ → EquationEntry
equation_entry b at k =
    let i = at + EQUATION-WORDS * k in
    record { left = word_at b i; right = word_at b (i + 1); place = word_at b (i + 2) }

-- what a function makes of a node's four words: kind, a, b, c
unfoldable pub node_at : {A : Type 0} → List ℕ → ℕ → ℕ → (ℕ → ℕ → ℕ → ℕ → A) → A
node_at b at k f =
    let i = at + NODE-WORDS * k in
    f (word_at b i) (word_at b (i + 1)) (word_at b (i + 2)) (word_at b (i + 3))

-- ---- the words of an entry, as they are written. The header, definitions and nodes stand in a constraint record as they stand here

-- next id, counts of publics, prover ids, two lists, nodes
unfoldable pub header_words : ℕ → ℕ → ℕ → ℕ → ℕ → ℕ → List ℕ
header_words next publics provers first second nodes = next ∷ publics ∷ provers ∷ first ∷ second ∷ nodes ∷ []

unfoldable pub definition_words : ℕ → ℕ → ℕ → List ℕ
definition_words id node place = id ∷ node ∷ place ∷ []

unfoldable pub equation_words : ℕ → ℕ → ℕ → List ℕ
equation_words left right place = left ∷ right ∷ place ∷ []

-- "nodes of four words (kind, a, b, c)": 4 infix(a, b, operator c), 5 negate(a), 7 constant a, 8 variable a; "unused words are 0"
unfoldable pub node_words : ℕ → ℕ → ℕ → ℕ → List ℕ
node_words kind a b c = kind ∷ a ∷ b ∷ c ∷ []
