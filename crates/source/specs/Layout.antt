-- The layout of a source record with the bytes b: its counts, where its lists start, and what 1 and 2 say of them.
use Rattle.std.specs.Prelude.{ℕ, ◌+◌, ◌*◌, List, Bool, ◌&&◌, ◌||◌, length, leb, ltb, eqb}
use Rattle.words.specs.Words.{word_at}
use Rattle.source.specs.declared.Layout.{Layout}
use Rattle.source.specs.declared.lists.NameEntry.{NameEntry}
use Rattle.source.specs.declared.lists.DefinitionEntry.{DefinitionEntry}
use Rattle.records.specs.Kinds.{NODE-WORDS}
-- "nodes of four words (kind, a, b, c)"
pub use Rattle.records.specs.Nodes.{node_entry}
use Rattle.records.specs.SourceRecord.{DEFINITIONS, EXPRESSIONS, HEADER, NAME-BYTES, NAMES, NODES, PUBLICS}

-- the words of a name (offset, length) and of a definition (pattern, value)
abbrev pub NAME-WORDS : ℕ
NAME-WORDS = 2

abbrev pub DEFINITION-WORDS : ℕ
DEFINITION-WORDS = 2

module _ (b : List ℕ) where
  -- "Header: counts of names (to 512), publics (to 64), definitions (to 512), expressions (to 512), nodes (to 2,048)"
  abbrev pub names : ℕ
  names = word_at b 0

  abbrev pub publics : ℕ
  publics = word_at b 1

  abbrev pub definitions : ℕ
  definitions = word_at b 2

  abbrev pub expressions : ℕ
  expressions = word_at b 3

  abbrev pub nodes : ℕ
  nodes = word_at b 4

  -- "Then one pair of offset and length per name; public name indices; definition pairs; expression nodes; nodes of four words":
  -- the word at which each starts; the names' pairs start at word 5
  abbrev pub publics_offset : ℕ
  publics_offset = HEADER + NAME-WORDS * names

  abbrev pub definitions_offset : ℕ
  definitions_offset = publics_offset + publics

  abbrev pub expressions_offset : ℕ
  expressions_offset = definitions_offset + DEFINITION-WORDS * definitions

  abbrev pub nodes_offset : ℕ
  nodes_offset = expressions_offset + expressions

  -- "last the name text": the byte at which it starts
  abbrev pub text_offset : ℕ
  text_offset = 4 * (nodes_offset + NODE-WORDS * nodes)

-- the counts and places, as the code has them
unfoldable pub layout_of : List ℕ → Layout
layout_of b = record {
  names = names b;
  publics = publics b;
  definitions = definitions b;
  expressions = expressions b;
  nodes = nodes b;
  publics_at = publics_offset b;
  definitions_at = definitions_offset b;
  expressions_at = expressions_offset b;
  nodes_at = nodes_offset b;
  text_at = text_offset b;
}

-- entry k of a list that starts at word `at`; the names' pairs start behind the header
abbrev pub name_entry : List ℕ → ℕ → NameEntry
name_entry b k = record { offset = word_at b (HEADER + NAME-WORDS * k); size = word_at b (HEADER + NAME-WORDS * k + 1) }

abbrev pub public_at : List ℕ → ℕ → ℕ → ℕ
public_at b at k = word_at b (at + k)

abbrev pub definition_entry : List ℕ → ℕ → ℕ → DefinitionEntry
definition_entry b at k = record { pattern = word_at b (at + DEFINITION-WORDS * k); value = word_at b (at + DEFINITION-WORDS * k + 1) }

abbrev pub expression_root : List ℕ → ℕ → ℕ → ℕ
expression_root b at k = word_at b (at + k)

-- the longest record
abbrev pub BYTES : ℕ
BYTES = 4 * (HEADER + NAME-WORDS * NAMES + PUBLICS + DEFINITION-WORDS * DEFINITIONS + EXPRESSIONS + NODE-WORDS * NODES) + NAMES * NAME-BYTES

-- not 2, Count: no "count over its limit"
unfoldable pub counted : List ℕ → Bool
counted b = leb (names b) NAMES && (leb (publics b) PUBLICS && (leb (definitions b) DEFINITIONS && (leb (expressions b) EXPRESSIONS && leb (nodes b) NODES)))

-- not 1, Length, after a whole header: no "file shorter than its lists", no "text without names"
unfoldable pub listed : List ℕ → Bool
listed b = leb (text_offset b) (length b) && (ltb 0 (names b) || eqb (length b) (text_offset b))
