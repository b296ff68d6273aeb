-- What a walk over an accepted source record relies on. That an accepted record is readable: `accepted-readable` in proofs/Accepted.antt.
use Rattle.std.specs.Prelude.{ℕ, ◌≤◌, ◌≡◌, List, true, length}
use Rattle.source.specs.Layout.{names, publics, definitions, expressions, nodes}
use Rattle.source.specs.Layout.{publics_offset, definitions_offset, expressions_offset, nodes_offset, text_offset}
use Rattle.source.specs.Names.{names_fit, names_differ}
use Rattle.source.specs.Nodes.{nodes_fit, publics_fit, definitions_fit, expressions_fit}
use Rattle.source.specs.Record.{used_once}
use Rattle.records.specs.SourceRecord.{DEFINITIONS, EXPRESSIONS, NAMES, NODES, PUBLICS}

pub record Readable (b : List ℕ) : Type 0 where
  pub names-few : names b ≤ NAMES
  pub publics-few : publics b ≤ PUBLICS
  pub definitions-few : definitions b ≤ DEFINITIONS
  pub expressions-few : expressions b ≤ EXPRESSIONS
  pub nodes-few : nodes b ≤ NODES
  pub long : text_offset b ≤ length b
  pub names-fit : names_fit b (text_offset b) (names b) ≡ true
  pub names-differ : names_differ b (text_offset b) (names b) ≡ true
  pub nodes-fit : nodes_fit b (nodes_offset b) (names b) (nodes b) ≡ true
  pub publics-fit : publics_fit b (names b) (publics_offset b) (publics b) ≡ true
  pub definitions-fit : definitions_fit b (nodes_offset b) (nodes b) (definitions_offset b) (definitions b) ≡ true
  pub expressions-fit : expressions_fit b (nodes_offset b) (nodes b) (expressions_offset b) (expressions b) ≡ true
  pub used-once : used_once b ≡ true
