-- What a walk over a flat record relies on: of a lent one that was accepted, and of one that evaluation wrote, which may define an id twice.
-- That an accepted record is readable: `accepted-readable` in proofs/Reading.antt.
use Rattle.std.specs.Prelude.{◌≡◌, List, true, ℕ, ◌*◌, ◌≤◌, ◌<◌, length}
use Rattle.flat.specs.Layout.{next, publics, provers, definitions, equations, nodes, provers_offset, definitions_offset, equations_offset, nodes_offset, size}
use Rattle.flat.specs.Record.{all_below, rising, definitions_fit, equations_fit, nodes_fit}
use Rattle.records.specs.FlatRecord.{HEADER, IDS, LISTED, NODES, PUBLICS}

pub record Readable (b : List ℕ) : Type 0 where
  pub long : length b ≡ 4 * size b
  pub publics-few : publics b ≤ PUBLICS
  pub provers-few : provers b ≤ LISTED
  pub definitions-few : definitions b ≤ LISTED
  pub equations-few : equations b ≤ LISTED
  pub nodes-few : nodes b ≤ NODES
  pub next_small : next b ≤ IDS
  pub publics-below : all_below b HEADER (publics b) (next b) ≡ true
  pub provers-below : all_below b (provers_offset b) (provers b) (next b) ≡ true
  pub provers-rise : rising b (provers_offset b) (provers b) ≡ true
  pub definitions-fit : definitions_fit b (definitions_offset b) (definitions b) (next b) (nodes b) ≡ true
  pub equations-fit : equations_fit b (equations_offset b) (equations b) (nodes b) ≡ true
  pub nodes-fit : nodes_fit b (nodes_offset b) (nodes b) (next b) ≡ true

-- node k of a readable record, whose nodes start at word `at`
pub record Inside (b : List ℕ) (at k : ℕ) : Type 0 where
  pub readable : Readable b
  pub place : at ≡ nodes_offset b
  pub below : k < nodes b
