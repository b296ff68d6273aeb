-- What a constraint record says: the module of its bytes `b`, place by place. That every module is the one of its record: `read_back` in proofs/Read_back.antt.
use Rattle.std.specs.Prelude.{◌≡◌, List, ℕ, ◌+◌, ◌*◌, eqb}
use Rattle.std.proofs.Common.{to_z, SFits}
use Rattle.std.specs.Int.{w32}
use Rattle.words.specs.Words.{word_at}
use Rattle.flat.specs.Rules.{All}
pub use Rattle.flat.specs.Layout.{next, publics, provers, nodes, provers_offset}
use Rattle.flat.specs.Layout.{public_at, prover_at}
use Rattle.flat.specs.Record.{rows, pick, operator_of, definition_at}
pub use Rattle.flat.specs.Writer.{SignedTree}
pub use Rattle.records.specs.FlatRecord.{HEADER}
use Rattle.records.specs.Kinds.{NODE-WORDS}
use Rattle.constraint.specs.declared.Term.{Term}
use Rattle.constraint.specs.declared.Operation.{Operation}
use Rattle.constraint.specs.declared.Equality.{Equality as Written}
use Rattle.constraint.specs.declared.reading.Layout.{Layout}
use Rattle.constraint.specs.Trees.{Side, Equality, ConstraintModule, written}
use Rattle.constraint.specs.Record.{constraint_bytes, COPY, EQUALITY-WORDS, KEPT-WORDS, NEGATE, PLACE-WORD}

-- ---- the layout

-- "words: next id, counts of publics, prover ids, equalities, kept definitions, nodes; then the lists": the header is a flat record's, with equalities and
-- kept definitions for its two lists
module _ (b : List ℕ) where
  abbrev pub equalities : ℕ
  equalities = word_at b 3

  abbrev pub kept : ℕ
  kept = word_at b 4

  -- where these lists start, in words, and where the record ends; public and prover ids start as in a flat record
  abbrev pub equalities_offset : ℕ
  equalities_offset = provers_offset b + provers b

  abbrev pub kept_offset : ℕ
  kept_offset = equalities_offset + EQUALITY-WORDS * equalities

  abbrev pub nodes_offset : ℕ
  nodes_offset = kept_offset + KEPT-WORDS * kept

  abbrev pub size : ℕ
  size = nodes_offset + NODE-WORDS * nodes b

-- the header's numbers and the places of the lists, as the code has them
unfoldable pub layout_of : List ℕ → Layout
layout_of b = record {
  next = next b;
  publics = publics b;
  provers = provers b;
  equalities = equalities b;
  kept = kept b;
  nodes = nodes b;
  provers_at = provers_offset b;
  equalities_at = equalities_offset b;
  kept_at = kept_offset b;
  nodes_at = nodes_offset b;
  size = size b;
}

-- ---- entry k of the equalities that start at word `at`. Public and prover ids, kept definitions and nodes are read as those of a flat record

-- the term at word i: "0 and an id, or 1 and a number"; what is not 0 reads as 1
unfoldable pub term_at : List ℕ → ℕ → Term
term_at b i = pick (eqb (word_at b i) 0) (Term.Variable (word_at b (i + 1))) (Term.Constant (to_z w32 (word_at b (i + 1))))

-- the operation with a number; a number above 10 reads as 8
unfoldable pub operation_of : ℕ → Operation
operation_of n = pick (eqb n NEGATE) Operation.Negate (pick (eqb n COPY) Operation.Copy (Operation.Infix (operator_of n)))

-- the right side of an operation's number and two terms; negate and copy have no second, and a number above 10 reads as 8
unfoldable pub side_for : ℕ → Term → Term → Side
side_for n x y = pick (eqb n NEGATE) (Side.negate x) (pick (eqb n COPY) (Side.copy x) (Side.infixed (operator_of n) x y))

abbrev pub place_at : List ℕ → ℕ → ℕ → ℕ
place_at b at k = word_at b (at + EQUALITY-WORDS * k + PLACE-WORD)

unfoldable pub equality_at : List ℕ → ℕ → ℕ → Equality
equality_at b at k =
    let i = at + EQUALITY-WORDS * k in
    record { left = term_at b i; right = side_for (word_at b (i + 2)) (term_at b (i + 3)) (term_at b (i + 5)); place = place_at b at k }

-- the same as the code's struct, without its place
unfoldable pub written_at : List ℕ → ℕ → ℕ → Written
written_at b at k = written (equality_at b at k)

-- ---- the module

unfoldable pub constraint_of : List ℕ → ConstraintModule
constraint_of b = record {
  next = next b;
  publics = rows (publics b) 0 (public_at b);
  provers = rows (provers b) 0 (prover_at b (provers_offset b));
  equalities = rows (equalities b) 0 (equality_at b (equalities_offset b));
  kept = rows (kept b) 0 (definition_at b (kept_offset b) (nodes_offset b) (nodes b));
}

-- the constants of a module are signed 32-bit
abbrev pub SignedTerm : Term → Type 0
SignedTerm (Term.Variable v) = Unit {0}
SignedTerm (Term.Constant c) = SFits w32 c

abbrev pub SignedSide : Side → Type 0
SignedSide (Side.infixed o x y) = SignedTerm x × SignedTerm y
SignedSide (Side.negate x) = SignedTerm x
SignedSide (Side.copy x) = SignedTerm x

abbrev pub SignedEquality : Equality → Type 0
SignedEquality q = SignedTerm q.left × SignedSide q.right

pub record Signed (m : ConstraintModule) : Type 0 where
  pub equalities : All SignedEquality m.equalities
  pub kept : All (λ d. SignedTree d.right) m.kept

-- THE RECORD SAYS THE MODULE: no two modules have the same bytes
abbrev pub ReadBack : Type 0
ReadBack = (m : ConstraintModule) → Signed m → constraint_of (constraint_bytes m) ≡ m
