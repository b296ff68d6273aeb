-- How many words each part of the record has, and lists of parts in two pieces.
use mathlib.Core.Path.{◌≡◌, refl, sym, ap, ◌∙◌}
use mathlib.Core.List.{List, [], ◌∷◌, ◌++◌, append_assoc, append-nil}
use Prim.Native.Nat.{ℕ, ◌+◌, ◌*◌}
use native.Mathlib.Omega.{arith}
use lib.ListN.{length, length-append}
use Rattle.words.proofs.Laws.{length-bytes_of}
use Rattle.flat.specs.Trees.{definitions_nodes}
pub use Rattle.flat.proofs.Lengths.{tree-positive, length-nodes, length-definitions, length-definitions-trees}
pub use Rattle.flat.proofs.Lengths.{count-append, definitions-append, definitions-trees-append}
use Rattle.constraint.specs.declared.Term.{Term}
use Rattle.constraint.specs.declared.Equality.{Equality as Written}
use Rattle.constraint.specs.Trees.{Equality, ConstraintModule}
use Rattle.records.specs.FlatRecord.{HEADER}
use Rattle.records.specs.Kinds.{NODE-WORDS}
use Rattle.constraint.specs.Record.{EQUALITY-WORDS, KEPT-WORDS, TERM-WORDS}
use Rattle.constraint.specs.Record.{term_words, written_words, equality_words, equalities_words, header_words, constraint_words, constraint_bytes}

pub length-term : (t : Term) → length (term_words t) ≡ TERM-WORDS
unfolding term_words
length-term (Term.Variable v) = refl
length-term (Term.Constant c) = refl

pub length-written : (q : Written) (place : ℕ) → length (written_words q place) ≡ EQUALITY-WORDS
unfolding written_words
length-written q place = simp length-append (omega (arith, length-term q.left, length-term q.first, length-term q.second))

pub length-equality : (q : Equality) → length (equality_words q) ≡ EQUALITY-WORDS
unfolding equality_words
length-equality q = length-written _ _

pub length-equalities : (qs : List Equality) → length (equalities_words qs) ≡ EQUALITY-WORDS * length qs
unfolding equalities_words
length-equalities [] = refl
length-equalities (q ∷ qs) = simp length-append (omega (arith, length-equality q, length-equalities qs))

-- the whole record, in words and in bytes
abbrev pub words : ConstraintModule → ℕ
words m =
    HEADER + length m.publics + length m.provers + EQUALITY-WORDS * length m.equalities + KEPT-WORDS * length m.kept
    + NODE-WORDS * definitions_nodes m.kept

pub length-words : (m : ConstraintModule) → length (constraint_words m) ≡ words m
unfolding constraint_words header_words
length-words m = simp length-append (omega (arith, length-equalities m.equalities, length-definitions m.kept 0, length-definitions-trees m.kept 0))

pub length-bytes : (m : ConstraintModule) → length (constraint_bytes m) ≡ 4 * words m
unfolding constraint_bytes
length-bytes m = length-bytes_of (constraint_words m) ∙ ap (λ (n : ℕ). 4 * n) (length-words m)

-- the equalities in two pieces
pub equalities-append : (xs ys : List Equality) → equalities_words (xs ++ ys) ≡ equalities_words xs ++ equalities_words ys
unfolding equalities_words
equalities-append [] ys = refl
equalities-append (q ∷ xs) ys =
    ap (λ (l : List ℕ). equality_words q ++ l) (equalities-append xs ys) ∙ sym (append_assoc (equality_words q) (equalities_words xs) (equalities_words ys))

-- one equality more
pub equalities-more : (qs : List Equality) (q : Equality) → equalities_words (qs ++ (q ∷ [])) ≡ equalities_words qs ++ equality_words q
unfolding equalities_words
equalities-more qs q = equalities-append qs (q ∷ []) ∙ ap (λ (l : List ℕ). equalities_words qs ++ l) (append-nil (equality_words q))
