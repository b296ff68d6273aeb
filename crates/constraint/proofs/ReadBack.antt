-- A constraint record says the module that was written. Words that stand in the bytes are read again, part by part.
use mathlib.Core.Path.{◌≡◌, refl, ap, ap₂, ◌∙◌}
use mathlib.Core.List.{List, [], ◌∷◌, ◌++◌}
use Prim.Native.Nat.{ℕ, suc, ◌+◌, ◌*◌, ◌≤◌, ◌<◌}
use native.Mathlib.Omega.{arith}
use lib.ListN.{length}
use mir.Facts.{to_z-of_z}
use borrow.Author.Tests.{eq-eqb, ne_eqb}
use Rattle.words.specs.Words.{word_at}
use Rattle.words.proofs.Laws.{word_at-bytes_of}
use Rattle.flat.specs.Trees.{definitions_nodes}
use Rattle.flat.specs.Rules.{All}
use Rattle.flat.specs.Record.{rows, pick, definition_at}
use Rattle.flat.specs.Layout.{public_at, prover_at}
pub use Rattle.flat.proofs.Standing.{Stands, stands-left, stands-right, at_place}
pub use Rattle.flat.proofs.WriteBack.{root_below, next-below, next-words, ids-read, moved, tree-reads, definitions-back}
use Rattle.constraint.specs.declared.Term.{Term}
use Rattle.constraint.specs.Trees.{Side, Equality, ConstraintModule, operation, first, second, written_of}
use Rattle.constraint.specs.Record.{number_word, term_words, operation_word, written_words, equality_words, equalities_words}
use Rattle.constraint.specs.Record.{definitions_words, definitions_trees, header_words, constraint_words, constraint_bytes}
use Rattle.constraint.specs.Record.{EQUALITY-WORDS, KEPT-WORDS, PLACE-WORD}
use Rattle.constraint.specs.Reading.{HEADER, next, publics, provers, equalities, kept, nodes}
use Rattle.constraint.specs.Reading.{provers_offset, equalities_offset, kept_offset, nodes_offset, size}
use Rattle.constraint.specs.Reading.{term_at, side_for, equality_at, place_at, constraint_of}
use Rattle.constraint.specs.Reading.{SignedTerm, SignedSide, SignedEquality, SignedTree, ReadBack}
use Rattle.constraint.proofs.Lengths.{length-term, length-equality, length-equalities, length-definitions, length-bytes}
use Rattle.field.specs.Operators.{operator_number}
use Rattle.field.proofs.Numbered.{operator-reads, operator-below}

module _ (b : List ℕ) where
  -- a term
  term-reads : (t : Term) (i : ℕ) → SignedTerm t → Stands b i (term_words t) → term_at b i ≡ t
  unfolding term_words number_word term_at pick
  term-reads (Term.Variable v) i s h =
      let p : word_at b i ≡ 0 = at_place b (0 ∷ v ∷ []) i i 0 (omega arith) (omega arith) h in
      let q : word_at b (i + 1) ≡ v = h 1 (omega arith) in
      rw (eq-eqb (word_at b i) 0 p, q)
  term-reads (Term.Constant c) i s h =
      let p : word_at b i ≡ 1 = at_place b (1 ∷ number_word c ∷ []) i i 0 (omega arith) (omega arith) h in
      let q : word_at b (i + 1) ≡ number_word c = h 1 (omega arith) in
      let n : word_at b i ≡ 0 → ⊥ = λ e. omega arith in
      rw (ne_eqb (word_at b i) 0 n, q) (ap Term.Constant (to_z-of_z s))

side-reads : (s : Side) → side_for (operation_word (operation s)) (first s) (second s) ≡ s
unfolding side_for operation_word operation first second pick
side-reads (Side.infixed o x y) =
    let l = operator-below o in
    rw (ne_eqb (operator_number o) 9 (λ e. omega arith), ne_eqb (operator_number o) 10 (λ e. omega arith), operator-reads o)
side-reads (Side.negate x) = refl
side-reads (Side.copy x) = refl

signed-first : (s : Side) → SignedSide s → SignedTerm (first s)
unfolding first
signed-first (Side.infixed o x y) h = h.0
signed-first (Side.negate x) h = h
signed-first (Side.copy x) h = h

signed-second : (s : Side) → SignedSide s → SignedTerm (second s)
unfolding second
signed-second (Side.infixed o x y) h = h.1
signed-second (Side.negate x) h = tt
signed-second (Side.copy x) h = tt

module _ (b : List ℕ) where
  equality-reads : (q : Equality) (at k : ℕ) → SignedTerm q.left → SignedSide q.right →
      Stands b (at + EQUALITY-WORDS * k) (equality_words q) → equality_at b at k ≡ q
  unfolding equality_at equality_words written_words written_of
  equality-reads q at k s t h =
      let i = at + EQUALITY-WORDS * k in
      let l = term_words q.left in
      let x = term_words (first q.right) in
      let y = term_words (second q.right) ++ (q.place ∷ []) in
      let z = term_words (second q.right) in
      let n = operation_word (operation q.right) in
      let m = length-term q.left in
      let r : Stands b (i + 2) (n ∷ (x ++ y)) = stands-right b l (n ∷ (x ++ y)) i (i + 2) (omega arith) h in
      let u : Stands b (i + 3) (x ++ y) = stands-right b (n ∷ []) (x ++ y) (i + 2) (i + 3) (omega arith) r in
      let v : Stands b (i + 5) y = stands-right b x y (i + 3) (i + 5) (omega (arith, length-term (first q.right))) u in
      let e0 : term_at b i ≡ q.left = term-reads b q.left i s (stands-left b l (n ∷ (x ++ y)) i h) in
      let e1 : word_at b (i + 2) ≡ n = at_place b (n ∷ (x ++ y)) (i + 2) (i + 2) 0 (omega arith) (omega arith) r in
      let e2 : term_at b (i + 3) ≡ first q.right = term-reads b (first q.right) (i + 3) (signed-first q.right t) (stands-left b x y (i + 3) u) in
      let e3 : term_at b (i + 5) ≡ second q.right = term-reads b (second q.right) (i + 5) (signed-second q.right t)
      (stands-left b z (q.place ∷ []) (i + 5) v) in
      let e4 : place_at b at k ≡ q.place =
      at_place b (q.place ∷ []) (i + PLACE-WORD) (i + PLACE-WORD) 0 (omega arith) (omega arith)
      (stands-right b z (q.place ∷ []) (i + 5) (i + PLACE-WORD) (omega (arith, length-term (second q.right))) v) in
      let e : side_for (word_at b (i + 2)) (term_at b (i + 3)) (term_at b (i + 5)) ≡ q.right = rw (e1, e2, e3) (side-reads q.right) in
      λ j. record { left = e0 j; right = e j; place = e4 j }

  equalities-read : (qs : List Equality) (at j : ℕ) → All SignedEquality qs →
      Stands b (at + EQUALITY-WORDS * j) (equalities_words qs) → rows (length qs) j (equality_at b at) ≡ qs
  unfolding rows equalities_words
  equalities-read [] at j s h = refl
  equalities-read (q ∷ qs) at j s h =
      let l = length-equality q in
      let here = at + EQUALITY-WORDS * j in
      let after = at + EQUALITY-WORDS * suc j in
      ap₂ ◌∷◌ (equality-reads q at j s.0.0 s.0.1 (stands-left b (equality_words q) (equalities_words qs) here h))
      (equalities-read qs at (suc j) s.1 (stands-right b (equality_words q) (equalities_words qs) here after (omega arith) h))

-- the whole record
module _ (m : ConstraintModule) where
  P : List ℕ
  P = m.publics

  Q : List ℕ
  Q = m.provers

  E : List ℕ
  E = equalities_words m.equalities

  K : List ℕ
  K = definitions_words 0 m.kept

  N : List ℕ
  N = definitions_trees 0 m.kept

  H : List ℕ
  H = header_words m.next (length m.publics) (length m.provers) (length m.equalities) (length m.kept) (definitions_nodes m.kept)

  abbrev b : List ℕ
  b = constraint_bytes m

  stands : Stands b 0 (H ++ (P ++ (Q ++ (E ++ (K ++ N)))))
  unfolding constraint_bytes constraint_words H P Q E K N
  stands k l = let e : 0 + k ≡ k = omega arith in ap (word_at b) e ∙ word_at-bytes_of (constraint_words m) k

  header : Stands b 0 H
  header = stands-left b H (P ++ (Q ++ (E ++ (K ++ N)))) 0 stands

  pub next-read : next b ≡ m.next
  unfolding header_words H
  next-read = header 0 (omega arith)

  publics-count : publics b ≡ length m.publics
  unfolding header_words H
  publics-count = header 1 (omega arith)

  provers-count : provers b ≡ length m.provers
  unfolding header_words H
  provers-count = header 2 (omega arith)

  pub equalities-count : equalities b ≡ length m.equalities
  unfolding header_words H
  equalities-count = header 3 (omega arith)

  kept-count : kept b ≡ length m.kept
  unfolding header_words H
  kept-count = header 4 (omega arith)

  nodes-count : nodes b ≡ definitions_nodes m.kept
  unfolding header_words H
  nodes-count = header 5 (omega arith)

  -- a record is as long as its header says
  pub length-size : length b ≡ 4 * size b
  length-size = omega (arith, length-bytes m, publics-count, provers-count, equalities-count, kept-count, nodes-count)

  -- so what `equality_at`, and `definition_at` of `flat` of a kept definition, ask holds of each of its entries
  pub equality-asked : (k : ℕ) → k < equalities b → 4 * (equalities_offset b + EQUALITY-WORDS * k + EQUALITY-WORDS) ≤ length b
  equality-asked k l = omega (arith, length-size, l)

  pub kept-asked : (k : ℕ) → k < kept b → 4 * (kept_offset b + KEPT-WORDS * k + KEPT-WORDS) ≤ length b
  kept-asked k l = omega (arith, length-size, l)

  -- the lists stand at their places
  publics-stand : Stands b HEADER (P ++ (Q ++ (E ++ (K ++ N))))
  unfolding header_words H
  publics-stand = stands-right b H (P ++ (Q ++ (E ++ (K ++ N)))) 0 HEADER (omega arith) stands

  provers-stand : Stands b (provers_offset b) (Q ++ (E ++ (K ++ N)))
  unfolding P
  provers-stand = stands-right b P (Q ++ (E ++ (K ++ N))) HEADER (provers_offset b) (omega (arith, publics-count)) publics-stand

  equalities-stand : Stands b (equalities_offset b) (E ++ (K ++ N))
  unfolding Q
  equalities-stand = stands-right b Q (E ++ (K ++ N)) (provers_offset b) (equalities_offset b) (omega (arith, provers-count)) provers-stand

  kept-stand : Stands b (kept_offset b) (K ++ N)
  unfolding E
  kept-stand =
      let e = length-equalities m.equalities in
      stands-right b E (K ++ N) (equalities_offset b) (kept_offset b) (omega (arith, e, equalities-count)) equalities-stand

  nodes-stand : Stands b (nodes_offset b + 4 * 0) N
  unfolding K
  nodes-stand = stands-right b K N (kept_offset b) (nodes_offset b + 4 * 0) (omega (arith, length-definitions m.kept 0, kept-count)) kept-stand

  -- and are read
  publics-read : rows (publics b) 0 (public_at b) ≡ m.publics
  unfolding P
  publics-read =
      let h = moved b P HEADER (HEADER + 0) (omega arith) (stands-left b P (Q ++ (E ++ (K ++ N))) HEADER publics-stand) in
      ap (λ (n : ℕ). rows n 0 (public_at b)) publics-count ∙ ids-read b P HEADER 0 h

  provers-read : rows (provers b) 0 (prover_at b (provers_offset b)) ≡ m.provers
  unfolding Q
  provers-read =
      let at = provers_offset b in
      let h = moved b Q at (at + 0) (omega arith) (stands-left b Q (E ++ (K ++ N)) at provers-stand) in
      ap (λ (n : ℕ). rows n 0 (prover_at b at)) provers-count ∙ ids-read b Q at 0 h

  pub equalities-back : All SignedEquality m.equalities → rows (equalities b) 0 (equality_at b (equalities_offset b)) ≡ m.equalities
  unfolding E
  equalities-back signed =
      let at = equalities_offset b in
      let h = moved b E at (at + EQUALITY-WORDS * 0) (omega arith) (stands-left b E (K ++ N) at equalities-stand) in
      ap (λ (n : ℕ). rows n 0 (equality_at b at)) equalities-count ∙ equalities-read b m.equalities at 0 signed h

  kept_back : All (λ d. SignedTree d.right) m.kept → rows (kept b) 0 (definition_at b (kept_offset b) (nodes_offset b) (nodes b)) ≡ m.kept
  unfolding K N
  kept_back signed =
      let at = kept_offset b in
      let h = moved b K at (at + KEPT-WORDS * 0) (omega arith) (stands-left b K N at kept-stand) in
      ap (λ (n : ℕ). rows n 0 (definition_at b at (nodes_offset b) (nodes b))) kept-count
      ∙ definitions-back b m.kept at 0 (nodes_offset b) 0 (nodes b) signed h nodes-stand (omega (arith, nodes-count))

pub read_back : ReadBack
unfolding constraint_of
read_back m s = λ i. record {
  next = next-read m i;
  publics = publics-read m i;
  provers = provers-read m i;
  equalities = equalities-back m s.equalities i;
  kept = kept_back m s.kept i;
}
