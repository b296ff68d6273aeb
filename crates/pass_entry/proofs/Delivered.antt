-- The output after a record that was made is put into it: header, body and nodes, one behind the other.
-- Assumes nothing.
use Prim.Native.Nat.{ℕ, ◌+◌, ◌-◌, ◌*◌, ◌/◌, ◌≤◌, ◌<◌}
use mathlib.Core.Path.{◌≡◌, refl, sym, ap, ap₂, ◌∙◌}
use mathlib.Core.List.{List, ◌++◌, append_assoc}
use native.Mathlib.Omega.{arith}
use lib.ListN.{length, take, drop, length-append}
use lib.Seq.{paste, take_at, drop-append-add, drop-drop, length-take-le}
use borrow.Author.Tests.{le-leb, lt-leb}
use Rattle.words.specs.Words.{set_words, bytes_of}
use Rattle.words.proofs.Laws.{set_words-bytes, bytes_of-append, length-bytes_of}
use Rattle.flat.specs.Record.{pick}
use Rattle.constraint.specs.Trees.{ConstraintModule}
use Rattle.constraint.specs.Record.{EQUALITY-WORDS, KEPT-WORDS, header_words, constraint_words}
use Rattle.constraint.specs.Record.{constraint_bytes, equalities_words, definitions_words, definitions_trees}
use Rattle.flat.specs.Trees.{definitions_nodes}
use Rattle.constraint.proofs.Lengths.{length-bytes}
use Rattle.pass_trees.specs.Passes.{cut}
use Rattle.pass_entry.specs.declared.Need.{Need}
use Rattle.records.specs.Refusals.{numbered}
use Rattle.records.specs.declared.refusals.Refusal.{Refusal}
use Rattle.std.specs.Prelude.{Ok, Err}
use Rattle.pass_entry.specs.declared.built.Built.{Built}
use Rattle.pass_entry.specs.Body.{body_words, BuiltOf, Made}
use Rattle.pass_entry.specs.Cut.{answer_for, output_for, need_of}

-- ---- one piece behind another

piece : (xs out from : List ℕ) (k n : ℕ) → length xs ≡ k → paste (xs ++ drop k out) k from n ≡ (xs ++ take n from) ++ drop (k + n) out
piece xs out from k n e =
    ap₂ (λ (a c : List ℕ). (a ++ take n from) ++ c)
    (take_at xs (drop k out) k e)
    (ap (λ (m : ℕ). drop (m + n) (xs ++ drop k out)) (sym e) ∙ drop-append-add xs (drop k out) n ∙ drop-drop n k out)

three : (xs out body list out1 out2 out3 : List ℕ) (k m n : ℕ) → length xs ≡ k → m ≤ length body → out1 ≡ xs ++ drop k out → out2 ≡ paste out1 k body m
    → out3 ≡ paste out2 (k + m) list n → out3 ≡ ((xs ++ take m body) ++ take n list) ++ drop (k + m + n) out
three xs out body list out1 out2 out3 k m n e l e1 e2 e3 =
    e3
    ∙ ap (λ (o : List ℕ). paste o (k + m) list n) (e2 ∙ ap (λ (o : List ℕ). paste o k body m) e1 ∙ piece xs out body k m e)
    ∙ piece (xs ++ take m body) out list (k + m) n (length-append xs (take m body) ∙ omega (arith, e, length-take-le m body l))

-- six words at the front
pub front-is : (h out : List ℕ) → length h ≡ 6 → 24 ≤ length out → set_words out 0 h ≡ bytes_of h ++ drop 24 out
front-is h out e l =
    set_words-bytes h out 0 (omega (arith, e)) ∙ ap (λ (n : ℕ). bytes_of h ++ drop n out) (let z : 4 * (0 + length h) ≡ 24 = omega (arith, e) in z)

header-long : (a b d e f g : ℕ) → length (header_words a b d e f g) ≡ 6
unfolding header_words
header-long a b d e f g = refl

-- ---- the record

-- a constraint record is its header, its body and its nodes
in_parts : (c : ConstraintModule)
    → constraint_bytes c
    ≡ (bytes_of (header_words c.next (length c.publics) (length c.provers) (length c.equalities) (length c.kept) (definitions_nodes c.kept))
    ++ bytes_of (body_words c))
    ++ bytes_of (definitions_trees 0 c.kept)
unfolding constraint_bytes constraint_words body_words
in_parts c =
    let h : List ℕ =
    header_words c.next (length c.publics) (length c.provers) (length c.equalities) (length c.kept) (definitions_nodes c.kept) in
    let p : List ℕ = c.publics in
    let q : List ℕ = c.provers in
    let e : List ℕ = equalities_words c.equalities in
    let k : List ℕ = definitions_words 0 c.kept in
    let n : List ℕ = definitions_trees 0 c.kept in
    let z : h ++ (p ++ (q ++ (e ++ (k ++ n)))) ≡ (h ++ (p ++ (q ++ (e ++ k)))) ++ n = simp append_assoc in
    ap bytes_of z
    ∙ bytes_of-append (h ++ (p ++ (q ++ (e ++ k)))) n
    ∙ ap (λ (x : List ℕ). x ++ bytes_of n) (bytes_of-append h (p ++ (q ++ (e ++ k))))

module _ (c : ConstraintModule) (built : Built) (body list : List ℕ) (made : Made c built body list) where
  pub size_is : length (constraint_bytes c) ≡ 24 + 4 * built.kept + 16 * built.nodes
  size_is = omega (arith, length-bytes c, made.numbers.start_is, made.numbers.equalities-is, made.numbers.kept-is, made.numbers.nodes-is)

  -- no room
  pub not-delivered : (out : List ℕ) → length out < 24 + 4 * built.kept + 16 * built.nodes
      → (numbered {A = ℕ} (Err Refusal.Output) ≡ answer_for (length out) (cut c)) × (out ≡ output_for out (cut c))
  unfolding answer_for output_for pick
  not-delivered out l = let z : length out < length (constraint_bytes c) = omega (arith, size_is) in (rw (lt-leb _ _ z), rw (lt-leb _ _ z))

  module _ (equalities : ℕ) (q : equalities ≡ (built.equalities - built.start) / EQUALITY-WORDS) where
    -- the header as the code has it
    abbrev header : List ℕ
    header = header_words built.next built.publics (built.start - built.publics) equalities ((built.kept - built.equalities) / KEPT-WORDS) built.nodes

    header_is : header
        ≡ header_words c.next (length c.publics) (length c.provers) (length c.equalities) (length c.kept) (definitions_nodes c.kept)
    header_is =
        let n = made.numbers in
        let z0 = n.next-is in
        let z1 = n.publics-is in
        let z2 : built.start - built.publics ≡ length c.provers = omega (arith, n.start_is, n.publics-is) in
        let z3 : equalities ≡ length c.equalities = omega (arith, n.equalities-is) in
        let z4 : (built.kept - built.equalities) / KEPT-WORDS ≡ length c.kept = omega (arith, n.kept-is) in
        let z5 = n.nodes-is in
        cc

    pub delivered : (size : ℕ) (out out1 out2 out3 : List ℕ) → size ≡ 24 + 4 * built.kept + 16 * built.nodes → size ≤ length out →
        4 * built.kept ≤ length body →
        out1 ≡ set_words out 0 header → out2 ≡ paste out1 24 body (4 * built.kept) → out3 ≡ paste out2 (24 + 4 * built.kept) list (16 * built.nodes) →
        (numbered (Ok size) ≡ answer_for (length out) (cut c)) × (out3 ≡ output_for out (cut c))
    unfolding answer_for output_for pick
    delivered size out out1 out2 out3 s l m e1 e2 e3 =
        let z : length (constraint_bytes c) ≤ length out = omega (arith, size_is) in (
          rw (le-leb _ _ z) (ap Ok (s ∙ sym size_is)),
          rw (le-leb _ _ z) (whole ∙ ap (λ (n : ℕ). constraint_bytes c ++ drop n out) (sym size_is)),
        )
      where
        front : out1 ≡ bytes_of header ++ drop 24 out
        front = e1 ∙ front-is header out (header-long _ _ _ _ _ _) (omega arith)

        header-bytes : length (bytes_of header) ≡ 24
        header-bytes = length-bytes_of header ∙ ap (λ (n : ℕ). 4 * n) (header-long _ _ _ _ _ _)

        whole : out3 ≡ constraint_bytes c ++ drop (24 + 4 * built.kept + 16 * built.nodes) out
        whole =
            three (bytes_of header) out body list out1 out2 out3 24 (4 * built.kept) (16 * built.nodes) header-bytes m front e2 e3
            ∙ ap (λ (x : List ℕ). x ++ drop (24 + 4 * built.kept + 16 * built.nodes) out)
            (ap₂ (λ (x y : List ℕ). x ++ y) (ap₂ (λ (x y : List ℕ). bytes_of x ++ y) header_is made.body_is) made.list-is ∙ sym (in_parts c))

-- what it needs, by the numbers that were built
pub needs-numbers : (c : ConstraintModule) (x : Built) {equalities bytes : ℕ} → BuiltOf c x → equalities ≡ (x.equalities - x.start) / EQUALITY-WORDS →
    bytes ≡ 24 + 4 * x.kept + 16 * x.nodes → numbered (Ok (record { equalities = equalities; bytes = bytes })) ≡ need_of (cut c)
unfolding need_of
needs-numbers c x {equalities} {bytes} n e s =
    let e1 : equalities ≡ length c.equalities = omega (arith, n.start_is, n.equalities-is) in
    let s1 : bytes ≡ length (constraint_bytes c) = omega (arith, length-bytes c, n.start_is, n.equalities-is, n.kept-is, n.nodes-is) in
    let z : ◌≡◌ {A = Need} (record { equalities = equalities; bytes = bytes })
    (record { equalities = length c.equalities; bytes = length (constraint_bytes c) }) = rw (e1, s1) in
    ap Ok z
