-- Where the lists lie, and the numbers in their order. Assumes nothing.
use Prim.Native.Nat.{ℕ, ◌+◌, ◌*◌, ◌≤◌, ◌<◌}
use mathlib.Core.Path.{◌≡◌, refl, sym, ◌∙◌}
use mathlib.Core.List.{List}
use mathlib.Core.Bool.{Bool, true, false, ◌&&◌, ◌||◌}
use native.Mathlib.Omega.{arith}
use lib.ListN.{length}
use lib.Dec.{leb, ltb, eqb}
use borrow.Author.Tests.{leb-true, le-leb, lt-leb}
use Rattle.source.specs.declared.Layout.{Layout}
use Rattle.source.specs.Layout.{layout_of, counted, listed, names, text_offset, NAME-WORDS, DEFINITION-WORDS}
use Rattle.source.specs.Names.{names_fit, names_differ}
use Rattle.source.specs.Nodes.{nodes_fit, publics_fit, definitions_fit, expressions_fit}
use Rattle.source.specs.Uses.{by_nodes, by_definitions, by_expressions}
use Rattle.source.specs.Record.{shaped, used_once, unless, source_of}
use Rattle.marks.proofs.Indices.{and_left, and_right}
use Rattle.std.specs.Prelude.{Ok, Err}
use Rattle.records.specs.declared.refusals.Refusal.{Refusal}
use Rattle.source_check.specs.Answer.{Checked, checked}
use Rattle.source_check.specs.Marks.{verdict, outcome}
use Rattle.source_check.proofs.Marks.{refused, passes-on}
use Rattle.std.specs.Result.{IsErrAnd}
use Rattle.marks.specs.declared.Uses.{Uses}
use Rattle.marks.specs.Marks.{Adds, no_marks, all_once}
use Rattle.marks.proofs.Counted.{counted-once, adds-more}
use Rattle.records.specs.SourceRecord.{HEADER, NODES}

-- where the lists lie in a file that is long enough
pub record Room (l : Layout) (size : ℕ) : Type 0 where
  pub nodes-in : 4 * (l.nodes_at + 4 * l.nodes) ≤ size
  pub publics-in : 4 * (l.publics_at + l.publics) ≤ size
  pub definitions-in : 4 * (l.definitions_at + DEFINITION-WORDS * l.definitions) ≤ size
  pub expressions-in : 4 * (l.expressions_at + l.expressions) ≤ size
  pub names_in : 4 * (HEADER + NAME-WORDS * l.names) ≤ size

room_of : (b : List ℕ) (size : ℕ) → text_offset b ≤ size → Room (layout_of b) size
unfolding layout_of
room_of b size h = record { nodes-in = h; publics-in = omega arith; definitions-in = omega arith; expressions-in = omega arith; names_in = omega arith }

pub room : (b : List ℕ) {l : Layout} (size : ℕ) → l ≡ layout_of b → l.text_at ≤ size → Room l size
unfolding layout_of
room b size e h = rw e (room_of b size (rw e at h))

-- ---- 5 and 6

-- where a layout in a local is the record's
module _ (b : List ℕ) {l : Layout} (e : l ≡ layout_of b) where
  pub shaped-is : shaped b
      ≡ (nodes_fit b l.nodes_at l.names l.nodes
      && (publics_fit b l.names l.publics_at l.publics
      && (definitions_fit b l.nodes_at l.nodes l.definitions_at l.definitions && expressions_fit b l.nodes_at l.nodes l.expressions_at l.expressions)))
  unfolding shaped layout_of
  shaped-is = rw e refl

  -- the exit of a `?`
  pub trees-stop : (t : Bool) {r v : Checked} {n : Refusal} → v ≡ verdict Refusal.Entry t → v ≡ Err n → IsErrAnd r (λ x. x ≡ n) → (t ≡ false
      → shaped b ≡ false)
      → r ≡ outcome (shaped b) (used_once b)
  unfolding outcome
  trees-stop t p q h w = passes-on Refusal.Entry t p q h ∙ rw (w (refused Refusal.Entry t p q).0)

  -- the marks, from none to the end's test
  pub trees-marked : {m m₁ m₂ m₃ : List Uses} {t : Bool} → l.nodes ≤ NODES → m ≡ no_marks NODES → Adds m m₁ (by_nodes b l.nodes_at l.nodes)
      → Adds m₁ m₂ (by_definitions b l.definitions_at l.definitions) → Adds m₂ m₃ (by_expressions b l.expressions_at l.expressions)
      → t ≡ all_once m₃ l.nodes → t ≡ used_once b
  unfolding used_once layout_of
  trees-marked few z u₁ u₂ u₃ q =
      let others : ℕ → ℕ = λ k. by_definitions b l.definitions_at l.definitions k + by_expressions b l.expressions_at l.expressions k in
      let f : ℕ → ℕ = λ k. by_nodes b l.nodes_at l.nodes k + others k in
      rw e at (q ∙ counted-once l.nodes f few z (adds-more f u₁ (adds-more others u₂ u₃ (λ k. refl)) (λ k. refl)))

pub trees-once : (b : List ℕ) {t : Bool} → shaped b ≡ true → t ≡ used_once b → t ≡ true → Ok tt ≡ outcome (shaped b) (used_once b)
unfolding outcome verdict
trees-once b s e h = rw (s, ← e, h)

pub trees-not-once : (b : List ℕ) {t : Bool} → shaped b ≡ true → t ≡ used_once b → t ≡ false → Err Refusal.Uses ≡ outcome (shaped b) (used_once b)
unfolding outcome verdict
trees-not-once b s e h = rw (s, ← e, h)

-- ---- the numbers in their order

pub is-short : (b : List ℕ) → length b < 20 → Err Refusal.Length ≡ checked (source_of b)
unfolding source_of checked unless
is-short b h = rw (lt-leb 20 (length b) h)

module _ (b : List ℕ) (long : 20 ≤ length b) {l : Layout} (e : l ≡ layout_of b) {t : Bool}
    (c : t ≡ leb l.names 512 && (leb l.publics 64 && (leb l.definitions 512 && (leb l.expressions 512 && leb l.nodes 2048)))) where
  counts : t ≡ counted b
  unfolding counted layout_of
  counts = rw e at c

  pub is-over : t ≡ false → Err Refusal.Count ≡ checked (source_of b)
  unfolding source_of checked unless
  is-over f = rw (le-leb 20 (length b) long, sym counts ∙ f)

  module _ {t2 : Bool} (y1 : t ≡ true) (c2 : t2 ≡ leb l.text_at (length b) && (ltb 0 l.names || eqb (length b) l.text_at)) where
    lists : t2 ≡ listed b
    unfolding listed layout_of
    lists = rw e at c2

    pub is-unlisted : t2 ≡ false → Err Refusal.Length ≡ checked (source_of b)
    unfolding source_of checked unless
    is-unlisted f = rw (le-leb 20 (length b) long, sym counts ∙ y1, sym lists ∙ f)

    module _ {t3 : Bool} (y2 : t2 ≡ true) (c3 : t3 ≡ names_fit b l.text_at l.names) where
      named : t3 ≡ names_fit b (text_offset b) (names b)
      unfolding layout_of
      named = rw e at c3

      pub is-unnamed : t3 ≡ false → Err Refusal.Name ≡ checked (source_of b)
      unfolding source_of checked unless
      is-unnamed f = rw (le-leb 20 (length b) long, sym counts ∙ y1, sym lists ∙ y2, sym named ∙ f)

      module _ {t4 : Bool} (y3 : t3 ≡ true) (c4 : t4 ≡ names_differ b l.text_at l.names) where
        differ : t4 ≡ names_differ b (text_offset b) (names b)
        unfolding layout_of
        differ = rw e at c4

        pub is-equal : t4 ≡ false → Err Refusal.EqualNames ≡ checked (source_of b)
        unfolding source_of checked unless
        is-equal f = rw (le-leb 20 (length b) long, sym counts ∙ y1, sym lists ∙ y2, sym named ∙ y3, sym differ ∙ f)

        trees : t4 ≡ true → (u v : Bool) → shaped b ≡ u → used_once b ≡ v → outcome u v ≡ checked (source_of b)
        unfolding source_of checked unless outcome verdict
        trees y4 false v p q = rw (le-leb 20 (length b) long, sym counts ∙ y1, sym lists ∙ y2, sym named ∙ y3, sym differ ∙ y4, p)
        trees y4 true false p q = rw (le-leb 20 (length b) long, sym counts ∙ y1, sym lists ∙ y2, sym named ∙ y3, sym differ ∙ y4, p, q)
        trees y4 true true p q = rw (le-leb 20 (length b) long, sym counts ∙ y1, sym lists ∙ y2, sym named ∙ y3, sym differ ∙ y4, p, q)

        pub is-trees : {r : Checked} → t4 ≡ true → r ≡ outcome (shaped b) (used_once b) → r ≡ checked (source_of b)
        is-trees y4 p = p ∙ trees y4 (shaped b) (used_once b) refl refl

-- what a record with few counts and whole lists has
pub few-names : (l : Layout)
    → (leb l.names 512 && (leb l.publics 64 && (leb l.definitions 512 && (leb l.expressions 512 && leb l.nodes 2048)))) ≡ true → l.names ≤ 512
few-names l h =
    leb-true l.names 512
    (and_left (leb l.names 512) (leb l.publics 64 && (leb l.definitions 512 && (leb l.expressions 512 && leb l.nodes 2048))) h)

pub few-nodes : (l : Layout)
    → (leb l.names 512 && (leb l.publics 64 && (leb l.definitions 512 && (leb l.expressions 512 && leb l.nodes 2048)))) ≡ true → l.nodes ≤ 2048
few-nodes l h =
    let a = leb l.names 512 in
    let b = leb l.publics 64 in
    let c = leb l.definitions 512 in
    let d = leb l.expressions 512 in
    let e = leb l.nodes 2048 in
    leb-true l.nodes 2048 (and_right d e (and_right c (d && e) (and_right b (c && (d && e)) (and_right a (b && (c && (d && e))) h))))

pub long-lists : (text size : ℕ) (o : Bool) → (leb text size && o) ≡ true → text ≤ size
long-lists text size o h = leb-true text size (and_left (leb text size) o h)
