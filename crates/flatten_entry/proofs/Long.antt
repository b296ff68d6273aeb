-- No record is longer than 76,052 bytes, and whatever is longer has the answer of its front. Assumes nothing.
use Prim.Native.Nat.{ℕ, zero, suc, ◌+◌, ◌*◌, ◌/◌, ◌≤◌, ◌<◌}
use mathlib.Core.Path.{◌≡◌, refl, sym, ap, ◌∙◌}
use mathlib.Core.List.{List}
use mathlib.Core.Bool.{Bool, true, false, ◌||◌}
use native.Mathlib.Omega.{arith}
use lib.ListN.{length, take}
use lib.Seq.{length-take-le, take_all, get_or-take}
use lib.Dec.{leb, ltb, eqb}
use borrow.Author.Tests.{leb-true, ltb-true, ltb-false, le-leb, ne_eqb, eqb-true}
use Rattle.words.specs.Words.{word_at}
use Rattle.marks.specs.Indices.{every}
use Rattle.source.specs.Layout.{BYTES, names, publics, definitions, expressions, nodes, text_offset, counted, listed}
use Rattle.source.specs.Names.{offset_of, length_of, end_of, name_fits, names_fit}
use Rattle.records.specs.declared.refusals.Refusal.{Refusal}
use Rattle.source.specs.Record.{Read, source_of, unless}
use Rattle.pass_trees.proofs.Lists.{both_true}
use Rattle.eval_simulation.proofs.Representation.Written.{Way, on, off, way}
use Rattle.eval_entry.specs.Source.{capacity_of}
use Rattle.flatten_entry.specs.Flatten.{flattened_read, flattened}
use Rattle.flatten_entry.specs.Statement.{LongAsFront, LargeAsMost}

module _ (b : List ℕ) where
  -- "counts of names (to 512), publics (to 64), definitions (to 512), expressions (to 512), nodes (to 2,048)": the text starts at byte 43,284 at the latest
  text-early : counted b ≡ true → (names b ≤ 512) × (text_offset b ≤ 43284)
  unfolding counted
  text-early h =
      let h1 = both_true (leb (names b) 512) _ h in
      let h2 = both_true (leb (publics b) 64) _ h1.1 in
      let h3 = both_true (leb (definitions b) 512) _ h2.1 in
      let h4 = both_true (leb (expressions b) 512) (leb (nodes b) 2048) h3.1 in
      let n1 = leb-true (names b) 512 h1.0 in
      let n2 = leb-true (publics b) 64 h2.0 in
      let n3 = leb-true (definitions b) 512 h3.0 in
      let n4 = leb-true (expressions b) 512 h4.0 in
      let n5 = leb-true (nodes b) 2048 h4.1 in
      (n1, omega (arith, n1, n2, n3, n4, n5))

  -- "lengths 1 to 64": the text has at most 64 bytes for each name, and "the last ends with the file"
  name-short : (k : ℕ) → name_fits b (text_offset b) k ≡ true → (offset_of b k ≡ end_of b k) × (length_of b k ≤ 64)
  unfolding name_fits
  name-short k h =
      let h1 = both_true (eqb (offset_of b k) (end_of b k)) _ h in
      let h2 = both_true (leb 1 (length_of b k)) _ h1.1 in
      let h3 = both_true (leb (length_of b k) 64) _ h2.1 in
      (eqb-true _ _ h1.0, leb-true _ 64 h3.0)

  ends-early : (k : ℕ) → every k (name_fits b (text_offset b)) ≡ true → end_of b k ≤ 64 * k
  unfolding every end_of
  ends-early zero h = omega arith
  ends-early (suc k) h =
      let h1 = both_true (every k (name_fits b (text_offset b))) _ h in
      let w = name-short k h1.1 in
      omega (arith, ends-early k h1.0, w.0, w.1)

  names-short : (n : ℕ) → names_fit b (text_offset b) n ≡ true → length b ≤ text_offset b + 64 * n
  unfolding names_fit
  names-short n h =
      let h1 = both_true (every n (name_fits b (text_offset b))) _ h in
      omega (arith, ends-early n h1.0, eqb-true (text_offset b + end_of b n) (length b) h1.1)

  -- so a longer byte string fails with the header's numbers, or with 3
  abbrev early : Read
  early = unless (counted b) Refusal.Count (unless (ltb 0 (names b)) Refusal.Length (Read.refused Refusal.Name))

  module _ (long : BYTES < length b) where
    is-listed : counted b ≡ true → listed b ≡ ltb 0 (names b)
    unfolding listed
    is-listed h =
        let t = text-early h in
        rw (le-leb (text_offset b) (length b) (omega (arith, t.1)), ne_eqb (length b) (text_offset b) (λ e. omega (arith, t.1))) (or-false (ltb 0 (names b)))
      where
        or-false : (x : Bool) → (x || false) ≡ x
        or-false true = refl
        or-false false = refl

    not_named : counted b ≡ true → Way (names_fit b (text_offset b) (names b)) → names_fit b (text_offset b) (names b) ≡ false
    not_named h (off q) = q
    not_named h (on q) = let t = text-early h in absurd (omega (arith, t.0, t.1, names-short (names b) q))

    long-way : Way (counted b) → Way (ltb 0 (names b)) → source_of b ≡ early
    unfolding source_of unless
    long-way (off q) w = rw (le-leb 20 (length b) (omega arith), q)
    long-way (on q) (off p) = rw (le-leb 20 (length b) (omega arith), q, is-listed q, p)
    long-way (on q) (on p) = rw (le-leb 20 (length b) (omega arith), q, is-listed q, p, not_named q (way _))

    pub long-early : source_of b ≡ early
    long-early = long-way (way _) (way _)

-- the header of a front is the header
word-taken : (n : ℕ) (b : List ℕ) (k : ℕ) → 4 * k + 4 ≤ n → word_at (take n b) k ≡ word_at b k
unfolding word_at
word-taken n b k l = rw (
  get_or-take {A = ℕ} n b (4 * k) 0 (omega arith),
  get_or-take {A = ℕ} n b (4 * k + 1) 0 (omega arith),
  get_or-take {A = ℕ} n b (4 * k + 2) 0 (omega arith),
  get_or-take {A = ℕ} n b (4 * k + 3) 0 (omega arith),
) refl

early-taken : (n : ℕ) (b : List ℕ) → 20 ≤ n → early (take n b) ≡ early b
unfolding counted
early-taken n b l = rw (
  word-taken n b 0 (omega arith),
  word-taken n b 1 (omega arith),
  word-taken n b 2 (omega arith),
  word-taken n b 3 (omega arith),
  word-taken n b 4 (omega arith),
) refl

pub front_read : (b : List ℕ) (n : ℕ) → BYTES < n → source_of (take n b) ≡ source_of b
front_read b n l = go (way (ltb n (length b)))
  where
    go : Way (ltb n (length b)) → source_of (take n b) ≡ source_of b
    go (on h) =
        let m = ltb-true n (length b) h in
        let z : length (take n b) ≡ n = length-take-le n b (omega arith) in
        long-early (take n b) (omega (arith, z)) ∙ early-taken n b (omega arith) ∙ sym (long-early b (omega arith))
    go (off h) = ap source_of (take_all n b (ltb-false n (length b) h))

pub long-as-front : LongAsFront
unfolding flattened
long-as-front b len n l = ap (flattened_read _) (front_read b n l)

-- a store that holds 65,535 nodes holds as many as matter
capacity-most : (len : ℕ) → 1048560 ≤ len → Way (ltb 65535 (len / 16)) → capacity_of len ≡ 65535
unfolding capacity_of
capacity-most len l (on q) = rw q
capacity-most len l (off q) = rw q (omega (arith, ltb-false 65535 (len / 16) q))

pub large-as-most : LargeAsMost
unfolding flattened
large-as-most b len l = ap (λ (c : ℕ). flattened_read c (source_of b)) (capacity-most len l (way _) ∙ sym (capacity-most 1048560 (omega arith) (way _)))
