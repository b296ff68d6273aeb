-- The lists that the body takes over: the public ids as their bytes, and the turns of the loop over the marked ids, where what is written and what is
-- left to write is always the whole list.
-- Assumes nothing.
use Prim.Native.Nat.{ℕ, zero, suc, ◌+◌, ◌-◌, ◌*◌, ◌≤◌, ◌<◌}
use mathlib.Core.Path.{◌≡◌, refl, sym, ap, ◌∙◌}
use mathlib.Core.List.{List, [], ◌∷◌, ◌++◌}
use mathlib.Core.Bool.{Bool, true, false}
use native.Mathlib.Omega.{arith}
use lib.ListN.{length, length-append, length-drop, get_or, take, drop}
use lib.Seq.{paste, take_all}
use Rattle.std.proofs.lemmas.List.{get_or-take, get_or-drop, length-take-le}
use Rattle.words.specs.Words.{word_at, set_word, set_words, bytes_of}
use Rattle.words.proofs.Laws.{set_words-append, set_words-bytes}
use Rattle.flat.specs.Record.{rows}
use Rattle.flat.proofs.Rows.{length-rows, rows_at}
use Rattle.flat.proofs.Standing.{Stands, standing-bytes}
use Rattle.pass_trees.specs.Passes.{keep_if, ids_from}
use Rattle.pass_trees.proofs.Loops.{ids-append}
use Rattle.pass_classify.specs.Arrays.{marked}

-- ---- the words of a record that are taken over as they are, with their bytes

bytes-taken : (n : ℕ) (l : List ℕ) (k : ℕ) → ((j : ℕ) → get_or l j 0 < 256) → get_or (take n l) k 0 < 256
bytes-taken zero l k h = omega arith
bytes-taken (suc n) [] k h = omega arith
bytes-taken (suc n) (x ∷ l) zero h = h 0
bytes-taken (suc n) (x ∷ l) (suc k) h = bytes-taken n l k (λ j. h (suc j))

-- n words from word `at` on
module _ (b : List ℕ) (at n : ℕ) (long : 4 * (at + n) ≤ length b) (bytes : (k : ℕ) → get_or b k 0 < 256) where
  abbrev words : List ℕ
  words = rows n 0 (λ k. word_at b (at + k))

  abbrev part : List ℕ
  part = take (4 * n) (drop (4 * at) b)

  part_byte : (j i : ℕ) → j < 4 * n → 4 * at + j ≡ i → get_or part j 0 ≡ get_or b i 0
  part_byte j i l e = get_or-take (4 * n) (drop (4 * at) b) j 0 l ∙ get_or-drop (4 * at) b j 0 ∙ ap (λ (k : ℕ). get_or b k 0) e

  part-long : length part ≡ 4 * n
  part-long = length-take-le (4 * n) (drop (4 * at) b) (omega (arith, length-drop (4 * at) b))

  part-stands : Stands part 0 words
  unfolding word_at
  part-stands k l =
      let m : k < n = omega (arith, length-rows (λ k. word_at b (at + k)) n 0) in
      let e : word_at part (0 + k) ≡ word_at b (at + (0 + k)) =
      omega (
        arith,
        part_byte (4 * (0 + k)) (4 * (at + (0 + k))) (omega arith) (omega arith),
        part_byte (4 * (0 + k) + 1) (4 * (at + (0 + k)) + 1) (omega arith) (omega arith),
        part_byte (4 * (0 + k) + 2) (4 * (at + (0 + k)) + 2) (omega arith) (omega arith),
        part_byte (4 * (0 + k) + 3) (4 * (at + (0 + k)) + 3) (omega arith) (omega arith),
      ) in
      e ∙ sym (rows_at (λ k. word_at b (at + k)) n 0 k 0 m)

  part-bytes : part ≡ bytes_of words
  part-bytes =
      standing-bytes words part (omega (arith, part-long, length-rows (λ k. word_at b (at + k)) n 0))
      (λ i k l. bytes-taken (4 * n) (drop (4 * at) b) (4 * i + k) (λ j. rw (get_or-drop (4 * at) b j 0) (bytes (4 * at + j)))) part-stands

  pub words-pasted : (m : ℕ) (body : List ℕ) {out : List ℕ} → length b - 4 * at ≤ m → 4 * n ≤ length body
      → out ≡ paste body 0 (take m (drop (4 * at) b)) (4 * n) → out ≡ set_words body 0 words
  words-pasted m body l f o =
      let all : take m (drop (4 * at) b) ≡ drop (4 * at) b = take_all m (drop (4 * at) b) (omega (arith, length-drop (4 * at) b)) in
      let count = length-rows (λ k. word_at b (at + k)) n 0 in
      let end : 4 * (0 + length words) ≡ 0 + 4 * n = omega (arith, count) in
      let put = rw (end, ← part-bytes) at (set_words-bytes words body 0 (omega (arith, count))) in
      rw all at o ∙ sym put

-- ---- the marked ids

-- one id, marked or not
one_kept : (t : ℕ → Bool) (v : ℕ) → t v ≡ true → ids_from t v 1 ≡ v ∷ []
unfolding ids_from keep_if
one_kept t v e = rw e

one_left : (t : ℕ → Bool) (v : ℕ) → t v ≡ false → ids_from t v 1 ≡ []
unfolding ids_from keep_if
one_left t v e = rw e

pub id-kept : (m : List Bool) (v : ℕ) → marked m v ≡ true → ids_from (marked m) v 1 ≡ v ∷ []
id-kept m v h = one_kept (marked m) v h

pub id_left : (m : List Bool) (v : ℕ) → marked m v ≡ false → ids_from (marked m) v 1 ≡ []
id_left m v h = one_left (marked m) v h

pub left-written : (b : List ℕ) (at : ℕ) (ws : List ℕ) → ws ≡ [] → (b ≡ set_words b at ws) × (at ≡ at + length ws)
unfolding set_words
left-written b at ws e = rw e (refl, omega arith)

pub kept-written : (b : List ℕ) (at w : ℕ) (ws : List ℕ) → ws ≡ w ∷ [] → (set_word b at w ≡ set_words b at ws) × (at + 1 ≡ at + length ws)
unfolding set_words
kept-written b at w ws e = rw e (refl, refl)

kept-short : (c : Bool) (v : ℕ) → length (keep_if {A = ℕ} c v []) ≤ 1
unfolding keep_if
kept-short true v = omega arith
kept-short false v = omega arith

one-short : (t : ℕ → Bool) (v : ℕ) → length (ids_from t v 1) ≤ 1
unfolding ids_from
one-short t v = kept-short (t v) v

-- the ids that are left, with one of them in front
ids_next : (t : ℕ → Bool) (n v : ℕ) → v < n → ids_from t v (n - v) ≡ ids_from t v 1 ++ ids_from t (v + 1) (n - (v + 1))
ids_next t n v l = let z : n - v ≡ 1 + (n - (v + 1)) = omega arith in ap (ids_from t v) z ∙ ids-append t v 1 (n - (v + 1))

ids-none : (t : ℕ → Bool) (n v : ℕ) → n ≤ v → ids_from t v (n - v) ≡ []
unfolding ids_from
ids-none t n v l = let z : n - v ≡ 0 = omega arith in ap (ids_from t v) z

-- what the loop over ids keeps: the body b at word `to`, with the ids from v on still to write
pub record Writing (t : ℕ → Bool) (n at v to : ℕ) (b d : List ℕ) : Type 0 where
  pub whole : set_words b to (ids_from t v (n - v)) ≡ set_words d at (ids_from t 0 n)
  pub end : to + length (ids_from t v (n - v)) ≡ at + length (ids_from t 0 n)
  pub long : length b ≡ length d
  pub place : to ≤ at + v
  pub inside : v ≤ n

pub writing_start : (t : ℕ → Bool) (n at : ℕ) (d : List ℕ) → Writing t n at 0 at d d
writing_start t n at d =
    let z : n - 0 ≡ n = omega arith in
    record {
      whole = ap (λ (m : ℕ). set_words d at (ids_from t 0 m)) z;
      end = ap (λ (m : ℕ). at + length (ids_from t 0 m)) z;
      long = refl;
      place = omega arith;
      inside = omega arith;
    }

pub writing-turn : (t : ℕ → Bool) (n at v to to' : ℕ) (b b' d : List ℕ) → v < n → b' ≡ set_words b to (ids_from t v 1) → to' ≡ to + length (ids_from t v 1)
    → length b' ≡ length b → Writing t n at v to b d → Writing t n at (v + 1) to' b' d
writing-turn t n at v to to' b b' d l e f g w =
    record {
      whole =
          ap (λ (x : List ℕ). set_words x to' (ids_from t (v + 1) (n - (v + 1)))) e
          ∙ ap (λ (x : ℕ). set_words (set_words b to (ids_from t v 1)) x (ids_from t (v + 1) (n - (v + 1)))) f
          ∙ sym (set_words-append (ids_from t v 1) (ids_from t (v + 1) (n - (v + 1))) b to)
          ∙ ap (set_words b to) (sym (ids_next t n v l))
          ∙ w.whole;
      end = omega (arith, f, ap length (ids_next t n v l), length-append (ids_from t v 1) (ids_from t (v + 1) (n - (v + 1))), w.end);
      long = g ∙ w.long;
      place = omega (arith, f, one-short t v, w.place);
      inside = omega arith;
    }

pub writing-end : (t : ℕ → Bool) (n at v to : ℕ) (b d : List ℕ) → n ≤ v → Writing t n at v to b d
    → (b ≡ set_words d at (ids_from t 0 n)) × (to ≡ at + length (ids_from t 0 n))
unfolding set_words
writing-end t n at v to b d l w = (
  sym (ap (set_words b to) (ids-none t n v l)) ∙ w.whole,
  omega (arith, ap length (ids-none t n v l), w.end),
)
