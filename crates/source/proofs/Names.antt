-- Names, as the reader's loops meet them. Assumes nothing.
use Prim.Native.Nat.{ℕ, zero, suc, ◌+◌, ◌-◌, ◌≤◌, ◌<◌}
use mathlib.Core.Path.{◌≡◌, refl, sym, ap, ◌∙◌}
use mathlib.Core.List.{List}
use mathlib.Core.Bool.{Bool, true, false, not, ◌&&◌}
use native.Mathlib.Numerals.{add-one}
use native.Mathlib.Omega.{arith}
use mathlib.Core.Logic.{⊎_elim}
use lib.ListN.{length, get_or, drop, length-drop, get_or-eq_default}
use lib.Seq.{length-take-le, get_or-take, get_or-drop, ext_get_or}
use lib.Dec.{leb, eqb}
use borrow.Author.Tests.{eq-eqb, ne_eqb, le-leb, lt-leb, leb-true, eqb-true, eqb-false, not-true}
use Rattle.marks.specs.Indices.{every}
use Rattle.source.specs.Names.{offset_of, length_of, end_of, printed, name_fits, names_fit, same_bytes, same_name, name_new, names_differ, name_of}
use Rattle.source.specs.Layout.{name_entry}
use Rattle.std.proofs.lemmas.Bool.{both_ways}
use Rattle.std.proofs.lemmas.Bool.{cases_lt}
use Rattle.marks.proofs.Indices.{and_no, and_left, and_right, every-fails, every-at}

eqb-sym-at : (t : Bool) (a b : ℕ) → eqb a b ≡ t → t ≡ eqb b a
eqb-sym-at true a b e = sym (eq-eqb b a (sym (eqb-true a b e)))
eqb-sym-at false a b e = sym (ne_eqb b a (λ q. eqb-false a b e (sym q)))

eqb-sym : (a b : ℕ) → eqb a b ≡ eqb b a
eqb-sym a b = eqb-sym-at (eqb a b) a b refl

-- ---- bytes

abbrev printable : List ℕ → ℕ → ℕ → Bool
printable b from i = leb 33 (get_or b (from + i) 0) && leb (get_or b (from + i) 0) 126

module _ (b : List ℕ) (from : ℕ) where
  pub printed-fails : (n i : ℕ) → i < n → (leb 33 (get_or b (from + i) 0) && leb (get_or b (from + i) 0) 126) ≡ false → false ≡ printed b from n
  unfolding printed
  printed-fails n i l e = every-fails n i (printable b from) l e

  -- a byte past the end is 0
  pub printed-past : (n : ℕ) → 1 ≤ n → length b < from + n → false ≡ printed b from n
  printed-past n p l =
      let z : get_or b (from + (n - 1)) 0 ≡ 0 = get_or-eq_default b 0 {n = from + (n - 1)} (omega arith) in
      printed-fails n (n - 1) (omega arith) (rw z)

  pub printed-within : (n : ℕ) → 1 ≤ n → printed b from n ≡ true → from + n ≤ length b
  printed-within n p h =
      ⊎_elim (λ (l : length b < from + n). absurd (both_ways _ (sym (printed-past n p l)) h)) (λ (l : from + n ≤ length b). l) (cases_lt (length b) (from + n))

-- ---- a name

module _ (b : List ℕ) (text k : ℕ) {offset end : ℕ} (e1 : offset ≡ (name_entry b k).offset) (e2 : end ≡ end_of b k) where
  pub name-starts-off : (offset ≡ end → ⊥) → false ≡ name_fits b text k
  unfolding name_fits offset_of
  name-starts-off f = rw (← e1, ← e2, ne_eqb offset end f)

  module _ {n : ℕ} (s : offset ≡ end) (e3 : n ≡ (name_entry b k).size) where
    pub name-empty : n < 1 → false ≡ name_fits b text k
    unfolding name_fits offset_of length_of
    name-empty l = rw (← e1, ← e2, ← e3, eq-eqb offset end s, lt-leb 1 n l)

    pub name-long : 1 ≤ n → 64 < n → false ≡ name_fits b text k
    unfolding name_fits offset_of length_of
    name-long g l = rw (← e1, ← e2, ← e3, eq-eqb offset end s, le-leb 1 n g, lt-leb n 64 l)

    pub name-sized : {r : Bool} → 1 ≤ n → n ≤ 64 → r ≡ printed b (text + offset) n → r ≡ name_fits b text k
    unfolding name_fits offset_of length_of
    name-sized g l e = rw (← e1, ← e2, ← e3, eq-eqb offset end s, le-leb 1 n g, le-leb n 64 l) e

-- what a name that fits has
pub record Named (b : List ℕ) (text k : ℕ) : Type 0 where
  pub starts : offset_of b k ≡ end_of b k
  pub some : 1 ≤ length_of b k
  pub few : length_of b k ≤ 64
  pub bytes : printed b (text + offset_of b k) (length_of b k) ≡ true
  pub within : text + offset_of b k + length_of b k ≤ length b

pub named : (b : List ℕ) (text k : ℕ) → name_fits b text k ≡ true → Named b text k
unfolding name_fits
named b text k h =
    let o = eqb (offset_of b k) (end_of b k) in
    let l1 = leb 1 (length_of b k) in
    let l2 = leb (length_of b k) 64 in
    let p = printed b (text + offset_of b k) (length_of b k) in
    let h1 = and_right o (l1 && (l2 && p)) h in
    let h2 = and_right l1 (l2 && p) h1 in
    let some : 1 ≤ length_of b k = leb-true 1 (length_of b k) (and_left l1 (l2 && p) h1) in
    record {
      starts = eqb-true (offset_of b k) (end_of b k) (and_left o (l1 && (l2 && p)) h);
      some = some;
      few = leb-true (length_of b k) 64 (and_left l2 p h2);
      bytes = and_right l2 p h2;
      within = printed-within b (text + offset_of b k) (length_of b k) some (and_right l2 p h2);
    }

pub named-at : (b : List ℕ) (text n k : ℕ) → names_fit b text n ≡ true → k < n → Named b text k
unfolding names_fit
named-at b text n k h l = named b text k (every-at n k (name_fits b text) (and_left (every n (name_fits b text)) (eqb (text + end_of b n) (length b)) h) l)

-- ---- the loop over names

pub end_none : (b : List ℕ) → 0 ≡ end_of b 0
unfolding end_of
end_none b = refl

pub end_more : (b : List ℕ) (k : ℕ) {offset n : ℕ} → offset ≡ (name_entry b k).offset → n ≡ (name_entry b k).size → offset + n ≡ end_of b (k + 1)
unfolding end_of offset_of length_of
end_more b k p q = rw (add-one, p, q)

pub names-fail : (b : List ℕ) (text n k : ℕ) {t : Bool} → k < n → t ≡ name_fits b text k → t ≡ false → false ≡ names_fit b text n
unfolding names_fit
names-fail b text n k l e f = and_no _ _ (sym (every-fails n k (name_fits b text) l (sym e ∙ f)))

pub names-end : (b : List ℕ) (text n k : ℕ) {end : ℕ} → every k (name_fits b text) ≡ true → end ≡ end_of b k → k ≡ n
    → eqb (length b) (text + end) ≡ names_fit b text n
unfolding names_fit
names-end b text n k {end} h e q = rw (← q, ← e, h) (eqb-sym (length b) (text + end))

-- where the code reads a name that fits
pub inside : (b : List ℕ) (text k : ℕ) {n offset : ℕ} → n ≡ (name_entry b k).size → offset ≡ (name_entry b k).offset → Named b text k →
    text + offset + n ≤ length b
unfolding offset_of length_of
inside b text k p q h = rw (p, q) h.within

-- ---- the texts of names that fit: equal where the test says so

module _ (b : List ℕ) (text : ℕ) where
  text-length : (k : ℕ) → Named b text k → length (name_of b text k) ≡ length_of b k
  unfolding name_of
  text-length k h = length-take-le (length_of b k) (drop (text + offset_of b k) b) (simp length-drop (omega (arith, h.within)))

  text-byte : (k i : ℕ) → i < length_of b k → get_or (name_of b text k) i 0 ≡ get_or b (text + offset_of b k + i) 0
  unfolding name_of
  text-byte k i l = get_or-take (length_of b k) (drop (text + offset_of b k) b) i 0 l ∙ get_or-drop (text + offset_of b k) b i 0

  pub same_text : (j k : ℕ) → Named b text j → Named b text k → same_name b text j k ≡ true → name_of b text j ≡ name_of b text k
  unfolding same_name same_bytes
  same_text j k p q h =
      let x = eqb (length_of b j) (length_of b k) in
      let y = same_bytes b (text + offset_of b j) (text + offset_of b k) (length_of b j) in
      let e : length_of b j ≡ length_of b k = eqb-true (length_of b j) (length_of b k) (and_left x y h) in
      ext_get_or 0 (name_of b text j) (name_of b text k) (text-length j p ∙ e ∙ sym (text-length k q)) (λ i l.
      let g : i < length_of b j = rw (text-length j p) at l in
      text-byte j i g
      ∙ eqb-true _ _ (every-at (length_of b j) i (λ n. eqb (get_or b (text + offset_of b j + n) 0) (get_or b (text + offset_of b k + n) 0)) (and_right x y h) g)
      ∙ sym (text-byte k i (rw e at g)))

  bytes_same : (from to n : ℕ) → ((i : ℕ) → i < n → get_or b (from + i) 0 ≡ get_or b (to + i) 0) → same_bytes b from to n ≡ true
  unfolding same_bytes every
  bytes_same from to zero f = refl
  bytes_same from to (suc n) f = rw (bytes_same from to n (λ i l. f i (omega arith)), eq-eqb (get_or b (from + n) 0) (get_or b (to + n) 0) (f n (omega arith)))

  pub text_same : (j k : ℕ) → Named b text j → Named b text k → name_of b text j ≡ name_of b text k → same_name b text j k ≡ true
  unfolding same_name
  text_same j k p q h =
      let e : length_of b j ≡ length_of b k = sym (text-length j p) ∙ ap length h ∙ text-length k q in
      rw (eq-eqb (length_of b j) (length_of b k) e) (bytes_same (text + offset_of b j) (text + offset_of b k) (length_of b j)
      (λ i l. sym (text-byte j i l) ∙ ap (λ (t : List ℕ). get_or t i 0) h ∙ text-byte k i (rw e at l)))

  -- names that differ by the test have different texts
  pub differ-texts : (n j k : ℕ) → names_fit b text n ≡ true → names_differ b text n ≡ true → j < k → k < n → name_of b text j ≡ name_of b text k → ⊥
  unfolding names_differ name_new
  differ-texts n j k h d l g e =
      let w = every-at k j (λ i. not (same_name b text i k)) (every-at n k (name_new b text) d g) l in
      both_ways _ (not-true (same_name b text j k) w) (text_same j k (named-at b text n j h (omega arith)) (named-at b text n k h g) e)
