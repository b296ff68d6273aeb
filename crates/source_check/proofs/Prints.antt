-- Fingerprints, as the search for equal names meets them. Assumes nothing.
use Prim.Native.Nat.{ℕ, zero, suc, ◌+◌, ◌≤◌, ◌<◌}
use mathlib.Core.Path.{◌≡◌, refl, sym, ap, ◌∙◌}
use mathlib.Core.List.{List}
use mathlib.Core.Bool.{Bool, true, false, ◌&&◌}
use lib.Dec.{eqb, leb}
use lib.ListN.{length, get_or, drop, take, length-drop}
use lib.Pointwise.{pointwise, bytes_decides}
use lib.Seq.{get_or-drop, get_or-take, length-take-le}
use borrow.Author.Tests.{eqb-true}
use native.Mathlib.Numerals.{add-one}
use native.Mathlib.Omega.{arith}
use Rattle.std.specs.List.{fold, list_all}
use Rattle.std.proofs.Common.{ap₂}
use Rattle.marks.specs.Indices.{every}
use Rattle.marks.proofs.Indices.{and_left, and_right, every-front, every-same}
use Rattle.std.proofs.lemmas.Bool.{both_ways, false_from_ne_true}
use Rattle.std.proofs.lemmas.List.{take_all}
use Rattle.std.proofs.lemmas.List.Sums.{fold_more}
use Rattle.source.specs.Names.{printed, names_fit, same_bytes, same_name, name_of, offset_of, length_of}
use Rattle.source.proofs.Names.{named-at, same_text, text_same}
use Rattle.source_check.specs.Fingerprints.{step, fingerprint_of, Fingerprinted}

module _ (b : List ℕ) (text n : ℕ) (h : names_fit b text n ≡ true) {j k : ℕ} (p : j < n) (q : k < n) where
  -- names are equal where their texts are
  pub same-yes : name_of b text j ≡ name_of b text k → same_name b text j k ≡ true
  same-yes e = text_same b text j k (named-at b text n j h p) (named-at b text n k h q) e

  pub same-no : (name_of b text j ≡ name_of b text k → ⊥) → same_name b text j k ≡ false
  same-no d = false_from_ne_true _ (λ e. d (same_text b text j k (named-at b text n j h p) (named-at b text n k h q) e))

  same-is : (t : Bool) → t ≡ pointwise eqb (name_of b text j) (name_of b text k) → t ≡ same_name b text j k
  same-is true e = sym (same-yes ((bytes_decides _ _).0 (sym e)))
  same-is false e = sym (same-no (λ q. both_ways _ (sym e) ((bytes_decides _ _).1 q)))

  pub compared : {x y : List ℕ} (t : Bool) → x ≡ name_of b text j → y ≡ name_of b text k → t ≡ pointwise eqb x y → t ≡ same_name b text j k
  compared t u v e = same-is t (rw (u, v) at e)

-- ---- equal names have equal fingerprints, whether or not they lie within the record

same-bytes-print : (b : List ℕ) (from to n : ℕ) → same_bytes b from to n ≡ true → fingerprint_of b from n ≡ fingerprint_of b to n
unfolding fingerprint_of same_bytes every
same-bytes-print b from to zero h = refl
same-bytes-print b from to (suc n) h =
    let x = every n (λ i. eqb (get_or b (from + i) 0) (get_or b (to + i) 0)) in
    let y = eqb (get_or b (from + n) 0) (get_or b (to + n) 0) in
    ap₂ step (same-bytes-print b from to n (and_left x y h)) (eqb-true (get_or b (from + n) 0) (get_or b (to + n) 0) (and_right x y h))

same-name-print : (b : List ℕ) (text j k : ℕ) → same_name b text j k ≡ true
    → fingerprint_of b (text + offset_of b j) (length_of b j) ≡ fingerprint_of b (text + offset_of b k) (length_of b k)
unfolding same_name
same-name-print b text j k h =
    let x = eqb (length_of b j) (length_of b k) in
    let y = same_bytes b (text + offset_of b j) (text + offset_of b k) (length_of b j) in
    same-bytes-print b (text + offset_of b j) (text + offset_of b k) (length_of b j) (and_right x y h)
    ∙ ap (fingerprint_of b (text + offset_of b k)) (eqb-true (length_of b j) (length_of b k) (and_left x y h))

module _ (b : List ℕ) (text n j k : ℕ) (r : List ℕ) (f : Fingerprinted b text n r) (p : j < n) (q : k < n) (d : get_or r j 0 ≡ get_or r k 0 → ⊥) where
  pub prints-differ : false ≡ same_name b text j k
  prints-differ = sym (false_from_ne_true _ (λ e. d (f j p ∙ same-name-print b text j k e ∙ sym (f k q))))

-- ---- the fingerprint of bytes, and of a name that fits

pub print-none : (b : List ℕ) (from : ℕ) → 0 ≡ fingerprint_of b from 0
unfolding fingerprint_of
print-none b from = refl

pub print-more : (b : List ℕ) (i : ℕ) {h c : ℕ} → h ≡ fingerprint_of b 0 i → c ≡ get_or b i 0 → step h c ≡ fingerprint_of b 0 (i + 1)
unfolding fingerprint_of
print-more b i e q = let at : 0 + i ≡ i = omega arith in rw (add-one, at, e, q)

print-front : (xs b : List ℕ) (at from n : ℕ) → ((i : ℕ) → i < n → get_or xs (at + i) 0 ≡ get_or b (from + i) 0)
    → fingerprint_of xs at n ≡ fingerprint_of b from n
unfolding fingerprint_of
print-front xs b at from zero h = refl
print-front xs b at from (suc n) h = rw (print-front xs b at from n (λ i l. h i (omega arith)), h n (omega arith))

pub name-print : (b : List ℕ) (text n k : ℕ) → names_fit b text n ≡ true → k < n
    → fingerprint_of (name_of b text k) 0 (length (name_of b text k)) ≡ fingerprint_of b (text + offset_of b k) (length_of b k)
unfolding name_of
name-print b text n k h l =
    let from = text + offset_of b k in
    let within = (named-at b text n k h l).within in
    let long : length (take (length_of b k) (drop from b)) ≡ length_of b k =
    length-take-le (length_of b k) (drop from b) (simp length-drop (omega (arith, within))) in
    rw long (print-front _ b 0 from (length_of b k) (λ i g.
    let at : 0 + i ≡ i = omega arith in rw at (get_or-take (length_of b k) (drop from b) i 0 g ∙ get_or-drop from b i 0)))

print-taken : (name : List ℕ) (n : ℕ) → n ≤ length name → fingerprint_of name 0 n ≡ fold step 0 (take n name)
unfolding fingerprint_of
print-taken name zero l = refl
print-taken name (suc n) l =
    let at : 0 + n ≡ n = omega arith in
    rw at (ap (λ h. step h (get_or name n 0)) (print-taken name n (omega (arith, l))) ∙ rw add-one at (sym (fold_more step 0 name n 0 (omega (arith, l)))))

-- a fingerprint is one fold over a name's bytes
pub print-fold : (name : List ℕ) → fingerprint_of name 0 (length name) ≡ fold step 0 name
print-fold name = print-taken name (length name) (omega arith) ∙ ap (fold step 0) (take_all (length name) name (omega arith))

module _ (b : List ℕ) (text n : ℕ) (h : names_fit b text n ≡ true) where
  -- so is that of each name that fits
  pub name-fold : (k : ℕ) → k < n → fingerprint_of b (text + offset_of b k) (length_of b k) ≡ fold step 0 (name_of b text k)
  name-fold k l = sym (name-print b text n k h l) ∙ print-fold (name_of b text k)

  -- and names differ where an array holds different folds of them
  pub folds-differ : {j k : ℕ} → j < n → k < n → (r : List ℕ) → ((i : ℕ) → i < n → get_or r i 0 ≡ fold step 0 (name_of b text i))
      → (get_or r j 0 ≡ get_or r k 0 → ⊥) → same_name b text j k ≡ false
  folds-differ {j} {k} p q r f d = sym (prints-differ b text n j k r (λ i l. f i l ∙ sym (name-fold i l)) p q d)

-- bytes that a slice holds
pub all-printed : (b : List ℕ) (from n : ℕ) → from + n ≤ length b → list_all (λ c. leb 33 c && leb c 126) (take n (drop from b)) ≡ printed b from n
unfolding printed
all-printed b from n l =
    let fits : n ≤ length (drop from b) = simp length-drop (omega arith) in
    every-front (λ (c : ℕ). leb 33 c && leb c 126) (drop from b) 0 n fits
    ∙ every-same n _ _ (λ k h. ap (λ (c : ℕ). leb 33 c && leb c 126) (get_or-drop from b k 0))
