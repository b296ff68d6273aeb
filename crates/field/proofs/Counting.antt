-- The laws of power counts: the bits of a number, the rule above 1, that it is the rule of the halved exponent, and that a count is at most its exponent.
use mathlib.Core.Path.{◌≡◌, refl, ap, sym, subst, ◌∙◌}
use mathlib.Core.Bool.{Bool, true, false}
use mathlib.Core.List.{List, [], ◌∷◌, map}
use Prim.Native.Nat.{ℕ, zero, suc, ◌+◌, ◌*◌, ◌-◌, ◌/◌, ◌%◌, ◌^◌, ◌<◌, ◌≤◌}
use native.Mathlib.Nat.{le_refl, not-suc-le-zero, zero-lt-suc, pow-suc}
use native.Mathlib.Omega.{arith}
use native.Mathlib.Decide.{dec_lt}
use Rattle.std.proofs.Math.Nat.{pow-le-pow_right}
use lib.Arith.{bin_ind}
use lib.Count.{ones, ones_step, count_leading_zeros}
use lib.ListN.{length}
use borrow.Author.Tests.{le-leb, lt-leb}
use Rattle.field.specs.Counts.{bits_from, bits, highest_bit, total, ones_of, power_count, count_from, halved_count, SameCounts}

-- the bits of n, when n or more halvings are left
bits-enough : (f g n : ℕ) → n ≤ f → n ≤ g → bits_from f n ≡ bits_from g n
unfolding bits_from
bits-enough zero zero n h k = refl
bits-enough zero (suc g) zero h k = refl
bits-enough zero (suc g) (suc n) h k = absurd (not-suc-le-zero h)
bits-enough (suc f) zero zero h k = refl
bits-enough (suc f) zero (suc n) h k = absurd (not-suc-le-zero k)
bits-enough (suc f) (suc g) zero h k = refl
bits-enough (suc f) (suc g) (suc n) h k = ap (λ (bs : List ℕ). suc n % 2 ∷ bs) (bits-enough f g (suc n / 2) (omega arith) (omega arith))

-- the lowest bit, and those of the half
bits-step : (n : ℕ) → 0 < n → bits n ≡ n % 2 ∷ bits (n / 2)
unfolding bits bits_from
bits-step zero h = absurd (not-suc-le-zero h)
bits-step (suc n) h = ap (λ (bs : List ℕ). suc n % 2 ∷ bs) (bits-enough n (suc n / 2) (suc n / 2) (omega arith) (le_refl (suc n / 2)))

length-step : (n : ℕ) → 0 < n → length (bits n) ≡ suc (length (bits (n / 2)))
length-step n h = ap (λ (bs : List ℕ). length bs) (bits-step n h)

length_none : length (bits 0) ≡ 0
unfolding bits bits_from
length_none = refl

ones_none : ones_of 0 ≡ 0
unfolding ones_of total bits bits_from
ones_none = refl

ones_half : (n : ℕ) → 0 < n → ones_of n ≡ n % 2 + ones_of (n / 2)
unfolding ones_of total
ones_half n h = ap total (bits-step n h)

ones_of_zero : ones 0 ≡ 0
unfolding ones
ones_of_zero = refl

-- the number of one bits is the language's own
pub ones-counted : (n : ℕ) → ones n ≡ ones_of n
ones-counted = bin_ind (λ (n : ℕ). ones n ≡ ones_of n) (ones_of_zero ∙ sym ones_none) (λ n ih. go n ih (dec_lt 0 n))
  where
    go : (n : ℕ) → ones (n / 2) ≡ ones_of (n / 2) → Dec (0 < n) → ones n ≡ ones_of n
    go n ih (yes l) = ones_step n ∙ ap (λ (k : ℕ). n % 2 + k) ih ∙ sym (ones_half n l)
    go n ih (no l) =
        let e : n ≡ 0 = omega arith in
        subst (λ (k : ℕ). ones k ≡ ones_of k) (sym e) (ones_of_zero ∙ sym ones_none)

-- a number that is not 0 has a one bit
pub some-ones : (n : ℕ) → 0 < n → 0 < ones_of n
some-ones = bin_ind (λ (n : ℕ). 0 < n → 0 < ones_of n) (λ h. absurd (not-suc-le-zero h)) (λ n ih h. go n ih h (dec_lt 1 n))
  where
    go : (n : ℕ) → (0 < n / 2 → 0 < ones_of (n / 2)) → 0 < n → Dec (1 < n) → 0 < ones_of n
    go n ih h (yes l) = omega (arith, ones_half n h, ih (omega arith))
    go n ih h (no l) = omega (arith, ones_half n h)

-- the leading zeros of the language, and the bits from the highest one bit on, fill the width
pub leading-bits : (k n : ℕ) → n < 2 ^ k → count_leading_zeros k n + length (bits n) ≡ k
unfolding count_leading_zeros
leading-bits zero n h =
    let e : n ≡ 0 = omega arith in
    subst (λ (m : ℕ). 0 + length (bits m) ≡ 0) (sym e) (omega (arith, length_none))
leading-bits (suc k) zero h = omega (arith, length_none)
leading-bits (suc k) (suc n) h =
    let twice : 2 ^ suc k ≡ 2 ^ k * 2 = pow-suc 2 k in
    omega (arith, leading-bits k (suc n / 2) (omega (arith, twice, h)), length-step (suc n) (zero-lt-suc n))

-- the highest one bit: at 1, and above
highest-one : highest_bit 1 ≡ 0
unfolding highest_bit bits bits_from
highest-one = refl

pub highest-length : (n : ℕ) → 0 < n → length (bits n) ≡ suc (highest_bit n)
unfolding highest_bit
highest-length n h = omega (arith, length-step n h)

highest-half : (n : ℕ) → 1 < n → highest_bit n ≡ suc (highest_bit (n / 2))
highest-half n h = omega (arith, highest-length n (omega arith), length-step n (omega arith), highest-length (n / 2) (omega arith))

abbrev Between : ℕ → Type 0
Between n = 0 < n → (2 ^ highest_bit n ≤ n) × (n < 2 ^ suc (highest_bit n))

-- n lies between the power of 2 at its highest one bit and the next
pub highest-bit : (n : ℕ) → 0 < n → (2 ^ highest_bit n ≤ n) × (n < 2 ^ suc (highest_bit n))
highest-bit = bin_ind Between (λ h. absurd (not-suc-le-zero h)) (λ n ih h. go n ih h (dec_lt 1 n))
  where
    go : (n : ℕ) → Between (n / 2) → 0 < n → Dec (1 < n) → (2 ^ highest_bit n ≤ n) × (n < 2 ^ suc (highest_bit n))
    go n ih h (yes l) =
        let j : ℕ = highest_bit (n / 2) in
        let half = ih (omega arith) in
        subst (λ (i : ℕ). (2 ^ i ≤ n) × (n < 2 ^ suc i)) (sym (highest-half n l))
        (omega (arith, pow-suc 2 j, half.0), omega (arith, pow-suc 2 (suc j), half.1))
    go n ih h (no l) =
        let e : n ≡ 1 = omega arith in
        subst (λ (m : ℕ). (2 ^ highest_bit m ≤ m) × (m < 2 ^ suc (highest_bit m))) (sym e)
        (subst (λ (i : ℕ). (2 ^ i ≤ 1) × (1 < 2 ^ suc i)) (sym highest-one) (le_refl 1, le_refl 2))

-- and so is only its highest one bit
pub highest-only : (n h : ℕ) → 2 ^ h ≤ n → n < 2 * 2 ^ h → h ≡ highest_bit n
highest-only n h low high = by-order (dec_lt h k) (dec_lt k h)
  where
    k : ℕ
    k = highest_bit n

    between : (2 ^ k ≤ n) × (n < 2 ^ suc k)
    between = highest-bit n (omega (arith, low, pow-le-pow_right {n = 2} (omega arith) {i = 0} {j = h} (omega arith)))

    by-order : Dec (h < k) → Dec (k < h) → h ≡ k
    by-order (yes l) d = absurd (omega (arith, pow-suc 2 h, high, pow-le-pow_right {n = 2} (omega arith) l, between.0))
    by-order (no m) (yes l) = absurd (omega (arith, low, pow-le-pow_right {n = 2} (omega arith) l, between.1))
    by-order (no m) (no l) = omega arith

-- the powers 0 and 1 leave none
pub power-count-zero : power_count 0 ≡ 0
unfolding power_count highest_bit
power-count-zero = omega (arith, length_none, ones_none)

pub power-count-one : power_count 1 ≡ 0
unfolding power_count highest_bit ones_of total bits bits_from
power-count-one = refl

-- by the highest one bit and the ones that the language counts
pub count-is : (n h : ℕ) → 2 ^ h ≤ n → n < 2 * 2 ^ h → h + ones n - 1 ≡ power_count n
unfolding power_count
count-is n h low high = omega (arith, highest-only n h low high, ones-counted n)

pub count-above : (n h : ℕ) → 2 ^ h ≤ n → 1 ≤ h + ones n
count-above n h low =
    omega (arith, ones-counted n, some-ones n (omega (arith, low, pow-le-pow_right {n = 2} (omega arith) {i = 0} {j = h} (omega arith))))

-- 1 leaves 0, 2 leaves 1, 3 leaves 2, 5 leaves 3; 64, and the largest element as exponent
pub worked-counts : map power_count (1 ∷ 2 ∷ 3 ∷ 5 ∷ 64 ∷ 1073741823 ∷ []) ≡ 0 ∷ 1 ∷ 2 ∷ 3 ∷ 6 ∷ 58 ∷ []
unfolding power_count highest_bit ones_of total bits bits_from
worked-counts = refl

-- the rule above 1
pub power_count_lem : (n : ℕ) → 1 < n → power_count n ≡ power_count (n / 2) + 1 + n % 2
unfolding power_count
power_count_lem n h = omega (arith, highest-half n h, ones_half n (omega arith), some-ones (n / 2) (omega arith))

-- the rule of the halved exponent
count-step : (f n : ℕ) → 1 < n → count_from (suc f) n ≡ count_from f (n / 2) + 1 + n % 2
unfolding count_from
count-step f n h = ap (λ (t : Bool). elim t as (λ _. ℕ) [ true ↦ 0 | false ↦ count_from f (n / 2) + 1 + n % 2 ]) (lt-leb n 1 h)

count-stop : (f n : ℕ) → n ≤ 1 → count_from f n ≡ 0
unfolding count_from
count-stop zero n h = refl
count-stop (suc f) n h = ap (λ (t : Bool). elim t as (λ _. ℕ) [ true ↦ 0 | false ↦ count_from f (n / 2) + 1 + n % 2 ]) (le-leb n 1 h)

count_none : (n : ℕ) → n ≤ 1 → power_count n ≡ 0
count_none zero h = power-count-zero
count_none (suc n) h =
    let e : suc n ≡ 1 = omega arith in
    ap power_count e ∙ power-count-one

count-from : (f n : ℕ) → n ≤ f → power_count n ≡ count_from f n
count-from zero n h = count_none n (omega arith) ∙ sym (count-stop zero n (omega arith))
count-from (suc f) n h = go (dec_lt 1 n) (count-from f (n / 2))
  where
    go : Dec (1 < n) → (n / 2 ≤ f → power_count (n / 2) ≡ count_from f (n / 2)) → power_count n ≡ count_from (suc f) n
    go (yes l) ih = power_count_lem n l ∙ ap (λ (m : ℕ). m + 1 + n % 2) (ih (omega arith)) ∙ sym (count-step f n l)
    go (no l) ih = count_none n (omega arith) ∙ sym (count-stop (suc f) n (omega arith))

-- the count by bits is the count by halves
pub same-counts : SameCounts
unfolding halved_count
same-counts n = count-from n n (le_refl n)

pub power-count-le : (n : ℕ) → power_count n ≤ n
power-count-le = bin_ind (λ (n : ℕ). power_count n ≤ n) (omega (arith, power-count-zero)) (λ n ih. go n ih (dec_lt 1 n))
  where
    go : (n : ℕ) → power_count (n / 2) ≤ n / 2 → Dec (1 < n) → power_count n ≤ n
    go n ih (yes l) = omega (arith, power_count_lem n l, ih)
    go n ih (no l) = omega (arith, count_none n (omega arith))
