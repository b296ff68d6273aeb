-- How many definitions a power leaves. That evaluation leaves so many: eval_trees/specs/Powers.antt.
-- What pins the bits: `highest-bit` (n lies between 2 ^ highest_bit n and twice it), `ones-counted` (the language's own count), proofs/Counting.antt.
use Rattle.std.specs.Prelude.{◌≡◌, true, false, List, [], ◌∷◌, ℕ, zero, suc, ◌+◌, ◌-◌, ◌/◌, ◌%◌, leb, length}

-- the bits of n, the lowest first, up to its highest one bit; 0 has none. The first number is the halvings left, and n of them suffice
unfoldable pub bits_from : ℕ → ℕ → List ℕ
bits_from zero n = []
bits_from (suc f) zero = []
bits_from (suc f) (suc n) = suc n % 2 ∷ bits_from f (suc n / 2)

unfoldable pub bits : ℕ → List ℕ
bits n = bits_from n n

-- "the position of its highest one bit, counted from 0"
unfoldable pub highest_bit : ℕ → ℕ
highest_bit n = length (bits n) - 1

-- "the number of its one bits"
unfoldable pub total : List ℕ → ℕ
total [] = 0
total (b ∷ bs) = b + total bs

unfoldable pub ones_of : ℕ → ℕ
ones_of n = total (bits n)

-- the one "plus" the other, "less 1". 0 leaves none: its power is the constant 1, and here 0 - 1 is 0
unfoldable pub power_count : ℕ → ℕ
power_count n = highest_bit n + ones_of n - 1

-- the same by halving the exponent: none at the powers 0 and 1; else those of the halved exponent, one for the square, and one more for the factor at an odd
-- exponent. The first number is the halvings left, and n of them suffice
unfoldable pub count_from : ℕ → ℕ → ℕ
count_from zero n = 0
count_from (suc f) n = elim (leb n 1) [ true ↦ 0 | false ↦ count_from f (n / 2) + 1 + n % 2 ]

unfoldable pub halved_count : ℕ → ℕ
halved_count n = count_from n n

-- "Answers do not change for any exponent". Proved: `same-counts`, proofs/Counting.antt
abbrev pub SameCounts : Type 0
SameCounts = (n : ℕ) → power_count n ≡ halved_count n
