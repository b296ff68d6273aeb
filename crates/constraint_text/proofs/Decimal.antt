-- The digits that std writes are the number in decimal.
use Rattle.std.proofs.Common.{◌≡◌, ℕ, suc, ℤ, pos, negsuc, ◌+◌, ◌/◌, ◌%◌, ◌≤◌, ◌<◌, ◌^◌, [], ◌∷◌, ◌++◌, sym, ap, arith}
use Rattle.std.specs.Fmt.{decimal as digits, signed_decimal}
use Rattle.std.proofs.lemmas.Fmt.{AppendsLastDigit, decimal_from_appends, length-decimal-le_succ}
use lib.Signed.{mag}
use borrow.Author.Tests.{lt-ltb, le-ltb}
use Rattle.constraint_text.specs.Text.{decimal_from, decimal, number_text}

-- one turn: a number of one digit, and one of more
last : (f n : ℕ) → n < 10 → decimal_from (suc f) n ≡ (48 + n) ∷ []
unfolding decimal_from
last f n h = rw (lt-ltb n 10 h, decimal_from)

more : (f n : ℕ) → 10 ≤ n → decimal_from (suc f) n ≡ decimal_from f (n / 10) ++ ((48 + n % 10) ∷ [])
unfolding decimal_from
more f n h = rw (le-ltb n 10 h, decimal_from)

by-turns : AppendsLastDigit decimal_from
by-turns = record { one = last; more = more }

pub decimal-digits : (n : ℕ) → n < 2 ^ 64 → digits n ≡ decimal n
unfolding decimal
decimal-digits n h = sym (decimal_from_appends decimal_from by-turns (suc n) n h (omega (arith, length-decimal-le_succ n h)))

pub signed-digits : (z : ℤ) → mag z < 2 ^ 63 → signed_decimal z ≡ number_text z
unfolding number_text
signed-digits (pos n) h = decimal-digits n (omega (arith, h))
signed-digits (negsuc n) h = let s : suc n ≡ n + 1 = omega arith in rw s (ap (λ ds. 45 ∷ ds) (decimal-digits (n + 1) (omega (arith, h))))
