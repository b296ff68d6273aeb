-- What an argument says to lend, and how much of an answer is given out.
use Rattle.std.specs.Prelude.{cond, List, [], ◌∷◌, ℕ, ◌+◌, ◌-◌, ◌*◌, ◌≤◌, leb, ltb, length, take, Option, Some, None, Result, Ok, Err}

-- more than can matter to lend
abbrev pub MANY : ℕ
MANY = 100000000

-- the digits, in bytes
abbrev pub DIGIT-0 : ℕ
DIGIT-0 = 48

abbrev pub DIGIT-9 : ℕ
DIGIT-9 = 57

-- n, and `most` where it is more
unfoldable pub at_most : ℕ → ℕ → ℕ
at_most n most = cond (ltb most n) most n

-- a number in decimal, behind digits that are worth so much, and MANY where it is larger
unfoldable pub number_from : ℕ → List ℕ → Option ℕ
number_from value [] = Some value
number_from value (d ∷ ds) = cond (ltb d DIGIT-0) None (cond (ltb DIGIT-9 d) None (number_from (at_most (value * 10 + (d - DIGIT-0)) MANY) ds))

-- no digit is no number
unfoldable pub number_of : List ℕ → Option ℕ
number_of [] = None
number_of (d ∷ ds) = number_from 0 (d ∷ ds)

-- what the arguments are no contract can say, but that no number is larger
abbrev pub Few : Option ℕ → Type 0
Few (Some n) = n ≤ MANY
Few None = Unit {0}

-- the bytes of an answer that go to standard output, which has so many
unfoldable pub given_of : Result ℕ ℕ → ℕ → ℕ
given_of (Ok n) len = cond (leb n len) n 0
given_of (Err number) len = 0

-- and these bytes
unfoldable pub bytes_of : Result ℕ ℕ → List ℕ → List ℕ
bytes_of (Ok n) out = cond (leb n (length out)) (take n out) []
bytes_of (Err number) out = []
