-- How many lines an answer has: those of the record that was written at the front of the output, or the refusal's one. And its text.
use Rattle.std.specs.Prelude.{ℕ, cond, List, [], ltb, length, take, Result, Ok, Err}
use Rattle.constraint_text.specs.Reading.{lines, lines_text}
use Rattle.constraint_text.specs.Text.{refused_text}

unfoldable pub lines_of : Result ℕ ℕ → List ℕ → ℕ
lines_of (Ok n) out = cond (ltb (length out) n) 0 (lines (take n out))
lines_of (Err number) out = 1

-- one line after the other
unfoldable pub printed_of : Result ℕ ℕ → List ℕ → List ℕ
printed_of (Ok n) out = cond (ltb (length out) n) [] (lines_text (take n out) 0 (lines (take n out)))
printed_of (Err number) out = refused_text number
