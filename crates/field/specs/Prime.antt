-- Prime numbers, and the field's prime. That it is one: `P-prime` in proofs/Primality.antt.
use Rattle.std.specs.Prelude.{◌≢◌, ℕ, ◌%◌, ◌<◌}

-- p is prime: above 1, and no number between 1 and p divides it
pub record Prime (p : ℕ) : Type 0 where
  pub above : 1 < p
  pub only : (d : ℕ) → 1 < d → d < p → p % d ≢ 0

abbrev pub P : ℕ
P = 2147483647
