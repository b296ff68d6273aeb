-- Rounded to the nearest whole number, halves away from zero: what that asks of a quotient. That `whole_quotient`
-- of Operations.antt is so rounded, and no other number is: `whole-rounded` and `rounded-only` of proofs/Rounding.antt.
use Rattle.std.specs.Prelude.{◌≡◌, ◌*◌, ◌≤◌, ◌<◌, ℤ, nat_abs, ◌-ℤ◌, ◌*ℤ◌}

-- q is the quotient of x and y so rounded
pub record Rounded (x y q : ℤ) : Type 0 where
  -- "to the nearest": y times q is at most half of y away from x
  pub near : 2 * nat_abs (x -ℤ y *ℤ q) ≤ nat_abs y
  -- "halves away from zero": where it is just half of y away, it is further from 0 than x
  pub away : 2 * nat_abs (x -ℤ y *ℤ q) ≡ nat_abs y → nat_abs x < nat_abs (y *ℤ q)
