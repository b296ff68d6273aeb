-- The operators' numbers, there and back. Assumes nothing.
use mathlib.Core.Path.{◌≡◌, refl, sym, ap, ◌∙◌}
use mathlib.Core.Bool.{false}
use Prim.Native.Nat.{ℕ, zero, suc, ◌<◌}
use native.Mathlib.Omega.{arith}
use lib.Dec.{eqb}
use borrow.Author.Tests.{ne_eqb}
use Rattle.std.specs.Prelude.{Result, Ok, Err}
use Rattle.std.specs.Result.{result_unwrap_or}
use Rattle.field.specs.declared.InfixOp.{InfixOp}
use Rattle.field.specs.declared.operators.NoOperator.{NoOperator}
use Rattle.field.specs.Operators.{operator_number, operator_of, Numbers}

pub operator-reads : (o : InfixOp) → operator_of (operator_number o) ≡ o
unfolding operator_of
operator-reads InfixOp.Divide = refl
operator-reads InfixOp.DivideZ = refl
operator-reads InfixOp.Multiply = refl
operator-reads InfixOp.Add = refl
operator-reads InfixOp.Subtract = refl
operator-reads InfixOp.Equal = refl
operator-reads InfixOp.Exponentiate = refl
operator-reads InfixOp.IntDivide = refl
operator-reads InfixOp.Modulo = refl

pub operator-below : (o : InfixOp) → operator_number o < 9
operator-below InfixOp.Divide = omega arith
operator-below InfixOp.DivideZ = omega arith
operator-below InfixOp.Multiply = omega arith
operator-below InfixOp.Add = omega arith
operator-below InfixOp.Subtract = omega arith
operator-below InfixOp.Equal = omega arith
operator-below InfixOp.Exponentiate = omega arith
operator-below InfixOp.IntDivide = omega arith
operator-below InfixOp.Modulo = omega arith

pub operator-back : (n : ℕ) → n < 9 → operator_number (operator_of n) ≡ n
unfolding operator_of
operator-back zero h = refl
operator-back (suc zero) h = refl
operator-back (suc (suc zero)) h = refl
operator-back (suc (suc (suc zero))) h = refl
operator-back (suc (suc (suc (suc zero)))) h = refl
operator-back (suc (suc (suc (suc (suc zero))))) h = refl
operator-back (suc (suc (suc (suc (suc (suc zero)))))) h = refl
operator-back (suc (suc (suc (suc (suc (suc (suc zero))))))) h = refl
operator-back (suc (suc (suc (suc (suc (suc (suc (suc zero)))))))) h = refl
operator-back (suc (suc (suc (suc (suc (suc (suc (suc (suc n))))))))) h = absurd (omega (arith, h))

-- a number of no operator
pub operator-above : (n : ℕ) → 8 < n → operator_of n ≡ InfixOp.Modulo
unfolding operator_of
operator-above n h =
    rw (
      no 0 (omega arith),
      no 1 (omega arith),
      no 2 (omega arith),
      no 3 (omega arith),
      no 4 (omega arith),
      no 5 (omega arith),
      no 6 (omega arith),
      no 7 (omega arith),
    )
  where
    no : (k : ℕ) → k < 8 → eqb n k ≡ false
    no k l = ne_eqb n k (λ e. omega (arith, h, l, e))

-- the operator that a number is read as
pub operator-is : (o : InfixOp) (n : ℕ) → operator_number o ≡ n → o ≡ operator_of n
operator-is o n e = sym (operator-reads o) ∙ ap operator_of e

pub operator-or_modulo : (n : ℕ) (r : Result InfixOp NoOperator) → Numbers n r → result_unwrap_or r InfixOp.Modulo ≡ operator_of n
operator-or_modulo n (Ok o) e = operator-is o n e
operator-or_modulo n (Err x) e = sym (operator-above n e.1)
