-- The numbers of the operators: 0 to 8, in the order of `InfixOp`. That a number so read is the operator's own: `operator-reads`, proofs/Numbered.antt.
use Rattle.std.specs.Prelude.{◌≡◌, ◌<◌, ℕ, cond, eqb, Result, MatchResult}
use Rattle.field.specs.declared.InfixOp.{InfixOp}
use Rattle.field.specs.declared.operators.NoOperator.{NoOperator}

abbrev pub DIVIDE : ℕ
DIVIDE = 0

abbrev pub DIVIDE-Z : ℕ
DIVIDE-Z = 1

abbrev pub MULTIPLY : ℕ
MULTIPLY = 2

abbrev pub ADD : ℕ
ADD = 3

abbrev pub SUBTRACT : ℕ
SUBTRACT = 4

abbrev pub EQUAL : ℕ
EQUAL = 5

abbrev pub EXPONENTIATE : ℕ
EXPONENTIATE = 6

abbrev pub INT-DIVIDE : ℕ
INT-DIVIDE = 7

abbrev pub MODULO : ℕ
MODULO = 8

-- the number of an operator
abbrev pub operator_number : InfixOp → ℕ
operator_number InfixOp.Divide = DIVIDE
operator_number InfixOp.DivideZ = DIVIDE-Z
operator_number InfixOp.Multiply = MULTIPLY
operator_number InfixOp.Add = ADD
operator_number InfixOp.Subtract = SUBTRACT
operator_number InfixOp.Equal = EQUAL
operator_number InfixOp.Exponentiate = EXPONENTIATE
operator_number InfixOp.IntDivide = INT-DIVIDE
operator_number InfixOp.Modulo = MODULO

-- the operator with a number, which reads as `Modulo` from 8 on
unfoldable pub operator_of : ℕ → InfixOp
operator_of n =
    cond (eqb n DIVIDE) InfixOp.Divide
    (cond (eqb n DIVIDE-Z) InfixOp.DivideZ
    (cond (eqb n MULTIPLY) InfixOp.Multiply
    (cond (eqb n ADD) InfixOp.Add
    (cond (eqb n SUBTRACT) InfixOp.Subtract
    (cond (eqb n EQUAL) InfixOp.Equal
    (cond (eqb n EXPONENTIATE) InfixOp.Exponentiate
    (cond (eqb n INT-DIVIDE) InfixOp.IntDivide InfixOp.Modulo)))))))

-- the result is the operator with this number, or an error with a number that no operator has
abbrev pub Numbers : ℕ → Result InfixOp NoOperator → Type 0
Numbers n r = MatchResult r (λ op. operator_number op ≡ n) (λ e. (e.0 ≡ n) × (MODULO < n))
