-- What a flat list means: assignments of elements to ids, the value of an expression, and when a definition or an equation holds.
use Rattle.std.specs.Prelude.{◌≡◌, List, [], ◌∷◌, cond, ℕ, eqb, ℤ, pos, Some, None}
use Rattle.field.specs.declared.InfixOp.{InfixOp}
use Rattle.field.specs.Prime.{P}
use Rattle.field.specs.Element.{elem}
use Rattle.field.specs.Operations.{opposite, infix_of, Answer, HasValue}
use Rattle.flat.specs.Trees.{Flat, Definition, Equation}

-- a map from ids, changed at one of them
unfoldable pub update {ℓ} : {A : Type ℓ} → (ℕ → A) → ℕ → A → ℕ → A
update f v a w = cond (eqb w v) a (f w)

-- the values of variables, and that all are elements
abbrev pub Assignment : Type 0
Assignment = ℕ → ℤ

abbrev pub Elements : Assignment → Type 0
Elements σ = (v : ℕ) → elem P (σ v) ≡ σ v

-- an operation on sides that may have no value
unfoldable pub on_values : InfixOp → Answer → Answer → Answer
on_values o (Some a) (Some b) = infix_of P o a b
on_values o (Some a) None = None
on_values o None b = None

unfoldable pub negated : Answer → Answer
negated (Some a) = Some (opposite P a)
negated None = None

-- "a constant is its element, a variable what the table says; negation and infix are the field's, on their sides' values"
unfoldable pub value : Assignment → Flat → Answer
value σ (Flat.infixed o a b) = on_values o (value σ a) (value σ b)
value σ (Flat.negate a) = negated (value σ a)
value σ (Flat.constant c) = Some (elem P c)
value σ (Flat.variable v) = Some (σ v)

-- a definition holds when its right side has a value and its variable is that
abbrev pub DefinitionHolds : Assignment → Definition → Type 0
DefinitionHolds σ d = value σ d.right ≡ Some (σ d.id)

-- "an equation holds when its sides' values are equal"
abbrev pub EquationHolds : Assignment → Equation → Type 0
EquationHolds σ e = (z : ℤ) × (value σ e.left ≡ Some z) × (value σ e.right ≡ Some z)

-- inputs "that make no divisor zero": every operation of an expression has a value on its sides' values. Which these are, in the rules' words:
-- `DivisorNotZero` of crate field, by `has-value-where`
abbrev pub NoZeroDivisor : Assignment → Flat → Type 0
NoZeroDivisor σ (Flat.infixed o a b) = NoZeroDivisor σ a × NoZeroDivisor σ b × HasValue (on_values o (value σ a) (value σ b))
NoZeroDivisor σ (Flat.negate a) = NoZeroDivisor σ a
NoZeroDivisor σ (Flat.constant c) = Unit {0}
NoZeroDivisor σ (Flat.variable v) = Unit {0}

-- 0 where there is no value
unfoldable pub or_zero : Answer → ℤ
or_zero (Some z) = z
or_zero None = pos 0

-- "each definition in order has its value read, then written for its name"
unfoldable pub worked_out : List Definition → Assignment → Assignment
worked_out [] ρ = ρ
worked_out (d ∷ ds) ρ = worked_out ds (update ρ d.id (or_zero (value ρ d.right)))

-- the same of each definition when its turn comes
abbrev pub NoZeroInTurn : List Definition → Assignment → Type 0
NoZeroInTurn [] ρ = Unit {0}
NoZeroInTurn (d ∷ ds) ρ = NoZeroDivisor ρ d.right × NoZeroInTurn ds (update ρ d.id (or_zero (value ρ d.right)))
