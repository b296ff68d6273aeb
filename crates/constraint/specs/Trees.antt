-- The constraint list, as trees.
use Rattle.std.specs.Prelude.{List, ℕ}
use Rattle.field.specs.declared.InfixOp.{InfixOp}
use Rattle.flat.specs.Trees.{Definition}
use Rattle.constraint.specs.declared.Equality.{Equality as Written}
use Rattle.constraint.specs.declared.Operation.{Operation}
use Rattle.constraint.specs.declared.Term.{Term}

-- the right side of an equality: an operation on two terms, a negated term, or a term
pub data Side : Type 0 where
  infixed : InfixOp → Term → Term → Side
  negate : Term → Side
  copy : Term → Side

-- `place`: that of the definition or the equation which it was cut from
pub record Equality : Type 0 where
  pub left : Term
  pub right : Side
  pub place : ℕ

-- "kept definitions are those of prover variables only, uncut"
pub record ConstraintModule : Type 0 where
  pub next : ℕ
  pub publics : List ℕ
  pub provers : List ℕ
  pub equalities : List Equality
  pub kept : List Definition

-- an equality with another place
unfoldable pub at_place : ℕ → Equality → Equality
at_place p q = record { left = q.left; right = q.right; place = p }

-- the equality struct of src/lib.rt, which has no place: "an absent term is 0, 0", the words of variable 0
unfoldable pub operation : Side → Operation
operation (Side.infixed o a b) = Operation.Infix o
operation (Side.negate a) = Operation.Negate
operation (Side.copy a) = Operation.Copy

unfoldable pub first : Side → Term
first (Side.infixed o a b) = a
first (Side.negate a) = a
first (Side.copy a) = a

unfoldable pub second : Side → Term
second (Side.infixed o a b) = b
second (Side.negate a) = Term.Variable 0
second (Side.copy a) = Term.Variable 0

unfoldable pub written_of : Term → Side → Written
written_of left right = record { left = left; operation = operation right; first = first right; second = second right }

abbrev pub written : Equality → Written
written q = written_of q.left q.right
