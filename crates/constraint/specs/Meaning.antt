-- What a constraint list means: the value of a term, when an equality holds, and what a solution is.
use Rattle.std.specs.Prelude.{◌≡◌, ℕ, ℤ, Some}
use Rattle.field.specs.Prime.{P}
use Rattle.field.specs.Element.{elem}
use Rattle.field.specs.Operations.{opposite, infix_of, Answer}
use Rattle.flat.specs.Rules.{All}
use Rattle.flat.specs.Meaning.{Assignment, Elements}
use Rattle.constraint.specs.declared.Term.{Term}
use Rattle.constraint.specs.Trees.{Side, Equality, ConstraintModule}

-- every variable of a term, a right side, an equality
abbrev pub InTerm : (ℕ → Type 0) → Term → Type 0
InTerm Q (Term.Variable v) = Q v
InTerm Q (Term.Constant c) = Unit {0}

abbrev pub InSide : (ℕ → Type 0) → Side → Type 0
InSide Q (Side.infixed o a b) = InTerm Q a × InTerm Q b
InSide Q (Side.negate a) = InTerm Q a
InSide Q (Side.copy a) = InTerm Q a

abbrev pub InEquality : (ℕ → Type 0) → Equality → Type 0
InEquality Q q = InTerm Q q.left × InSide Q q.right

-- "0 and an id, or 1 and a number, which stands for its element"
abbrev pub term_value : Assignment → Term → ℤ
term_value σ (Term.Variable v) = σ v
term_value σ (Term.Constant c) = elem P c

unfoldable pub side_value : Assignment → Side → Answer
side_value σ (Side.infixed o a b) = infix_of P o (term_value σ a) (term_value σ b)
side_value σ (Side.negate a) = Some (opposite P (term_value σ a))
side_value σ (Side.copy a) = Some (term_value σ a)

-- "an equality [holds], when its operation on the right terms has a value and the left term equals it"
abbrev pub EqualityHolds : Assignment → Equality → Type 0
EqualityHolds σ q = side_value σ q.right ≡ Some (term_value σ q.left)

-- σ gives the inputs ρ's values and fulfils every equality
pub record Solution (I : ℕ → Type 0) (c : ConstraintModule) (ρ σ : Assignment) : Type 0 where
  pub elements : Elements σ
  pub inputs : (v : ℕ) → I v → σ v ≡ ρ v
  pub fulfils : All (EqualityHolds σ) c.equalities
