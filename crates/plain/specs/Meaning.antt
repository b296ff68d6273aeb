-- What a plain module says, "worked out from the top": a table of names, the values of expressions, when every operation has one, when the equations hold.
use Rattle.std.specs.Prelude.{◌≡◌, List, [], ◌∷◌, ℕ, ℤ, Some, None}
use Rattle.field.specs.Operations.{Answer, HasValue}
use Rattle.field.specs.Prime.{P}
use Rattle.field.specs.Element.{elem}
use Rattle.source.specs.Trees.{Pat, Expr, unit, nil, sequence, product, cons, binary, negate, application}
use Rattle.source.specs.Trees.{constant, variable, function, intrinsic, letting, matching, Module}
use Rattle.source.specs.Forms.{on_infix, on_variable_p}
use Rattle.flat.specs.Rules.{All}
use Rattle.flat.specs.Meaning.{update, on_values, negated}

-- an entry, as a value, is None where an operation had no value
abbrev pub Table : Type 0
Table = ℕ → Answer

-- "then written for its name over any older one"
unfoldable pub write : Pat → Answer → Table → Table
unfolding on_variable_p
write p v t = on_variable_p p (λ x. update t x v) t

-- what follows a value; nothing follows nothing
unfoldable pub through : Answer → (ℤ → Answer) → Answer
through None f = None
through (Some z) f = f z

-- "A constant is its element, a variable what the table says; negation and infix are the field's, on their sides' values. A let writes its
-- value for its body only". No other expression stands in a plain module
unfoldable pub value_of : Table → Expr → Answer
value_of t (constant n) = Some (elem P n)
value_of t (variable x) = t x
value_of t (negate a) = negated (value_of t a)
value_of t (binary o a b) = on_values o (value_of t a) (value_of t b)
value_of t (letting p v b) = through (value_of t v) (λ z. value_of (write p (Some z) t) b)
value_of t unit = None
value_of t nil = None
value_of t (sequence is) = None
value_of t (product a b) = None
value_of t (cons a b) = None
value_of t (application a b) = None
value_of t (function ps b env) = None
value_of t (intrinsic w k ps env) = None
value_of t (matching v arms) = None

-- "Each definition in order has its value read, then written"
unfoldable pub defined : Table → List (Pat × Expr) → Table
defined t [] = t
defined t (d ∷ ds) = defined (write d.0 (value_of t d.1) t) ds

-- "then the equations are read": the values of both sides of each
unfoldable pub sides_of : Table → Expr → Answer × Answer
unfolding on_infix
sides_of t e = on_infix e (λ o a b. (value_of t a, value_of t b)) (None, None)

unfoldable pub sides : Table → List Expr → List (Answer × Answer)
sides t [] = []
sides t (e ∷ es) = sides_of t e ∷ sides t es

-- "An equation holds when its sides' values are equal"
abbrev pub Equal-sides : Answer × Answer → Type 0
Equal-sides s = (z : ℤ) × (s.0 ≡ Some z) × (s.1 ≡ Some z)

-- "a table of names starts with the inputs' elements": ρ gives each name one. What ρ says of other names is never read (`InputsAlone`,
-- specs/Statements.antt)
abbrev pub start : (ℕ → ℤ) → Table
start ρ = λ x. Some (ρ x)

abbrev pub Holds : Module → (ℕ → ℤ) → Type 0
Holds m ρ = All Equal-sides (sides (defined (start ρ) m.definitions) m.expressions)

-- "Divisors .. anywhere in the module, used or not": every operation has a value on its sides' values. Which these are, in the rules' words:
-- `DivisorNotZero` of crate field, by `has-value-where`
abbrev pub NotZeroIn : Table → Expr → Type 0
NotZeroIn t (binary o a b) = NotZeroIn t a × NotZeroIn t b × HasValue (on_values o (value_of t a) (value_of t b))
NotZeroIn t (negate a) = NotZeroIn t a
NotZeroIn t (letting p v b) = NotZeroIn t v × NotZeroIn (write p (value_of t v) t) b
NotZeroIn t (constant n) = Unit {0}
NotZeroIn t (variable x) = Unit {0}
NotZeroIn t unit = Unit {0}
NotZeroIn t nil = Unit {0}
NotZeroIn t (sequence is) = Unit {0}
NotZeroIn t (product a b) = Unit {0}
NotZeroIn t (cons a b) = Unit {0}
NotZeroIn t (application a b) = Unit {0}
NotZeroIn t (function ps b env) = Unit {0}
NotZeroIn t (intrinsic w k ps env) = Unit {0}
NotZeroIn t (matching v arms) = Unit {0}

abbrev pub NotZeroInDefinitions : Table → List (Pat × Expr) → Type 0
NotZeroInDefinitions t [] = Unit {0}
NotZeroInDefinitions t (d ∷ ds) = NotZeroIn t d.1 × NotZeroInDefinitions (write d.0 (value_of t d.1) t) ds

-- the same of both sides of an equation, whose `=` is no operation with a value
unfoldable pub NotZeroInEquation : Table → Expr → Type 0
unfolding on_infix
NotZeroInEquation t e = on_infix e (λ o a b. NotZeroIn t a × NotZeroIn t b) (Unit {0})

abbrev pub NoDivisorZero : Module → (ℕ → ℤ) → Type 0
NoDivisorZero m ρ = NotZeroInDefinitions (start ρ) m.definitions × All (NotZeroInEquation (defined (start ρ) m.definitions)) m.expressions

-- what this condition is for: every definition in its turn, and both sides of every equation, have a value, so that no operation in them has none
abbrev pub DefinitionsValued : Table → List (Pat × Expr) → Type 0
DefinitionsValued t [] = Unit {0}
DefinitionsValued t (d ∷ ds) = HasValue (value_of t d.1) × DefinitionsValued (write d.0 (value_of t d.1) t) ds

abbrev pub EquationsValued : Table → List Expr → Type 0
EquationsValued t [] = Unit {0}
EquationsValued t (e ∷ es) = HasValue (sides_of t e).0 × HasValue (sides_of t e).1 × EquationsValued t es

abbrev pub AllValued : Module → (ℕ → ℤ) → Type 0
AllValued m ρ = DefinitionsValued (start ρ) m.definitions × EquationsValued (defined (start ρ) m.definitions) m.expressions
