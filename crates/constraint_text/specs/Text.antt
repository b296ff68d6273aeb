-- The text of a constraint list, in ASCII. For a reader with docs/RECORDS.md, "Its text", beside it.
use Rattle.std.specs.Prelude.{true, false, List, [], ◌∷◌, ◌++◌, ℕ, zero, suc, ◌+◌, ◌/◌, ◌%◌, ltb, ℤ, pos, negsuc, set}
use Rattle.field.specs.Prime.{P}
use Rattle.field.specs.Element.{elem}
use Rattle.field.specs.declared.InfixOp.{InfixOp}
use Rattle.constraint.specs.declared.Term.{Term}
use Rattle.constraint.specs.declared.Operation.{Operation}
use Rattle.constraint.specs.declared.Equality.{Equality as Written}
use Rattle.constraint.specs.Trees.{Equality, ConstraintModule, written}

-- a number in decimal: its last digit behind those of a tenth of it. The first number is the turns left, and one more than the number suffices
unfoldable pub decimal_from : ℕ → ℕ → List ℕ
decimal_from zero n = []
decimal_from (suc f) n = elim (ltb n 10) [ true ↦ (48 + n) ∷ [] | false ↦ decimal_from f (n / 10) ++ ((48 + n % 10) ∷ []) ]

unfoldable pub decimal : ℕ → List ℕ
decimal n = decimal_from (suc n) n

unfoldable pub number_text : ℤ → List ℕ
number_text (pos n) = decimal n
number_text (negsuc n) = 45 ∷ decimal (n + 1)

-- "v and an id, or an element in decimal"
unfoldable pub term_text : Term → List ℕ
term_text (Term.Variable v) = 118 ∷ decimal v
term_text (Term.Constant c) = number_text (elem P c)

-- "signs in operator order / | * + - = ^ \ %"
unfoldable pub sign_of : InfixOp → ℕ
sign_of InfixOp.Divide = 47
sign_of InfixOp.DivideZ = 124
sign_of InfixOp.Multiply = 42
sign_of InfixOp.Add = 43
sign_of InfixOp.Subtract = 45
sign_of InfixOp.Equal = 61
sign_of InfixOp.Exponentiate = 94
sign_of InfixOp.IntDivide = 92
sign_of InfixOp.Modulo = 37

-- a sign between two blanks
unfoldable pub between : ℕ → List ℕ
between sign = 32 ∷ sign ∷ 32 ∷ []

-- "right side [...]; negation as a leading `-` on the term"
unfoldable pub side_text : Operation → Term → Term → List ℕ
side_text (Operation.Infix o) a b = term_text a ++ (between (sign_of o) ++ term_text b)
side_text Operation.Negate a b = 45 ∷ term_text a
side_text Operation.Copy a b = term_text a

-- "one equality a line: left term, `=`, right side"
unfoldable pub equality_text : Written → List ℕ
equality_text q = term_text q.left ++ (between 61 ++ (side_text q.operation q.first q.second ++ (10 ∷ [])))

-- a line of a word and a number
unfoldable pub line_text : List ℕ → ℕ → List ℕ
line_text word n = word ++ (decimal n ++ (10 ∷ []))

-- "next", "refused" and a blank, and the number
unfoldable pub next_text : ℕ → List ℕ
next_text n = line_text (110 ∷ 101 ∷ 120 ∷ 116 ∷ 32 ∷ []) n

unfoldable pub refused_text : ℕ → List ℕ
refused_text n = line_text (114 ∷ 101 ∷ 102 ∷ 117 ∷ 115 ∷ 101 ∷ 100 ∷ 32 ∷ []) n

-- "first line: next free id. Then one equality a line"
unfoldable pub equalities_text : List Equality → List ℕ
equalities_text [] = []
equalities_text (q ∷ qs) = equality_text (written q) ++ equalities_text qs

unfoldable pub listing : ConstraintModule → List ℕ
listing c = next_text c.next ++ equalities_text c.equalities

-- the bytes with a text from byte i on
unfoldable pub set_bytes : List ℕ → ℕ → List ℕ → List ℕ
set_bytes b i [] = b
set_bytes b i (x ∷ xs) = set_bytes (set b i x) (i + 1) xs
