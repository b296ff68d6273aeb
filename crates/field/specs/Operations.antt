-- The operations, for any p: what the contracts cite. An operand is any integer and stands for its element.
-- The laws are in proofs/Laws.antt (for any prime). What pins the rounded quotient is stated in specs/Rounded.antt and proved in proofs/Rounding.antt.
use Rattle.std.specs.Prelude.{◌≡◌, ◌↔◌, Option, Some, None, Bool, true, false, ℕ, suc, ◌+◌, ◌*◌, ◌^◌, ◌/◌, ◌%◌, eqb}
use Rattle.std.specs.Prelude.{ℤ, pos, negsuc, neg_ℤ, nat_abs, ◌+ℤ◌, ◌-ℤ◌, ◌*ℤ◌}
use Rattle.field.specs.declared.InfixOp.{InfixOp}
use Rattle.field.specs.declared.InfixOp.TheVariants.{Divide, DivideZ, Multiply, Add, Subtract, Equal, Exponentiate, IntDivide, Modulo}
use Rattle.field.specs.Element.{res, centre, elem, inv}

-- what an operation answers: an element, or None where it has no value
abbrev pub Answer : Type 0
Answer = Option ℤ

abbrev pub pick : Bool → Answer → Answer → Answer
pick true a b = a
pick false a b = b

-- the sum, the difference, the product and the opposite: the elements of the integers'
unfoldable pub sum : ℕ → ℤ → ℤ → ℤ
sum p a b = elem p (a +ℤ b)

unfoldable pub difference : ℕ → ℤ → ℤ → ℤ
difference p a b = elem p (a -ℤ b)

unfoldable pub product : ℕ → ℤ → ℤ → ℤ
product p a b = elem p (a *ℤ b)

unfoldable pub opposite : ℕ → ℤ → ℤ
opposite p a = elem p (neg_ℤ a)

-- the inverse of b, and a over b: the product with it
unfoldable pub inverse : ℕ → ℤ → ℤ
inverse p b = centre p (inv p (res p b))

unfoldable pub quotient : ℕ → ℤ → ℤ → ℤ
quotient p a b = product p a (inverse p b)

-- the power of a with a natural exponent
unfoldable pub power : ℕ → ℤ → ℕ → ℤ
power p a n = centre p (res p a ^ n % p)

-- rounded to the nearest whole number, halves away from zero, of two magnitudes: m over d and a half more, rounded down
unfoldable pub nearest : ℕ → ℕ → ℕ
nearest m d = (2 * m + d) / (2 * d)

-- z, or its opposite where x is negative
unfoldable pub signed_by : ℤ → ℤ → ℤ
signed_by (pos n) z = z
signed_by (negsuc n) z = neg_ℤ z

-- the quotient of two numbers so rounded: its magnitude goes by their magnitudes, its sign by both signs
unfoldable pub whole_quotient : ℤ → ℤ → ℤ
whole_quotient x y = signed_by x (signed_by y (pos (nearest (nat_abs x) (nat_abs y))))

-- where there is an inverse, and a quotient so rounded: none at 0
unfoldable pub checked_inverse : ℕ → ℕ → Option ℕ
checked_inverse p b = elim (eqb b 0) [ true ↦ None | false ↦ Some (inv p b) ]

unfoldable pub checked_quotient : ℤ → ℤ → Option ℤ
checked_quotient x y = pick (eqb (nat_abs y) 0) None (Some (whole_quotient x y))

-- the inverse has no value at 0
unfoldable pub inverse_of : ℕ → ℤ → Answer
inverse_of p b = pick (eqb (res p b) 0) None (Some (inverse p b))

-- "Divide: multiply by the inverse; no value at divisor 0"
unfoldable pub divide_of : ℕ → ℤ → ℤ → Answer
divide_of p a b = pick (eqb (res p b) 0) None (Some (quotient p a b))

-- DivideZ: the same, but "0 | 0 is 0"
unfoldable pub divide_z_of : ℕ → ℤ → ℤ → Answer
divide_z_of p a b = pick (eqb (res p b) 0) (pick (eqb (res p a) 0) (Some (pos 0)) None) (Some (quotient p a b))

-- IntDivide: of the elements. "No value at divisor 0"
unfoldable pub int_divide_of : ℕ → ℤ → ℤ → Answer
int_divide_of p a b = pick (eqb (res p b) 0) None (Some (elem p (whole_quotient (elem p a) (elem p b))))

-- "Modulo: dividend minus divisor times quotient"
unfoldable pub modulo_of : ℕ → ℤ → ℤ → Answer
modulo_of p a b = pick (eqb (res p b) 0) None (Some (difference p (elem p a) (product p (elem p b) (whole_quotient (elem p a) (elem p b)))))

-- a raised to a number: "power 0 gives 1, also for 0; a negative power is the inverse of the positive one, without value for 0"
unfoldable pub raised : ℕ → ℤ → ℤ → Answer
raised p a (pos n) = Some (power p a n)
raised p a (negsuc n) = pick (eqb (res p a) 0) None (Some (inverse p (power p a (suc n))))

-- Exponentiate: the exponent too is an element
unfoldable pub exponentiate_of : ℕ → ℤ → ℤ → Answer
exponentiate_of p a b = raised p a (elem p b)

-- what each operation answers; Equal makes an equation and has no value
unfoldable pub infix_of : ℕ → InfixOp → ℤ → ℤ → Answer
infix_of p Divide a b = divide_of p a b
infix_of p DivideZ a b = divide_z_of p a b
infix_of p Multiply a b = Some (product p a b)
infix_of p Add a b = Some (sum p a b)
infix_of p Subtract a b = Some (difference p a b)
infix_of p Equal a b = None
infix_of p Exponentiate a b = exponentiate_of p a b
infix_of p IntDivide a b = int_divide_of p a b
infix_of p Modulo a b = modulo_of p a b

-- an answer that is a value
abbrev pub HasValue : Answer → Type 0
HasValue r = (z : ℤ) × (r ≡ Some z)

-- when an operation has one, in the rules' words. "Divisors are the right sides of `/`, `\`, `%`"; `|` asks that only of a dividend other than 0;
-- "a negative power of 0 counts as a zero divisor"; `=` has none ever, and in a plain module it stands only where an equation is read
abbrev pub DivisorNotZero : ℕ → InfixOp → ℤ → ℤ → Type 0
DivisorNotZero p Divide a b = elem p b ≡ pos 0 → ⊥
DivisorNotZero p DivideZ a b = elem p b ≡ pos 0 → elem p a ≡ pos 0
DivisorNotZero p Multiply a b = Unit {0}
DivisorNotZero p Add a b = Unit {0}
DivisorNotZero p Subtract a b = Unit {0}
DivisorNotZero p Equal a b = ⊥
DivisorNotZero p Exponentiate a b = (n : ℕ) → elem p b ≡ negsuc n → elem p a ≡ pos 0 → ⊥
DivisorNotZero p IntDivide a b = elem p b ≡ pos 0 → ⊥
DivisorNotZero p Modulo a b = elem p b ≡ pos 0 → ⊥

-- EVERY OPERATION HAS A VALUE JUST WHERE THE RULES SAY SO, for any prime p: `has-value-where`, proofs/Values.antt
abbrev pub HasValueWhere : ℕ → Type 0
HasValueWhere p = (a b : ℤ) (o : InfixOp) → HasValue (infix_of p o a b) ↔ DivisorNotZero p o a b
