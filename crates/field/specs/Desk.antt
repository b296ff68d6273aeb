-- The laws that the desk may use, for any prime p. The desk calls `infix`, `negate` and `canonical`: by their contracts (src/lib.rt)
-- these are `infix_of P`, `opposite P` and `elem P` of every i64, so what it may use is `DeskLaws P`. Proved: `desk-laws`, `desk-laws-P`, proofs/Desk.antt.
-- `\` and `%` are not included, and no law here speaks of `^` or `=`.
use Rattle.std.specs.Prelude.{◌≡◌, ℕ, ℤ, pos, ◌+ℤ◌, ◌*ℤ◌, Some, None}
use Rattle.std.specs.Int.{w64}
use Rattle.std.proofs.Common.{SFits}
use Rattle.field.specs.declared.InfixOp.{InfixOp}
use Rattle.field.specs.declared.InfixOp.TheVariants.{Divide, DivideZ, Multiply, Add, Subtract}
use Rattle.field.specs.Element.{elem}
use Rattle.field.specs.Operations.{opposite, infix_of, Answer}

-- a signed 64-bit number: from -2 ^ 63 to 2 ^ 63 - 1
abbrev pub I64 : ℤ → Type 0
I64 z = SFits w64 z

module _ (p : ℕ) where
  -- an operation on two answers: on their values, and nothing where one has none. Of two numbers, `Some a` and `Some b`, it is `infix_of p op a b`
  abbrev pub chained : InfixOp → Answer → Answer → Answer
  chained op (Some a) (Some b) = infix_of p op a b
  chained op (Some a) None = None
  chained op None y = None

  infixl 60 ◌⊕◌
  infixl 60 ◌⊖◌
  infixl 70 ◌⊗◌
  infixl 70 ◌⊘◌
  infixl 70 ◌⦸◌
  -- x + y, x - y, x * y, x / y and x | y
  abbrev pub ◌⊕◌ : Answer → Answer → Answer
  x ⊕ y = chained Add x y

  abbrev pub ◌⊖◌ : Answer → Answer → Answer
  x ⊖ y = chained Subtract x y

  abbrev pub ◌⊗◌ : Answer → Answer → Answer
  x ⊗ y = chained Multiply x y

  abbrev pub ◌⊘◌ : Answer → Answer → Answer
  x ⊘ y = chained Divide x y

  abbrev pub ◌⦸◌ : Answer → Answer → Answer
  x ⦸ y = chained DivideZ x y

  -- a number that is an element; a number that stands for another element than 0
  abbrev pub Element : ℤ → Type 0
  Element a = elem p a ≡ a

  abbrev pub NonZero : ℤ → Type 0
  NonZero b = elem p b ≡ pos 0 → ⊥

  -- x, y and z are what operations answered, or numbers; a and b are numbers: any integers, each of which stands for its element
  pub record DeskLaws : Type 0 where
    -- "sums and products commute"
    pub sums-commute : (x y : Answer) → x ⊕ y ≡ y ⊕ x
    pub products-commute : (x y : Answer) → x ⊗ y ≡ y ⊗ x
    -- "and regroup"
    pub sums-regroup : (x y z : Answer) → (x ⊕ y) ⊕ z ≡ x ⊕ (y ⊕ z)
    pub products-regroup : (x y z : Answer) → (x ⊗ y) ⊗ z ≡ x ⊗ (y ⊗ z)
    -- "products distribute over sums", on either side
    pub products-distribute : (x y z : Answer) → x ⊗ (y ⊕ z) ≡ (x ⊗ y) ⊕ (x ⊗ z)
    pub products-distribute-right : (x y z : Answer) → (x ⊕ y) ⊗ z ≡ (x ⊗ z) ⊕ (y ⊗ z)
    -- "each element has its opposite": an element, whose sum with it is 0, as no other's is
    pub opposite-element : (a : ℤ) → Element (opposite p a)
    pub opposite-sum : (a : ℤ) → Some a ⊕ Some (opposite p a) ≡ Some (pos 0)
    pub opposite-only : (a b : ℤ) → Some a ⊕ Some b ≡ Some (pos 0) → elem p b ≡ opposite p a
    -- so a difference is a sum, and regroups as one
    pub difference-sum : (a b : ℤ) → Some a ⊖ Some b ≡ Some a ⊕ Some (opposite p b)
    -- "dividing a product by its non-zero factor gives the other back": the second factor or the first, by `/` and by `|`
    pub divide-by-second : (a b : ℤ) → NonZero b → (Some a ⊗ Some b) ⊘ Some b ≡ Some (elem p a)
    pub divide-by-first : (a b : ℤ) → NonZero a → (Some a ⊗ Some b) ⊘ Some a ≡ Some (elem p b)
    pub divide-z-by-second : (a b : ℤ) → NonZero b → (Some a ⊗ Some b) ⦸ Some b ≡ Some (elem p a)
    pub divide-z-by-first : (a b : ℤ) → NonZero a → (Some a ⊗ Some b) ⦸ Some a ≡ Some (elem p b)
    -- the other is given back as it is where it is an element
    pub divide-element : (a b : ℤ) → Element a → NonZero b → (Some a ⊗ Some b) ⊘ Some b ≡ Some a
    pub divide-z-element : (a b : ℤ) → Element a → NonZero b → (Some a ⊗ Some b) ⦸ Some b ≡ Some a
    -- "non-zero" cannot be left out: at divisor 0, `/` has no value, and `|` has one for a dividend of 0 alone, which is 0
    pub divide-by-zero : (a b : ℤ) → elem p b ≡ pos 0 → Some a ⊘ Some b ≡ None
    pub divide-z-by-zero : (a b : ℤ) → elem p b ≡ pos 0 → NonZero a → Some a ⦸ Some b ≡ None
    pub divide-z-zeros : (a b : ℤ) → elem p b ≡ pos 0 → elem p a ≡ pos 0 → Some a ⦸ Some b ≡ Some (pos 0)
    -- "`canonical` of a sum or product that is itself a signed 64-bit number is the operation on the two `canonical` values".
    -- It is so of all integers; `canonical` takes signed 64-bit numbers, hence the conditions
    pub canonical-sum : (x y : ℤ) → I64 x → I64 y → I64 (x +ℤ y) → Some (elem p (x +ℤ y)) ≡ Some (elem p x) ⊕ Some (elem p y)
    pub canonical-product : (x y : ℤ) → I64 x → I64 y → I64 (x *ℤ y) → Some (elem p (x *ℤ y)) ≡ Some (elem p x) ⊗ Some (elem p y)
