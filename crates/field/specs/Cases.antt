-- The proved cases that belong to the field: one table, and one fact about it.
use Rattle.std.specs.Prelude.{◌≡◌, refl, List, [], ◌∷◌, pos, negsuc, Some, None}
use Rattle.field.specs.declared.InfixOp.TheVariants.{Divide, DivideZ, Exponentiate, IntDivide, Modulo}
use Rattle.field.specs.Prime.{P}
use Rattle.field.specs.Element.{res, centre, elem, inv, inv_from}
use Rattle.field.specs.Operations.{difference, product, inverse, quotient, power, nearest, signed_by, whole_quotient, Answer}
use Rattle.field.specs.Operations.{divide_of, divide_z_of, int_divide_of, modulo_of, raised, exponentiate_of, infix_of}

-- a case: what is worked out, and its answer
pub record Case : Type 0 where
  pub worked : Answer
  pub answer : Answer

abbrev pub ◌gives◌ : Answer → Answer → Case
a gives b = record { worked = a; answer = b }

infix 70 ◌gives◌
-- `negsuc n` is -(n + 1). The nine cases that the rules name, 0 | 0 beside 5 | 0; more of \ and %, rounded to the nearest whole number;
-- | where the prime stands for 0; then the operations without value beside them, then the ends of 64 bits
abbrev pub cases : List Case
cases =
    Some (elem P (pos 1073741824)) gives Some (negsuc 1073741822)
    ∷ Some (elem P (negsuc 1073741823)) gives Some (pos 1073741823)
    ∷ infix_of P Divide (pos 1) (pos 2) gives Some (negsuc 1073741822)
    ∷ infix_of P IntDivide (pos 7) (pos 2) gives Some (pos 4)
    ∷ infix_of P IntDivide (negsuc 6) (pos 2) gives Some (negsuc 3)
    ∷ infix_of P Modulo (negsuc 6) (pos 2) gives Some (pos 1)
    ∷ infix_of P IntDivide (pos 7) (negsuc 1) gives Some (negsuc 3)
    ∷ infix_of P DivideZ (pos 5) (pos 0) gives None
    ∷ infix_of P DivideZ (pos 0) (pos 0) gives Some (pos 0)
    ∷ infix_of P Exponentiate (pos 0) (pos 0) gives Some (pos 1)
    ∷ infix_of P IntDivide (pos 5) (pos 3) gives Some (pos 2)
    ∷ infix_of P IntDivide (pos 4) (pos 3) gives Some (pos 1)
    ∷ infix_of P Modulo (pos 7) (pos 2) gives Some (negsuc 0)
    ∷ infix_of P IntDivide (pos 5) (pos 2) gives Some (pos 3)
    ∷ infix_of P IntDivide (negsuc 6) (negsuc 1) gives Some (pos 4)
    ∷ infix_of P Modulo (negsuc 6) (negsuc 1) gives Some (pos 1)
    ∷ infix_of P Modulo (pos 6) (pos 4) gives Some (negsuc 1)
    ∷ infix_of P DivideZ (pos 5) (pos 2147483647) gives None
    ∷ infix_of P DivideZ (pos 2147483647) (pos 0) gives Some (pos 0)
    ∷ infix_of P Divide (pos 1) (pos 0) gives None
    ∷ infix_of P IntDivide (pos 7) (pos 0) gives None
    ∷ infix_of P Modulo (pos 7) (pos 0) gives None
    ∷ infix_of P Exponentiate (pos 0) (negsuc 0) gives None
    ∷ Some (elem P (pos 9223372036854775807)) gives Some (pos 1)
    ∷ Some (elem P (negsuc 9223372036854775807)) gives Some (negsuc 1)
    ∷ []

abbrev pub worked-out : List Case → List Answer
worked-out [] = []
worked-out (c ∷ cs) = c.worked ∷ worked-out cs

abbrev pub answers : List Case → List Answer
answers [] = []
answers (c ∷ cs) = c.answer ∷ answers cs

-- every case holds
pub cases-hold : worked-out cases ≡ answers cases
unfolding res centre elem inv inv_from difference product inverse quotient power nearest signed_by whole_quotient divide_of divide_z_of int_divide_of modulo_of
    raised exponentiate_of infix_of
cases-hold = refl
