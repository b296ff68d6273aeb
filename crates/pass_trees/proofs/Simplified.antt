-- infix_op's simplifications keep the value. Cites the field's laws and answers.
use Rattle.std.proofs.Common.{◌≡◌, Bool, true, false, ℤ, pos, sym, refl, ap, ◌∙◌}
use Rattle.std.specs.Prelude.{Some}
use Rattle.field.specs.declared.InfixOp.{InfixOp}
use Rattle.field.specs.Prime.{P}
use Rattle.field.specs.Element.{elem}
use Rattle.field.specs.Operations.{infix_of, Answer}
use Rattle.field.proofs.Primality.{P-prime, P-above}
use Rattle.field.proofs.Elements.{elem-elem}
use Rattle.field.proofs.Units.{one-element, zero-element, one-multiply, multiply-one, zero-multiply, multiply-zero, divide-one}
use Rattle.field.proofs.Units.{divide-z-one, zero-divide-z, int-divide-one, modulo-one, zero-add, add-zero, subtract-zero}
use Rattle.flat.specs.Meaning.{Assignment, Elements}
use Rattle.constraint.specs.declared.Term.{Term}
use Rattle.constraint.specs.Trees.{Side}
use Rattle.constraint.specs.Meaning.{term_value, side_value}
use Rattle.pass_trees.specs.Passes.{is_one, is_zero, when, infix_op}
use Rattle.pass_trees.proofs.Lists.{bool-not, same_number_lem}

-- the terms that infix_op looks for
one-is : (σ : Assignment) (t : Term) → is_one t ≡ true → term_value σ t ≡ pos 1
unfolding is_one
one-is σ (Term.Variable v) e = bool-not (sym e)
one-is σ (Term.Constant c) e = ap (elem P) (same_number_lem c (pos 1) e) ∙ one-element

zero_is : (σ : Assignment) (t : Term) → is_zero t ≡ true → term_value σ t ≡ pos 0
unfolding is_zero
zero_is σ (Term.Variable v) e = bool-not (sym e)
zero_is σ (Term.Constant c) e = ap (elem P) (same_number_lem c (pos 0) e) ∙ zero-element

pub term-element : (σ : Assignment) → Elements σ → (t : Term) → elem P (term_value σ t) ≡ term_value σ t
term-element σ h (Term.Variable v) = h v
term-element σ h (Term.Constant c) = elem-elem P P-above c

-- the simplified right side has the value of the operation
module _ (σ : Assignment) (h : Elements σ) (a b : Term) where
  x : ℤ
  x = term_value σ a

  y : ℤ
  y = term_value σ b

  when-value : {A : Answer} (t : Bool) (s u : Side) → (t ≡ true → side_value σ s ≡ A) → side_value σ u ≡ A → side_value σ (when t s u) ≡ A
  unfolding when
  when-value true s u f g = f refl
  when-value false s u f g = g

  -- by a law at a left or a right side that is 1 or 0: the other side's value, or 0
  at_left : (o : InfixOp) (u z : ℤ) → x ≡ u → infix_of P o u y ≡ Some z → Some z ≡ infix_of P o x y
  at_left o u z e l = sym (ap (λ (w : ℤ). infix_of P o w y) e ∙ l)

  at_right : (o : InfixOp) (u z : ℤ) → y ≡ u → infix_of P o x u ≡ Some z → Some z ≡ infix_of P o x y
  at_right o u z e l = sym (ap (infix_of P o x) e ∙ l)

  left_back : Some x ≡ Some (elem P x)
  unfolding x
  left_back = ap Some (sym (term-element σ h a))

  right-back : Some y ≡ Some (elem P y)
  unfolding y
  right-back = ap Some (sym (term-element σ h b))

  pub infix-value : (o : InfixOp) → side_value σ (infix_op o a b) ≡ infix_of P o (term_value σ a) (term_value σ b)
  unfolding infix_op side_value x y
  infix-value InfixOp.Divide =
      when-value (is_one b) (Side.copy a) _
      (λ e. left_back ∙ at_right InfixOp.Divide (pos 1) _ (one-is σ b e) (divide-one P P-prime x)) refl
  infix-value InfixOp.DivideZ =
      when-value (is_one b) (Side.copy a) _ (λ e. left_back ∙ at_right InfixOp.DivideZ (pos 1) _ (one-is σ b e) (divide-z-one P P-prime x))
      (when-value (is_zero a) (Side.copy a) _
      (λ e. ap Some (zero_is σ a e) ∙ at_left InfixOp.DivideZ (pos 0) _ (zero_is σ a e) (zero-divide-z P P-prime y)) refl)
  infix-value InfixOp.Multiply =
      when-value (is_one a) (Side.copy b) _ (λ e. right-back ∙ at_left InfixOp.Multiply (pos 1) _ (one-is σ a e) (one-multiply P P-prime y))
      (when-value (is_one b) (Side.copy a) _ (λ e. left_back ∙ at_right InfixOp.Multiply (pos 1) _ (one-is σ b e) (multiply-one P P-prime x))
      (when-value (is_zero a) (Side.copy a) _ (λ e. ap Some (zero_is σ a e) ∙ at_left InfixOp.Multiply (pos 0) _ (zero_is σ a e) (zero-multiply P P-prime y))
      (when-value (is_zero b) (Side.copy b) _
      (λ e. ap Some (zero_is σ b e) ∙ at_right InfixOp.Multiply (pos 0) _ (zero_is σ b e) (multiply-zero P P-prime x)) refl)))
  infix-value InfixOp.Add =
      when-value (is_zero a) (Side.copy b) _ (λ e. right-back ∙ at_left InfixOp.Add (pos 0) _ (zero_is σ a e) (zero-add P P-prime y))
      (when-value (is_zero b) (Side.copy a) _ (λ e. left_back ∙ at_right InfixOp.Add (pos 0) _ (zero_is σ b e) (add-zero P P-prime x)) refl)
  infix-value InfixOp.Subtract =
      when-value (is_zero b) (Side.copy a) _
      (λ e. left_back ∙ at_right InfixOp.Subtract (pos 0) _ (zero_is σ b e) (subtract-zero P P-prime x)) refl
  infix-value InfixOp.Equal = refl
  infix-value InfixOp.Exponentiate = refl
  infix-value InfixOp.IntDivide =
      when-value (is_one b) (Side.copy a) _
      (λ e. left_back ∙ at_right InfixOp.IntDivide (pos 1) _ (one-is σ b e) (int-divide-one P P-prime x)) refl
  infix-value InfixOp.Modulo =
      when-value (is_one b) (Side.copy (Term.Constant (pos 0))) _
      (λ e. ap Some zero-element ∙ at_right InfixOp.Modulo (pos 1) _ (one-is σ b e) (modulo-one P P-prime x)) refl
