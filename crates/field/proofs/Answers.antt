-- What holds of every answer, for any prime p: a value is an element, and operands stand for their elements.
-- Assumes nothing.
use mathlib.Core.Path.{◌≡◌, refl, sym, ap, ap₂, subst, ◌∙◌}
use mathlib.Core.Bool.{Bool, true, false}
use Prim.Native.Nat.{ℕ, suc, ◌+◌, ◌*◌, ◌-◌, ◌%◌, ◌^◌, ◌<◌}
use native.Mathlib.Nat.{mod-lt}
use native.Mathlib.Omega.{arith}
use lib.Dec.{eqb}
use lib.IntN.{ℤ, pos, negsuc}
use Rattle.std.specs.Prelude.{Some, None}
use Rattle.field.specs.declared.InfixOp.{InfixOp}
use Rattle.field.specs.declared.InfixOp.TheVariants.{Divide, DivideZ, Multiply, Add, Subtract, Equal, Exponentiate, IntDivide, Modulo}
use Rattle.field.specs.Prime.{Prime}
use Rattle.field.specs.Element.{res, centre, elem, inv}
use Rattle.field.specs.Operations.{pick, sum, difference, product, opposite, inverse, quotient, power, whole_quotient, Answer}
use Rattle.field.specs.Operations.{divide_of, divide_z_of, int_divide_of, modulo_of, raised, exponentiate_of, infix_of}
use Rattle.field.proofs.Modular.{inv-lt}
use Rattle.field.proofs.Elements.{res-lt, res-centre, res-elem, elem-elem, elem-zero, res-zero}
use Rattle.field.proofs.ByResidues.{sum-res, difference-res, product-res, quotient-res}

-- a value is one number, and is not nothing
pub value-path : (x z : ℤ) → Some x ≡ Some z → x ≡ z
value-path x z e = cc

pub nothing-value : (z : ℤ) → None ≡ Some z → ⊥
nothing-value z e = let o : ◌≡◌ {A = ℕ} 0 1 = cc in omega arith

module _ (p : ℕ) (prime : Prime p) where
  above : 0 < p
  above = omega (arith, prime.above)

  -- elements: what lies at the centre, and each operation's value
  centre-element : (r : ℕ) → r < p → elem p (centre p r) ≡ centre p r
  unfolding elem
  centre-element r l = ap (centre p) (res-centre p above r l)

  zero-element : elem p (pos 0) ≡ pos 0
  zero-element = elem-zero p above (pos 0) (res-zero p above)

  quotient-element : (a b : ℤ) → elem p (quotient p a b) ≡ quotient p a b
  unfolding quotient product
  quotient-element a b = elem-elem p above _

  power-element : (a : ℤ) (n : ℕ) → elem p (power p a n) ≡ power p a n
  unfolding power
  power-element a n = centre-element _ (mod-lt _ above)

  pub inverse-element : (a : ℤ) → elem p (inverse p a) ≡ inverse p a
  unfolding inverse
  inverse-element a = centre-element _ (inv-lt p prime _ (res-lt p above a))

  pub opposite-element : (a : ℤ) → elem p (opposite p a) ≡ opposite p a
  unfolding opposite
  opposite-element a = elem-elem p above _

  -- an answer by its case
  given : (x z : ℤ) → elem p x ≡ x → Some x ≡ Some z → elem p z ≡ z
  given x z h e = subst (λ (w : ℤ). elem p w ≡ w) (value-path x z e) h

  none-given : (z : ℤ) → None ≡ Some z → elem p z ≡ z
  none-given z e = absurd (nothing-value z e)

  picked : (t : Bool) (x y : Answer) (z : ℤ) → ((w : ℤ) → x ≡ Some w → elem p w ≡ w) → ((w : ℤ) → y ≡ Some w → elem p w ≡ w)
      → pick t x y ≡ Some z → elem p z ≡ z
  picked true x y z f g e = f z e
  picked false x y z f g e = g z e

  raised-element : (a n z : ℤ) → raised p a n ≡ Some z → elem p z ≡ z
  unfolding raised
  raised-element a (pos n) z e = given (power p a n) z (power-element a n) e
  raised-element a (negsuc n) z e = picked (eqb (res p a) 0) None _ z none-given (λ w. given _ w (inverse-element _)) e

  -- a value is an element
  pub infix-element : (op : InfixOp) (a b z : ℤ) → infix_of p op a b ≡ Some z → elem p z ≡ z
  unfolding infix_of divide_of divide_z_of int_divide_of modulo_of exponentiate_of product sum difference
  infix-element Divide a b z e = picked (eqb (res p b) 0) None _ z none-given (λ w. given _ w (quotient-element a b)) e
  infix-element DivideZ a b z e =
      picked (eqb (res p b) 0) (pick (eqb (res p a) 0) (Some (pos 0)) None) _ z
      (λ w. picked (eqb (res p a) 0) (Some (pos 0)) None w (λ v. given (pos 0) v zero-element) none-given) (λ w. given _ w (quotient-element a b)) e
  infix-element Multiply a b z e = given _ z (elem-elem p above _) e
  infix-element Add a b z e = given _ z (elem-elem p above _) e
  infix-element Subtract a b z e = given _ z (elem-elem p above _) e
  infix-element Equal a b z e = none-given z e
  infix-element Exponentiate a b z e = raised-element a (elem p b) z e
  infix-element IntDivide a b z e = picked (eqb (res p b) 0) None _ z none-given (λ w. given _ w (elem-elem p above _)) e
  infix-element Modulo a b z e = picked (eqb (res p b) 0) None _ z none-given (λ w. given _ w (elem-elem p above _)) e

  -- the element of an operand in its place, by residues
  quotient-of : (a b : ℤ) → quotient p (elem p a) (elem p b) ≡ quotient p a b
  quotient-of a b =
      quotient-res p prime (elem p a) (elem p b)
      ∙ ap₂ (λ (x y : ℕ). centre p ((x * inv p y) % p)) (res-elem p above a) (res-elem p above b)
      ∙ sym (quotient-res p prime a b)

  power-of : (a : ℤ) (n : ℕ) → power p (elem p a) n ≡ power p a n
  unfolding power
  power-of a n = ap (λ (x : ℕ). centre p (x ^ n % p)) (res-elem p above a)

  raised_of : (a n : ℤ) → raised p (elem p a) n ≡ raised p a n
  unfolding raised
  raised_of a (pos n) = ap Some (power-of a n)
  raised_of a (negsuc n) =
      ap₂ (λ (x : ℕ) (y : ℤ). pick (eqb x 0) None (Some (inverse p y))) (res-elem p above a) (power-of a (suc n))

  whole_of : (a b : ℤ) → whole_quotient (elem p (elem p a)) (elem p (elem p b)) ≡ whole_quotient (elem p a) (elem p b)
  whole_of a b = ap₂ whole_quotient (elem-elem p above a) (elem-elem p above b)

  -- operands stand for their elements
  pub infix-elements : (op : InfixOp) (a b : ℤ) → infix_of p op (elem p a) (elem p b) ≡ infix_of p op a b
  unfolding infix_of divide_of divide_z_of int_divide_of modulo_of exponentiate_of
  infix-elements Divide a b = ap₂ (λ (x : ℕ) (y : ℤ). pick (eqb x 0) None (Some y)) (res-elem p above b) (quotient-of a b)
  infix-elements DivideZ a b =
      ap (λ (w : ℕ). pick (eqb (res p (elem p b)) 0) (pick (eqb w 0) (Some (pos 0)) None) (Some (quotient p (elem p a) (elem p b)))) (res-elem p above a)
      ∙ ap₂ (λ (x : ℕ) (y : ℤ). pick (eqb x 0) (pick (eqb (res p a) 0) (Some (pos 0)) None) (Some y)) (res-elem p above b) (quotient-of a b)
  infix-elements Multiply a b =
      ap Some
      (product-res p above (elem p a) (elem p b)
      ∙ ap₂ (λ (x y : ℕ). centre p ((x * y) % p)) (res-elem p above a) (res-elem p above b)
      ∙ sym (product-res p above a b))
  infix-elements Add a b =
      ap Some
      (sum-res p above (elem p a) (elem p b) ∙ ap₂ (λ (x y : ℕ). centre p ((x + y) % p)) (res-elem p above a) (res-elem p above b) ∙ sym (sum-res p above a b))
  infix-elements Subtract a b =
      ap Some
      (difference-res p above (elem p a) (elem p b)
      ∙ ap₂ (λ (x y : ℕ). centre p ((x + (p - y)) % p)) (res-elem p above a) (res-elem p above b)
      ∙ sym (difference-res p above a b))
  infix-elements Equal a b = refl
  infix-elements Exponentiate a b = raised_of a (elem p (elem p b)) ∙ ap (raised p a) (elem-elem p above b)
  infix-elements IntDivide a b = ap₂ (λ (x : ℕ) (y : ℤ). pick (eqb x 0) None (Some (elem p y))) (res-elem p above b) (whole_of a b)
  infix-elements Modulo a b =
      ap (λ (x : ℕ). pick (eqb x 0) None
      (Some (difference p (elem p (elem p a)) (product p (elem p (elem p b)) (whole_quotient (elem p (elem p a)) (elem p (elem p b)))))))
      (res-elem p above b)
      ∙ ap₂ (λ (x y : ℤ). pick (eqb (res p b) 0) None (Some (difference p x (product p y (whole_quotient x y)))))
      (elem-elem p above a) (elem-elem p above b)
