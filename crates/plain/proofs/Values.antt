-- Values: what a value says of its parts, that values are elements, and that infix_op and the flat expression of a number keep them.
use mathlib.Core.Path.{◌≡◌, refl, sym, ap, ap₂, subst, ◌∙◌}
use mathlib.Core.Bool.{Bool, true, false, cond}
use mathlib.Core.Option.{Option, none, some}
use Prim.Native.Nat.{ℕ}
use native.Mathlib.Omega.{arith}
use lib.IntN.{ℤ, pos, negsuc}
use lib.Dec.{eqb}
use borrow.Author.Tests.{eq-eqb, ne_eqb, eqb-true}
use Rattle.std.specs.Prelude.{Some, None}
use Rattle.field.specs.declared.InfixOp.{InfixOp}
use Rattle.field.specs.declared.InfixOp.TheVariants.{Divide, DivideZ, Multiply, Add, Subtract, Equal, Exponentiate, IntDivide, Modulo}
use Rattle.field.specs.Prime.{P}
use Rattle.field.specs.Element.{elem}
use Rattle.field.specs.Operations.{opposite, infix_of, Answer}
use Rattle.field.proofs.Primality.{P-prime, P-above}
use Rattle.field.proofs.Elements.{elem-elem}
use Rattle.field.proofs.Answers.{value-path, nothing-value, infix-element, opposite-element}
use Rattle.field.proofs.Units.{one-element, zero-element, one-multiply, multiply-one, zero-multiply, multiply-zero, divide-one}
use Rattle.field.proofs.Units.{divide-z-one, zero-divide-z, int-divide-one, modulo-one, zero-add, add-zero, subtract-zero}
use Rattle.source.specs.Trees.{Pat, unit_p, nil_p, as_p, product_p, cons_p, variable_p, constant_p, Expr, unit, nil, sequence, product}
use Rattle.source.specs.Trees.{cons, binary, negate, application, constant, variable, function, intrinsic, letting, matching}
use Rattle.flat.specs.Trees.{Flat}
use Rattle.flat.proofs.NarrowLaws.{narrow-element}
use Rattle.flat.specs.Meaning.{update, Assignment, on_values, negated, value}
use Rattle.eval_trees.specs.Forms.{on_constant, flat_of, joined, opposed}
use Rattle.eval_trees.specs.Simplify.{is_pos, is_constant, infix_op}
use Rattle.plain.specs.Meaning.{Table, write, through, value_of}

pub false-true : false ≡ true → ⊥
false-true e = let o : ◌≡◌ {A = ℕ} 0 1 = cc in omega arith

-- a value through an operation, and back
pub on_values_lem : (o : InfixOp) (u v : Answer) (x y : ℤ) → u ≡ Some x → v ≡ Some y → on_values o u v ≡ infix_of P o x y
unfolding on_values
on_values_lem o u v x y p q = ap₂ (on_values o) p q

pub negated-value : (u : Answer) (x : ℤ) → u ≡ Some x → negated u ≡ Some (opposite P x)
unfolding negated
negated-value u x p = ap negated p

pub through-value : (u : Answer) (f : ℤ → Answer) (x : ℤ) → u ≡ Some x → through u f ≡ f x
unfolding through
through-value u f x p = ap (λ (u : Answer). through u f) p

pub record One (u : Answer) (f : ℤ → Answer) (z : ℤ) : Type 0 where
  pub at : ℤ
  pub arg : u ≡ Some at
  pub result : f at ≡ Some z

pub through-back : (u : Answer) (f : ℤ → Answer) (z : ℤ) → through u f ≡ Some z → One u f z
unfolding through
through-back None f z e = absurd (nothing-value z e)
through-back (Some x) f z e = record { at = x; arg = refl; result = e }

pub negated_back : (u : Answer) (z : ℤ) → negated u ≡ Some z → One u (λ x. Some (opposite P x)) z
unfolding negated
negated_back None z e = absurd (nothing-value z e)
negated_back (Some x) z e = record { at = x; arg = refl; result = e }

pub record Two (o : InfixOp) (u v : Answer) (z : ℤ) : Type 0 where
  pub x : ℤ
  pub y : ℤ
  pub first : u ≡ Some x
  pub second : v ≡ Some y
  pub result : infix_of P o x y ≡ Some z

pub values-back : (o : InfixOp) (u v : Answer) (z : ℤ) → on_values o u v ≡ Some z → Two o u v z
unfolding on_values
values-back o None v z e = absurd (nothing-value z e)
values-back o (Some x) None z e = absurd (nothing-value z e)
values-back o (Some x) (Some y) z e = record { x = x; y = y; first = refl; second = refl; result = e }

-- tables: x written over, all values elements, the values of ids
abbrev pub writing : ℕ → Answer → Table → Table
writing x v t = update t x v

pub update_same : {A : Type 0} (f : ℕ → A) (x : ℕ) (v : A) → update f x v x ≡ v
unfolding update
update_same f x v = ap (λ (c : Bool). cond c v (f x)) (eq-eqb x x refl)

pub update_other : {A : Type 0} (f : ℕ → A) (x : ℕ) (v : A) (y : ℕ) → (y ≡ x → ⊥) → update f x v y ≡ f y
unfolding update
update_other f x v y n = ap (λ (c : Bool). cond c v (f y)) (ne_eqb y x n)

abbrev pub Canonical : Table → Type 0
Canonical t = (x : ℕ) (z : ℤ) → t x ≡ Some z → elem P z ≡ z

pub element-path : (x z : ℤ) → x ≡ z → elem P x ≡ x → elem P z ≡ z
element-path x z e c = subst (λ (y : ℤ). elem P y ≡ y) e c

pub writing-canonical : (x : ℕ) (v : Answer) (t : Table) → Canonical t → ((z : ℤ) → v ≡ Some z → elem P z ≡ z) → Canonical (writing x v t)
unfolding update
writing-canonical x v t c h y z e = go (eqb y x) e
  where
    go : (b : Bool) → cond b v (t y) ≡ Some z → elem P z ≡ z
    go true e = h z e
    go false e = c y z e

write-canonical : (p : Pat) (v : Answer) (t : Table) → Canonical t → ((z : ℤ) → v ≡ Some z → elem P z ≡ z) → Canonical (write p v t)
unfolding write
write-canonical (variable_p x) v t c h = writing-canonical x v t c h
write-canonical unit_p v t c h = c
write-canonical nil_p v t c h = c
write-canonical (as_p p x) v t c h = c
write-canonical (product_p p q) v t c h = c
write-canonical (cons_p p q) v t c h = c
write-canonical (constant_p n) v t c h = c

pub value-element : (e : Expr) (t : Table) → Canonical t → (z : ℤ) → value_of t e ≡ Some z → elem P z ≡ z
unfolding value_of
value-element (constant n) t c z h = element-path _ z (value-path _ z h) (elem-elem P P-above n)
value-element (variable x) t c z h = c x z h
value-element (negate a) t c z h = let w = negated_back (value_of t a) z h in element-path _ z (value-path _ z w.result) (opposite-element P P-prime w.at)
value-element (binary o a b) t c z h = let w = values-back o (value_of t a) (value_of t b) z h in infix-element P P-prime o w.x w.y z w.result
value-element (letting p v b) t c z h =
    let w = through-back (value_of t v) (λ y. value_of (write p (Some y) t) b) z h in
    value-element b (write p (Some w.at) t)
    (write-canonical p (Some w.at) t c (λ y e. element-path _ y (value-path _ y e) (value-element v t c w.at w.arg))) z w.result
value-element unit t c z h = absurd (nothing-value z h)
value-element nil t c z h = absurd (nothing-value z h)
value-element (sequence is) t c z h = absurd (nothing-value z h)
value-element (product a b) t c z h = absurd (nothing-value z h)
value-element (cons a b) t c z h = absurd (nothing-value z h)
value-element (application a b) t c z h = absurd (nothing-value z h)
value-element (function ps b env) t c z h = absurd (nothing-value z h)
value-element (intrinsic w k ps env) t c z h = absurd (nothing-value z h)
value-element (matching v arms) t c z h = absurd (nothing-value z h)

-- the table of an assignment, and the flat expression of a number under it
abbrev pub table : Assignment → Table
table σ = λ i. Some (σ i)

pub some-path : (a b : Flat) → some a ≡ some b → a ≡ b
some-path a b e = cc

pub none-some : (a : Flat) → none ≡ some a → ⊥
none-some a e = let o : ◌≡◌ {A = ℕ} 0 1 = cc in omega arith

joined-value : (σ : Assignment) (o : InfixOp) (a b : Option Flat) (u v : Answer) (f : Flat) → ((g : Flat) → a ≡ some g → value σ g ≡ u)
    → ((g : Flat) → b ≡ some g → value σ g ≡ v) → joined o a b ≡ some f → value σ f ≡ on_values o u v
unfolding joined value
joined-value σ o none b u v f p q e = absurd (none-some f e)
joined-value σ o (some a) none u v f p q e = absurd (none-some f e)
joined-value σ o (some a) (some b) u v f p q e = sym (ap (value σ) (some-path _ f e)) ∙ ap₂ (on_values o) (p a refl) (q b refl)

opposed-value : (σ : Assignment) (a : Option Flat) (u : Answer) (f : Flat) → ((g : Flat) → a ≡ some g → value σ g ≡ u)
    → opposed a ≡ some f → value σ f ≡ negated u
unfolding opposed value
opposed-value σ none u f p e = absurd (none-some f e)
opposed-value σ (some a) u f p e = sym (ap (value σ) (some-path _ f e)) ∙ ap negated (p a refl)

pub flat-value : (σ : Assignment) (e : Expr) (f : Flat) → flat_of e ≡ some f → value σ f ≡ value_of (table σ) e
unfolding flat_of value value_of
flat-value σ (constant n) f h = sym (ap (value σ) (some-path _ f h)) ∙ ap Some (narrow-element n)
flat-value σ (variable x) f h = sym (ap (value σ) (some-path _ f h))
flat-value σ (negate a) f h = opposed-value σ (flat_of a) (value_of (table σ) a) f (flat-value σ a) h
flat-value σ (binary o a b) f h = joined-value σ o (flat_of a) (flat_of b) (value_of (table σ) a) (value_of (table σ) b) f (flat-value σ a) (flat-value σ b) h
flat-value σ (letting p v b) f h = absurd (none-some f h)
flat-value σ unit f h = absurd (none-some f h)
flat-value σ nil f h = absurd (none-some f h)
flat-value σ (sequence is) f h = absurd (none-some f h)
flat-value σ (product a b) f h = absurd (none-some f h)
flat-value σ (cons a b) f h = absurd (none-some f h)
flat-value σ (application a b) f h = absurd (none-some f h)
flat-value σ (function ps b env) f h = absurd (none-some f h)
flat-value σ (intrinsic w k ps env) f h = absurd (none-some f h)
flat-value σ (matching v arms) f h = absurd (none-some f h)

-- the constant k
is_pos_lem : (k : ℕ) (n : ℤ) → is_pos k n ≡ true → n ≡ pos k
unfolding is_pos
is_pos_lem k (pos n) e = ap pos (eqb-true n k e)
is_pos_lem k (negsuc n) e = absurd (false-true e)

constant-value : (t : Table) (k : ℕ) (e : Expr) (y : ℤ) → is_constant k e ≡ true → value_of t e ≡ Some y → y ≡ elem P (pos k)
unfolding is_constant on_constant value_of
constant-value t k (constant n) y c h = sym (value-path _ _ h) ∙ ap (elem P) (is_pos_lem k n c)
constant-value t k (variable i) y c h = absurd (false-true c)
constant-value t k (negate a) y c h = absurd (false-true c)
constant-value t k (binary o a b) y c h = absurd (false-true c)
constant-value t k (letting p v b) y c h = absurd (false-true c)
constant-value t k unit y c h = absurd (false-true c)
constant-value t k nil y c h = absurd (false-true c)
constant-value t k (sequence is) y c h = absurd (false-true c)
constant-value t k (product a b) y c h = absurd (false-true c)
constant-value t k (cons a b) y c h = absurd (false-true c)
constant-value t k (application a b) y c h = absurd (false-true c)
constant-value t k (function ps b env) y c h = absurd (false-true c)
constant-value t k (intrinsic w i ps env) y c h = absurd (false-true c)
constant-value t k (matching v arms) y c h = absurd (false-true c)

is_one : (t : Table) (e : Expr) (y : ℤ) → is_constant 1 e ≡ true → value_of t e ≡ Some y → y ≡ pos 1
is_one t e y c h = constant-value t 1 e y c h ∙ one-element

is_zero : (t : Table) (e : Expr) (y : ℤ) → is_constant 0 e ≡ true → value_of t e ≡ Some y → y ≡ pos 0
is_zero t e y c h = constant-value t 0 e y c h ∙ zero-element

pub cond-case : (c : Bool) (u v : Expr × ℕ) (Q : Expr → Type 0) → (c ≡ true → Q u.0) → (c ≡ false → Q v.0) → Q (cond c u v).0
cond-case true u v Q f g = f refl
cond-case false u v Q f g = g refl

pub binary-value : (t : Table) (o : InfixOp) (a b : Expr) (x y z : ℤ) → value_of t a ≡ Some x → value_of t b ≡ Some y → infix_of P o x y ≡ Some z
    → value_of t (binary o a b) ≡ Some z
unfolding value_of
binary-value t o a b x y z p q e = on_values_lem o (value_of t a) (value_of t b) x y p q ∙ e

-- infix_op keeps the value
module _ (t : Table) (a b : Expr) (x y z : ℤ) (p : value_of t a ≡ Some x) (q : value_of t b ≡ Some y) (cx : elem P x ≡ x) (cy : elem P y ≡ y) where
  Q : Expr → Type 0
  Q e = value_of t e ≡ Some z

  -- a side is handed on whose element the operation answers
  on-left : (o : InfixOp) (w : Answer) → infix_of P o x y ≡ Some z → infix_of P o x y ≡ w → w ≡ Some (elem P x) → value_of t a ≡ Some z
  on-left o w e f g = p ∙ ap Some (sym cx) ∙ sym g ∙ sym f ∙ e

  on-right : (o : InfixOp) (w : Answer) → infix_of P o x y ≡ Some z → infix_of P o x y ≡ w → w ≡ Some (elem P y) → value_of t b ≡ Some z
  on-right o w e f g = q ∙ ap Some (sym cy) ∙ sym g ∙ sym f ∙ e

  at_left : (o : InfixOp) (k : ℤ) → x ≡ k → infix_of P o x y ≡ infix_of P o k y
  at_left o k e = ap (λ (w : ℤ). infix_of P o w y) e

  at_right : (o : InfixOp) (k : ℤ) → y ≡ k → infix_of P o x y ≡ infix_of P o x k
  at_right o k e = ap (infix_of P o x) e

  -- 0, on either side
  zero_left : x ≡ pos 0 → Some (pos 0) ≡ Some (elem P x)
  zero_left e = ap Some (sym zero-element ∙ ap (elem P) (sym e))

  zero_right : y ≡ pos 0 → Some (pos 0) ≡ Some (elem P y)
  zero_right e = ap Some (sym zero-element ∙ ap (elem P) (sym e))

  pub infix-value : (o : InfixOp) → infix_of P o x y ≡ Some z → value_of t (infix_op o a b).0 ≡ Some z
  unfolding infix_op Q value_of
  infix-value Multiply e =
      cond-case _ _ _ Q (λ c. on-right Multiply _ e (at_left Multiply (pos 1) (is_one t a x c p)) (one-multiply P P-prime y))
      λ _. cond-case _ _ _ Q (λ c. on-left Multiply _ e (at_right Multiply (pos 1) (is_one t b y c q)) (multiply-one P P-prime x))
      λ _. cond-case _ _ _ Q
      (λ c. on-left Multiply _ e (at_left Multiply (pos 0) (is_zero t a x c p)) (zero-multiply P P-prime y ∙ zero_left (is_zero t a x c p)))
      λ _. cond-case _ _ _ Q
      (λ c. on-right Multiply _ e (at_right Multiply (pos 0) (is_zero t b y c q)) (multiply-zero P P-prime x ∙ zero_right (is_zero t b y c q)))
      λ _. binary-value t Multiply a b x y z p q e
  infix-value Divide e =
      cond-case _ _ _ Q (λ c. on-left Divide _ e (at_right Divide (pos 1) (is_one t b y c q)) (divide-one P P-prime x))
      λ _. binary-value t Divide a b x y z p q e
  infix-value DivideZ e =
      cond-case _ _ _ Q (λ c. on-left DivideZ _ e (at_right DivideZ (pos 1) (is_one t b y c q)) (divide-z-one P P-prime x))
      λ _. cond-case _ _ _ Q
      (λ c. on-left DivideZ _ e (at_left DivideZ (pos 0) (is_zero t a x c p)) (zero-divide-z P P-prime y ∙ zero_left (is_zero t a x c p)))
      λ _. binary-value t DivideZ a b x y z p q e
  infix-value IntDivide e =
      cond-case _ _ _ Q (λ c. on-left IntDivide _ e (at_right IntDivide (pos 1) (is_one t b y c q)) (int-divide-one P P-prime x))
      λ _. binary-value t IntDivide a b x y z p q e
  infix-value Modulo e =
      cond-case _ _ _ Q (λ c. ap Some zero-element ∙ sym (modulo-one P P-prime x) ∙ sym (at_right Modulo (pos 1) (is_one t b y c q)) ∙ e)
      λ _. binary-value t Modulo a b x y z p q e
  infix-value Add e =
      cond-case _ _ _ Q (λ c. on-right Add _ e (at_left Add (pos 0) (is_zero t a x c p)) (zero-add P P-prime y))
      λ _. cond-case _ _ _ Q (λ c. on-left Add _ e (at_right Add (pos 0) (is_zero t b y c q)) (add-zero P P-prime x))
      λ _. binary-value t Add a b x y z p q e
  infix-value Subtract e =
      cond-case _ _ _ Q (λ c. on-left Subtract _ e (at_right Subtract (pos 0) (is_zero t b y c q)) (subtract-zero P P-prime x))
      λ _. binary-value t Subtract a b x y z p q e
  infix-value Equal e = binary-value t Equal a b x y z p q e
  infix-value Exponentiate e = binary-value t Exponentiate a b x y z p q e
