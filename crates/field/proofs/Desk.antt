-- The laws of specs/Desk.antt, for any prime p, and so for the field's own. Assumes nothing.
use mathlib.Core.Path.{◌≡◌, refl, ap, ◌∙◌}
use Prim.Native.Nat.{ℕ, ◌<◌}
use native.Mathlib.Omega.{arith}
use lib.IntN.{ℤ, pos, ◌+ℤ◌, ◌*ℤ◌}
use Rattle.std.specs.Prelude.{Some, None}
use Rattle.field.specs.declared.InfixOp.TheVariants.{Divide, DivideZ, Multiply, Add, Subtract}
use Rattle.field.specs.Prime.{Prime, P}
use Rattle.field.specs.Element.{res, elem}
use Rattle.field.specs.Operations.{opposite, divide_of, divide_z_of, infix_of, Answer}
use Rattle.field.specs.Desk.{chained, NonZero, DeskLaws}
use Rattle.field.proofs.Primality.{P-prime}
use Rattle.field.proofs.Elements.{elem-zero, zero-elem}
use Rattle.field.proofs.ByResidues.{pick-zero, pick-else}
use Rattle.field.proofs.Laws as laws
use Rattle.field.proofs.Answers.{value-path, opposite-element}

module _ (p : ℕ) (prime : Prime p) where
  above : 0 < p
  above = omega (arith, prime.above)

  -- of answers: by their values, and nothing on both sides where one has none
  sums-commute : (x y : Answer) → chained p Add x y ≡ chained p Add y x
  unfolding infix_of
  sums-commute (Some a) (Some b) = ap Some (laws.sum-commutes p prime a b)
  sums-commute (Some a) None = refl
  sums-commute None (Some b) = refl
  sums-commute None None = refl

  products-commute : (x y : Answer) → chained p Multiply x y ≡ chained p Multiply y x
  unfolding infix_of
  products-commute (Some a) (Some b) = ap Some (laws.product-commutes p prime a b)
  products-commute (Some a) None = refl
  products-commute None (Some b) = refl
  products-commute None None = refl

  sums-regroup : (x y z : Answer) → chained p Add (chained p Add x y) z ≡ chained p Add x (chained p Add y z)
  unfolding infix_of
  sums-regroup (Some a) (Some b) (Some c) = ap Some (laws.sum-regroups p prime a b c)
  sums-regroup (Some a) (Some b) None = refl
  sums-regroup (Some a) None z = refl
  sums-regroup None y z = refl

  products-regroup : (x y z : Answer) → chained p Multiply (chained p Multiply x y) z ≡ chained p Multiply x (chained p Multiply y z)
  unfolding infix_of
  products-regroup (Some a) (Some b) (Some c) = ap Some (laws.product-regroups p prime a b c)
  products-regroup (Some a) (Some b) None = refl
  products-regroup (Some a) None z = refl
  products-regroup None y z = refl

  distribute : (x y z : Answer) → chained p Multiply x (chained p Add y z) ≡ chained p Add (chained p Multiply x y) (chained p Multiply x z)
  unfolding infix_of
  distribute (Some a) (Some b) (Some c) = ap Some (laws.product-distributes p prime a b c)
  distribute (Some a) (Some b) None = refl
  distribute (Some a) None z = refl
  distribute None y z = refl

  distribute-right : (x y z : Answer) → chained p Multiply (chained p Add x y) z ≡ chained p Add (chained p Multiply x z) (chained p Multiply y z)
  unfolding infix_of
  distribute-right (Some a) (Some b) (Some c) = ap Some (laws.product-distributes-right p prime a b c)
  distribute-right (Some a) (Some b) None = refl
  distribute-right (Some a) None None = refl
  distribute-right (Some a) None (Some c) = refl
  distribute-right None y z = refl

  -- opposites and differences
  opposite-sum : (a : ℤ) → infix_of p Add a (opposite p a) ≡ Some (pos 0)
  unfolding infix_of
  opposite-sum a = ap Some (laws.sum-opposite p prime a)

  opposite-only : (a b : ℤ) → infix_of p Add a b ≡ Some (pos 0) → elem p b ≡ opposite p a
  unfolding infix_of
  opposite-only a b e = laws.opposite-only p prime a b (value-path _ _ e) ∙ opposite-element p prime a

  difference-sum : (a b : ℤ) → infix_of p Subtract a b ≡ infix_of p Add a (opposite p b)
  unfolding infix_of
  difference-sum a b = ap Some (laws.difference-sum p prime a b)

  -- a product over its second factor, and by commuting over its first
  counts : (b : ℤ) → NonZero p b → res p b ≡ 0 → ⊥
  counts b h e = h (elem-zero p above b e)

  divide-second : (a b : ℤ) → NonZero p b → chained p Divide (infix_of p Multiply a b) (Some b) ≡ Some (elem p a)
  unfolding infix_of divide_of
  divide-second a b h = pick-else (res p b) _ _ (counts b h) ∙ ap Some (laws.product-over p prime b (counts b h) a)

  divide-z-second : (a b : ℤ) → NonZero p b → chained p DivideZ (infix_of p Multiply a b) (Some b) ≡ Some (elem p a)
  unfolding infix_of divide_z_of
  divide-z-second a b h = pick-else (res p b) _ _ (counts b h) ∙ ap Some (laws.product-over p prime b (counts b h) a)

  divide-first : (a b : ℤ) → NonZero p a → chained p Divide (infix_of p Multiply a b) (Some a) ≡ Some (elem p b)
  divide-first a b h = ap (λ (x : Answer). chained p Divide x (Some a)) (products-commute (Some a) (Some b)) ∙ divide-second b a h

  divide-z-first : (a b : ℤ) → NonZero p a → chained p DivideZ (infix_of p Multiply a b) (Some a) ≡ Some (elem p b)
  divide-z-first a b h = ap (λ (x : Answer). chained p DivideZ x (Some a)) (products-commute (Some a) (Some b)) ∙ divide-z-second b a h

  divide-zero : (a b : ℤ) → elem p b ≡ pos 0 → infix_of p Divide a b ≡ None
  unfolding infix_of divide_of
  divide-zero a b e = pick-zero (res p b) _ _ (zero-elem p above b e)

  divide-z-zero : (a b : ℤ) → elem p b ≡ pos 0 → NonZero p a → infix_of p DivideZ a b ≡ None
  unfolding infix_of divide_z_of
  divide-z-zero a b e h = pick-zero (res p b) _ _ (zero-elem p above b e) ∙ pick-else (res p a) _ _ (counts a h)

  divide-z-zeros : (a b : ℤ) → elem p b ≡ pos 0 → elem p a ≡ pos 0 → infix_of p DivideZ a b ≡ Some (pos 0)
  unfolding infix_of divide_z_of
  divide-z-zeros a b e z = pick-zero (res p b) _ _ (zero-elem p above b e) ∙ pick-zero (res p a) _ _ (zero-elem p above a z)

  -- the element of a sum or a product
  of-sum : (x y : ℤ) → Some (elem p (x +ℤ y)) ≡ infix_of p Add (elem p x) (elem p y)
  unfolding infix_of
  of-sum x y = ap Some (laws.element-of-sum p prime x y)

  of-product : (x y : ℤ) → Some (elem p (x *ℤ y)) ≡ infix_of p Multiply (elem p x) (elem p y)
  unfolding infix_of
  of-product x y = ap Some (laws.element-of-product p prime x y)

  pub desk-laws : DeskLaws p
  desk-laws =
      record {
        sums-commute = sums-commute;
        products-commute = products-commute;
        sums-regroup = sums-regroup;
        products-regroup = products-regroup;
        products-distribute = distribute;
        products-distribute-right = distribute-right;
        opposite-element = opposite-element p prime;
        opposite-sum = opposite-sum;
        opposite-only = opposite-only;
        difference-sum = difference-sum;
        divide-by-second = divide-second;
        divide-by-first = divide-first;
        divide-z-by-second = divide-z-second;
        divide-z-by-first = divide-z-first;
        divide-element = λ a b e h. divide-second a b h ∙ ap Some e;
        divide-z-element = λ a b e h. divide-z-second a b h ∙ ap Some e;
        divide-by-zero = divide-zero;
        divide-z-by-zero = divide-z-zero;
        divide-z-zeros = divide-z-zeros;
        canonical-sum = λ x y fx fy fits. of-sum x y;
        canonical-product = λ x y fx fy fits. of-product x y;
      }

-- of the field's own prime
pub desk-laws-P : DeskLaws P
desk-laws-P = desk-laws P P-prime
