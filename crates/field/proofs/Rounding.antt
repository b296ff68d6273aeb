-- The laws of the rounded quotient and of its remainder: what pins them, and that they are elements. Callers cite these and open no definition.
-- Assumes nothing.
use mathlib.Core.Path.{◌≡◌, refl, sym, ap, ap₂, subst, subst⁻¹, ◌∙◌}
use mathlib.Core.Bool.{Bool, cond}
use Prim.Native.Nat.{ℕ, zero, suc, ◌+◌, ◌*◌, ◌-◌, ◌%◌, ◌<◌, ◌≤◌}
use native.Mathlib.Nat.{div-add-mod, mod-lt, div-eq_of_lt-le, mul-le-mul, mul-le-mul_left, le_refl, le_trans, le_of_eq}
use native.Mathlib.Omega.{arith}
use native.Mathlib.Decide.{dec_lt}
use lib.IntN.{ℤ, pos, negsuc, neg_ℤ, nat_abs, sub_ℕ, ◌+ℤ◌, ◌-ℤ◌, ◌*ℤ◌, *ℤ_comm, *ℤ-zero, *ℤ-negsuc, neg_ℤ-neg_ℤ, neg_ℤ-+ℤ}
use borrow.Author.Tests.{lt-ltb, le-ltb}
use Rattle.std.specs.Prelude.{Some}
use Rattle.field.specs.declared.InfixOp.TheVariants.{IntDivide, Modulo}
use Rattle.field.specs.Element.{res, elem}
use Rattle.field.specs.Operations.{nearest, signed_by, whole_quotient, difference, product, int_divide_of, modulo_of, infix_of}
use Rattle.field.specs.Rounded.{Rounded}
use Rattle.field.proofs.Elements.{elem-range, elem-small, elem-zero, sub-elem, abs_neg}
use Rattle.field.proofs.ByResidues.{pick-else}

-- ---- signs

-- a sign twice is none, a number's own sign makes its magnitude, and signs leave magnitudes as they are
signed-twice : (x z : ℤ) → signed_by x (signed_by x z) ≡ z
unfolding signed_by
signed-twice (pos n) z = refl
signed-twice (negsuc n) z = neg_ℤ-neg_ℤ z

signed-self : (x : ℤ) → signed_by x x ≡ pos (nat_abs x)
unfolding signed_by
signed-self (pos n) = refl
signed-self (negsuc n) = refl

signed-abs : (x : ℤ) → signed_by x (pos (nat_abs x)) ≡ x
signed-abs x = ap (signed_by x) (sym (signed-self x)) ∙ signed-twice x x

pub abs-signed : (x z : ℤ) → nat_abs (signed_by x z) ≡ nat_abs z
unfolding signed_by
abs-signed (pos n) z = refl
abs-signed (negsuc n) z = abs_neg z

-- they go out of products and differences
times-neg : (y z : ℤ) → y *ℤ neg_ℤ z ≡ neg_ℤ (y *ℤ z)
times-neg y (pos zero) = *ℤ-zero y ∙ sym (ap neg_ℤ (*ℤ-zero y))
times-neg y (pos (suc n)) = *ℤ-negsuc y n
times-neg y (negsuc n) = sym (neg_ℤ-neg_ℤ (y *ℤ pos (suc n))) ∙ ap neg_ℤ (sym (*ℤ-negsuc y n))

times-signed : (x y z : ℤ) → y *ℤ signed_by x z ≡ signed_by x (y *ℤ z)
unfolding signed_by
times-signed (pos n) y z = refl
times-signed (negsuc n) y z = times-neg y z

minus-signed : (x y z : ℤ) → signed_by x y -ℤ signed_by x z ≡ signed_by x (y -ℤ z)
unfolding signed_by
minus-signed (pos n) y z = refl
minus-signed (negsuc n) y z = sym (neg_ℤ-+ℤ y (neg_ℤ z))

-- y times a number that takes both signs: by the magnitudes, with the sign of x; and how far it is from 0 and from x
multiple : (x y k : ℤ) → y *ℤ signed_by x (signed_by y k) ≡ signed_by x (pos (nat_abs y) *ℤ k)
multiple x y k =
    times-signed x y (signed_by y k)
    ∙ ap (signed_by x)
    (times-signed y y k
    ∙ ap (signed_by y) (*ℤ_comm y k)
    ∙ sym (times-signed y k y)
    ∙ ap (◌*ℤ◌ k) (signed-self y)
    ∙ *ℤ_comm k (pos (nat_abs y)))

multiple-abs : (x y k : ℤ) → nat_abs (y *ℤ signed_by x (signed_by y k)) ≡ nat_abs (pos (nat_abs y) *ℤ k)
multiple-abs x y k = ap nat_abs (multiple x y k) ∙ abs-signed x _

distance-abs : (x y k : ℤ) → nat_abs (x -ℤ y *ℤ signed_by x (signed_by y k)) ≡ nat_abs (pos (nat_abs x) -ℤ pos (nat_abs y) *ℤ k)
distance-abs x y k =
    ap nat_abs (ap₂ ◌-ℤ◌ (sym (signed-abs x)) (multiple x y k) ∙ minus-signed x (pos (nat_abs x)) (pos (nat_abs y) *ℤ k))
    ∙ abs-signed x _

-- so a quotient is rounded just if that of the magnitudes is
by-magnitudes : (x y k : ℤ) → Rounded (pos (nat_abs x)) (pos (nat_abs y)) k → Rounded x y (signed_by x (signed_by y k))
by-magnitudes x y k r = record {
  near = subst⁻¹ (λ (n : ℕ). 2 * n ≤ nat_abs y) (distance-abs x y k) r.near;
  away = λ e. subst⁻¹ (λ (n : ℕ). nat_abs x < n) (multiple-abs x y k) (r.away (ap (λ (n : ℕ). 2 * n) (sym (distance-abs x y k)) ∙ e));
}

of-magnitudes : (x y k : ℤ) → Rounded x y (signed_by x (signed_by y k)) → Rounded (pos (nat_abs x)) (pos (nat_abs y)) k
of-magnitudes x y k r = record {
  near = subst (λ (n : ℕ). 2 * n ≤ nat_abs y) (distance-abs x y k) r.near;
  away = λ e. subst (λ (n : ℕ). nat_abs x < n) (multiple-abs x y k) (r.away (ap (λ (n : ℕ). 2 * n) (distance-abs x y k) ∙ e));
}

-- ---- magnitudes

-- the distance of two natural numbers
gap : (a b : ℕ) → nat_abs (pos a -ℤ pos b) ≡ (a - b) + (b - a)
gap a zero = omega arith
gap a (suc b) = go (dec_lt a (suc b))
  where
    go : Dec (a < suc b) → nat_abs (sub_ℕ a (suc b)) ≡ (a - suc b) + (suc b - a)
    go (yes l) = ap (λ (t : Bool). nat_abs (cond t (negsuc (suc b - suc a)) (pos (a - suc b)))) (lt-ltb a (suc b) l) ∙ omega arith
    go (no l) = ap (λ (t : Bool). nat_abs (cond t (negsuc (suc b - suc a)) (pos (a - suc b)))) (le-ltb a (suc b) (omega arith)) ∙ omega arith

module _ (m d : ℕ) (h : 0 < d) where
  -- the multiple lies within half of d from m, and not at the lower end
  nearest-below : 2 * (d * nearest m d) ≤ 2 * m + d
  unfolding nearest
  nearest-below = omega (arith, div-add-mod (2 * m + d) (2 * d))

  nearest-above : 2 * m < 2 * (d * nearest m d) + d
  unfolding nearest
  nearest-above = let two : 0 < 2 * d = omega arith in omega (arith, div-add-mod (2 * m + d) (2 * d), mod-lt (2 * m + d) two)

  nearest-only : (n : ℕ) → 2 * (d * n) ≤ 2 * m + d → 2 * m < 2 * (d * n) + d → nearest m d ≡ n
  unfolding nearest
  nearest-only n l u = div-eq_of_lt-le (2 * d) (omega arith) (omega arith)

  -- a negative number's multiple is further from m than 0 is
  below : (n : ℕ) → nat_abs (pos m -ℤ pos d *ℤ negsuc n) ≡ m + d * suc n
  below n = ap (λ (z : ℤ). nat_abs (pos m +ℤ z)) (neg_ℤ-neg_ℤ (pos (d * suc n)))

  nearest-rounded : Rounded (pos m) (pos d) (pos (nearest m d))
  nearest-rounded = record {
    near = omega (arith, gap m (d * nearest m d), nearest-below, nearest-above);
    away = λ e. omega (arith, gap m (d * nearest m d), nearest-below, nearest-above);
  }

  rounded-nearest : (k : ℤ) → Rounded (pos m) (pos d) k → k ≡ pos (nearest m d)
  rounded-nearest (pos n) r = ap pos (sym (nearest-only n (omega (arith, gap m (d * n), r.near)) (go (dec_lt (2 * m) (2 * (d * n) + d)))))
    where
      go : Dec (2 * m < 2 * (d * n) + d) → 2 * m < 2 * (d * n) + d
      go (yes l) = l
      go (no l) = absurd (omega (arith, gap m (d * n), r.away (omega (arith, gap m (d * n), r.near))))
  rounded-nearest (negsuc n) r = absurd (omega (arith, below n, r.near))

  -- no number's multiple is nearer to m, and a number whose multiple is as near is no larger
  least : (n : ℕ) → (m - d * nearest m d) + (d * nearest m d - m) ≤ (m - d * n) + (d * n - m)
  least n = go (dec_lt (nearest m d) n) (dec_lt n (nearest m d))
    where
      go : Dec (nearest m d < n) → Dec (n < nearest m d) → (m - d * nearest m d) + (d * nearest m d - m) ≤ (m - d * n) + (d * n - m)
      go (yes l) b = omega (arith, nearest-below, nearest-above, mul-le-mul_left d l)
      go (no l) (yes b) = omega (arith, nearest-below, nearest-above, mul-le-mul_left d b)
      go (no l) (no b) = le_of_eq (ap (λ (i : ℕ). (m - d * i) + (d * i - m)) (omega arith))

  largest : (n : ℕ) → (m - d * n) + (d * n - m) ≡ (m - d * nearest m d) + (d * nearest m d - m) → n ≤ nearest m d
  largest n e = go (dec_lt (nearest m d) n)
    where
      go : Dec (nearest m d < n) → n ≤ nearest m d
      go (yes l) = absurd (omega (arith, nearest-above, mul-le-mul_left d l))
      go (no l) = omega arith

  least-of : (k : ℤ) → nat_abs (pos m -ℤ pos d *ℤ pos (nearest m d)) ≤ nat_abs (pos m -ℤ pos d *ℤ k)
  least-of (pos n) = omega (arith, gap m (d * nearest m d), gap m (d * n), least n)
  least-of (negsuc n) = omega (arith, gap m (d * nearest m d), nearest-below, nearest-above, below n)

  largest-of : (k : ℤ) → nat_abs (pos m -ℤ pos d *ℤ k) ≡ nat_abs (pos m -ℤ pos d *ℤ pos (nearest m d)) → nat_abs k ≤ nearest m d
  largest-of (pos n) e = largest n (sym (gap m (d * n)) ∙ e ∙ gap m (d * nearest m d))
  largest-of (negsuc n) e = absurd (omega (arith, gap m (d * nearest m d), nearest-below, nearest-above, below n))

  pub nearest-le : nearest m d ≤ m
  nearest-le = go (dec_lt m (nearest m d))
    where
      go : Dec (m < nearest m d) → nearest m d ≤ m
      go (yes l) = absurd (omega (arith, nearest-below, mul-le-mul_left d l, mul-le-mul h (le_refl m)))
      go (no l) = omega arith

-- ---- what pins the quotient

-- a divisor that is not 0 has a magnitude
pub counts : (y : ℤ) → (y ≡ pos 0 → ⊥) → 0 < nat_abs y
counts (pos zero) h = absurd (h refl)
counts (pos (suc n)) h = omega arith
counts (negsuc n) h = omega arith

module _ (x y : ℤ) (h : y ≡ pos 0 → ⊥) where
  -- the quotient is rounded as the request says
  pub whole-rounded : Rounded x y (whole_quotient x y)
  unfolding whole_quotient
  whole-rounded = by-magnitudes x y _ (nearest-rounded (nat_abs x) (nat_abs y) (counts y h))

  whole-abs : nat_abs (whole_quotient x y) ≡ nearest (nat_abs x) (nat_abs y)
  unfolding whole_quotient
  whole-abs = abs-signed x _ ∙ abs-signed y _

  whole_apart : nat_abs (x -ℤ y *ℤ whole_quotient x y) ≡ nat_abs (pos (nat_abs x) -ℤ pos (nat_abs y) *ℤ pos (nearest (nat_abs x) (nat_abs y)))
  unfolding whole_quotient
  whole_apart = distance-abs x y _

  -- the quotient is no further from 0 than the dividend, and the remainder no further than the divisor
  pub whole_le : nat_abs (whole_quotient x y) ≤ nat_abs x
  whole_le = subst⁻¹ (λ (n : ℕ). n ≤ nat_abs x) whole-abs (nearest-le (nat_abs x) (nat_abs y) (counts y h))

  pub rest_le : nat_abs (x -ℤ y *ℤ whole_quotient x y) ≤ nat_abs y
  rest_le = omega (arith, whole-rounded.near)

  module _ (q : ℤ) where
    -- q with both signs taken off
    bare : ℤ
    bare = signed_by y (signed_by x q)

    bare-is : signed_by x (signed_by y bare) ≡ q
    unfolding bare
    bare-is = ap (signed_by x) (signed-twice y (signed_by x q)) ∙ signed-twice x q

    bare-abs : nat_abs bare ≡ nat_abs q
    unfolding bare
    bare-abs = abs-signed y _ ∙ abs-signed x q

    apart : nat_abs (x -ℤ y *ℤ q) ≡ nat_abs (pos (nat_abs x) -ℤ pos (nat_abs y) *ℤ bare)
    apart = ap (λ (z : ℤ). nat_abs (x -ℤ y *ℤ z)) (sym bare-is) ∙ distance-abs x y bare

    -- no other number is so rounded
    pub rounded-only : Rounded x y q → q ≡ whole_quotient x y
    unfolding whole_quotient
    rounded-only r =
        sym bare-is
        ∙ ap (λ (z : ℤ). signed_by x (signed_by y z))
        (rounded-nearest (nat_abs x) (nat_abs y) (counts y h) bare (of-magnitudes x y bare (subst⁻¹ (Rounded x y) bare-is r)))

    -- "the nearest": no number's multiple of y is nearer to x. "Halves away from zero": a number whose multiple is as near is no further from 0
    pub none-nearer : nat_abs (x -ℤ y *ℤ whole_quotient x y) ≤ nat_abs (x -ℤ y *ℤ q)
    none-nearer = omega (arith, apart, whole_apart, least-of (nat_abs x) (nat_abs y) (counts y h) bare)

    pub none-further : nat_abs (x -ℤ y *ℤ q) ≡ nat_abs (x -ℤ y *ℤ whole_quotient x y) → nat_abs q ≤ nat_abs (whole_quotient x y)
    none-further e =
        omega (arith, bare-abs, whole-abs, largest-of (nat_abs x) (nat_abs y) (counts y h) bare (sym apart ∙ e ∙ whole_apart))

-- ---- of elements both are elements, and `\` and `%` answer them as they are

module _ (p : ℕ) (h : 0 < p) (odd : p % 2 ≡ 1) (a b : ℤ) (k : elem p b ≡ pos 0 → ⊥) where
  pub whole-element : elem p (whole_quotient (elem p a) (elem p b)) ≡ whole_quotient (elem p a) (elem p b)
  whole-element = elem-small p h odd _ (le_trans (whole_le (elem p a) (elem p b) k) (elem-range p h a))

  pub rest-element : difference p (elem p a) (product p (elem p b) (whole_quotient (elem p a) (elem p b)))
      ≡ elem p a -ℤ elem p b *ℤ whole_quotient (elem p a) (elem p b)
  unfolding difference product
  rest-element =
      sub-elem p h (elem p a) (elem p b *ℤ whole_quotient (elem p a) (elem p b))
      ∙ elem-small p h odd _ (le_trans (rest_le (elem p a) (elem p b) k) (elem-range p h b))

  counted : res p b ≡ 0 → ⊥
  counted e = k (elem-zero p h b e)

  pub int-divide-answer : infix_of p IntDivide a b ≡ Some (whole_quotient (elem p a) (elem p b))
  unfolding infix_of int_divide_of
  int-divide-answer = pick-else (res p b) _ _ counted ∙ ap Some whole-element

  pub modulo-answer : infix_of p Modulo a b ≡ Some (elem p a -ℤ elem p b *ℤ whole_quotient (elem p a) (elem p b))
  unfolding infix_of modulo_of
  modulo-answer = pick-else (res p b) _ _ counted ∙ ap Some rest-element
