-- The laws of the field, for any prime p and any integers: an element is its own element (`elem-elem`), so of elements each `elem p a` below is a.
-- Assumes nothing.
use mathlib.Core.Path.{◌≡◌, sym, ap, ap₂, ◌∙◌}
use Prim.Native.Nat.{ℕ, zero, suc, ◌+◌, ◌*◌, ◌-◌, ◌%◌, ◌^◌, ◌<◌}
use native.Mathlib.Nat.{pow-zero, pow-succ' as nat-pow-succ', mod-add-mod, add-mod-mod, mod-eq_of_lt}
use native.Mathlib.Nat.{mod_self, pos_of_ne-zero, mod-lt, mul_assoc, mul-add, add_assoc, mul-one}
use native.Mathlib.Omega.{arith}
use lib.IntN.{pow, one, pow-succ', ℤ, pos, neg_ℤ, ◌+ℤ◌, ◌*ℤ◌, +ℤ_comm, *ℤ_comm, +ℤ_idr}
use Rattle.field.specs.Prime.{Prime}
use Rattle.field.specs.Element.{res, centre, elem}
use Rattle.field.specs.Operations.{sum, difference, product, opposite, inverse, quotient, power}
use Rattle.field.proofs.Modular.{inv_right, mod-mul-mod, mul-mod-mod, quotient-unique, quotient-right, product-pos, inv_unique}
use Rattle.field.proofs.Elements.{res-lt, res-elem, res-add, res-mul, res-opp, res-centre}
use Rattle.field.proofs.Elements.{elem-elem, elem-of-res, elem-zero, zero-elem, add-elem, mul-elem}
use Rattle.field.proofs.ByResidues.{quotient-res, res-inverse}

module _ (p : ℕ) (prime : Prime p) where
  above : 0 < p
  above = omega (arith, prime.above)

  -- sums
  pub sum-commutes : (a b : ℤ) → sum p a b ≡ sum p b a
  unfolding sum product opposite
  sum-commutes a b = ap (elem p) (+ℤ_comm a b)

  left-sum : (a b c : ℤ) → res p (elem p (a +ℤ b) +ℤ c) ≡ (res p a + res p b + res p c) % p
  left-sum a b c =
      res-add p above _ c
      ∙ ap (λ (k : ℕ). (k + res p c) % p) (res-elem p above (a +ℤ b) ∙ res-add p above a b)
      ∙ mod-add-mod (res p a + res p b) p (res p c)

  right-sum : (a b c : ℤ) → res p (a +ℤ elem p (b +ℤ c)) ≡ (res p a + (res p b + res p c)) % p
  right-sum a b c =
      res-add p above a _
      ∙ ap (λ (k : ℕ). (res p a + k) % p) (res-elem p above (b +ℤ c) ∙ res-add p above b c)
      ∙ add-mod-mod (res p a) (res p b + res p c) p

  pub sum-regroups : (a b c : ℤ) → sum p (sum p a b) c ≡ sum p a (sum p b c)
  unfolding sum product opposite
  sum-regroups a b c =
      elem-of-res p above _ _ (left-sum a b c ∙ ap (λ (k : ℕ). k % p) (add_assoc (res p a) (res p b) (res p c)) ∙ sym (right-sum a b c))

  pub sum-zero : (a : ℤ) → sum p a (pos 0) ≡ elem p a
  unfolding sum product opposite
  sum-zero a = ap (elem p) (+ℤ_idr a)

  pub sum-opposite : (a : ℤ) → sum p a (opposite p a) ≡ pos 0
  unfolding sum product opposite
  sum-opposite a =
      elem-zero p above _
      (res-add p above a _
      ∙ ap (λ (k : ℕ). (res p a + k) % p) (res-elem p above (neg_ℤ a) ∙ res-opp p above a)
      ∙ add-mod-mod (res p a) (p - res p a) p
      ∙ (let e : res p a + (p - res p a) ≡ p = omega (arith, res-lt p above a) in ap (λ (k : ℕ). k % p) e)
      ∙ mod_self p)

  -- and no other element is the opposite
  pub opposite-only : (a b : ℤ) → sum p a b ≡ pos 0 → elem p b ≡ elem p (opposite p a)
  opposite-only a b e =
      sym (sum-zero b)
      ∙ ap (sum p b) (sym (sum-opposite a))
      ∙ sym (sum-regroups b a (opposite p a))
      ∙ ap (λ (z : ℤ). sum p z (opposite p a)) (sum-commutes b a ∙ e)
      ∙ sum-commutes (pos 0) (opposite p a)
      ∙ sum-zero (opposite p a)

  -- a difference is the sum with the opposite
  pub difference-sum : (a b : ℤ) → difference p a b ≡ sum p a (opposite p b)
  unfolding sum difference opposite
  difference-sum a b = sym (add-elem p above a (neg_ℤ b))

  -- products
  pub product-commutes : (a b : ℤ) → product p a b ≡ product p b a
  unfolding sum product opposite
  product-commutes a b = ap (elem p) (*ℤ_comm a b)

  left-product : (a b c : ℤ) → res p (elem p (a *ℤ b) *ℤ c) ≡ (res p a * res p b * res p c) % p
  left-product a b c =
      res-mul p above _ c
      ∙ ap (λ (k : ℕ). (k * res p c) % p) (res-elem p above (a *ℤ b) ∙ res-mul p above a b)
      ∙ mod-mul-mod p (res p a * res p b) (res p c)

  right-product : (a b c : ℤ) → res p (a *ℤ elem p (b *ℤ c)) ≡ (res p a * (res p b * res p c)) % p
  right-product a b c =
      res-mul p above a _
      ∙ ap (λ (k : ℕ). (res p a * k) % p) (res-elem p above (b *ℤ c) ∙ res-mul p above b c)
      ∙ mul-mod-mod p (res p a) (res p b * res p c)

  pub product-regroups : (a b c : ℤ) → product p (product p a b) c ≡ product p a (product p b c)
  unfolding sum product opposite
  product-regroups a b c =
      elem-of-res p above _ _ (left-product a b c ∙ ap (λ (k : ℕ). k % p) (mul_assoc (res p a) (res p b) (res p c)) ∙ sym (right-product a b c))

  pub product-one : (a : ℤ) → product p a (pos 1) ≡ elem p a
  unfolding res sum product opposite
  product-one a =
      elem-of-res p above _ _
      (res-mul p above a (pos 1)
      ∙ ap (λ (k : ℕ). (res p a * k) % p) (mod-eq_of_lt prime.above)
      ∙ ap (λ (k : ℕ). k % p) (mul-one (res p a))
      ∙ mod-eq_of_lt (res-lt p above a))

  pub product-distributes : (a b c : ℤ) → product p a (sum p b c) ≡ sum p (product p a b) (product p a c)
  unfolding sum product opposite
  product-distributes a b c =
      elem-of-res p above _ _
      (res-mul p above a _
      ∙ ap (λ (k : ℕ). (res p a * k) % p) (res-elem p above (b +ℤ c) ∙ res-add p above b c)
      ∙ mul-mod-mod p (res p a) (res p b + res p c)
      ∙ ap (λ (k : ℕ). k % p) (mul-add (res p a) (res p b) (res p c))
      ∙ sym
      (res-add p above _ _
      ∙ ap₂ (λ (k l : ℕ). (k + l) % p) (res-elem p above (a *ℤ b) ∙ res-mul p above a b) (res-elem p above (a *ℤ c) ∙ res-mul p above a c)
      ∙ mod-add-mod (res p a * res p b) p _
      ∙ add-mod-mod _ (res p a * res p c) p))

  pub product-distributes-right : (a b c : ℤ) → product p (sum p a b) c ≡ sum p (product p a c) (product p b c)
  product-distributes-right a b c =
      product-commutes (sum p a b) c ∙ product-distributes c a b ∙ ap₂ (sum p) (product-commutes c a) (product-commutes c b)

  -- quotients by a number that p does not divide: the quotient times the divisor is the dividend, no other element has this, and a product over its factor is
  -- the other
  module _ (b : ℤ) (b-counts : res p b ≡ 0 → ⊥) where
    pub quotient-times : (a : ℤ) → product p (quotient p a b) b ≡ elem p a
    unfolding sum product opposite
    quotient-times a =
        elem-of-res p above _ _
        (res-mul p above _ b
        ∙ ap (λ (k : ℕ). (k * res p b) % p) (ap (res p) (quotient-res p prime a b) ∙ res-centre p above _ (mod-lt _ above))
        ∙ quotient-right p prime (res p a) (res p b) (pos_of_ne-zero b-counts) (res-lt p above b)
        ∙ mod-eq_of_lt (res-lt p above a))

    pub quotient-only : (a y : ℤ) → product p y b ≡ elem p a → elem p y ≡ quotient p a b
    unfolding elem sum product opposite
    quotient-only a y e =
        ap (centre p)
        (quotient-unique p prime (res p a) (res p b) (res p y) (pos_of_ne-zero b-counts) (res-lt p above b) (res-lt p above y)
        (sym (res-mul p above y b) ∙ sym (res-elem p above (y *ℤ b)) ∙ ap (res p) e ∙ res-elem p above a ∙ sym (mod-eq_of_lt (res-lt p above a))))
        ∙ sym (quotient-res p prime a b)

    pub product-over : (a : ℤ) → quotient p (product p a b) b ≡ elem p a
    unfolding sum product opposite
    product-over a = sym (quotient-only (elem p (a *ℤ b)) a (sym (elem-elem p above (a *ℤ b))))

  -- the element of a sum or a product is the sum or the product of the elements
  pub element-of-sum : (a b : ℤ) → elem p (a +ℤ b) ≡ sum p (elem p a) (elem p b)
  unfolding sum product opposite
  element-of-sum a b = sym (add-elem p above (elem p a) b ∙ ap (elem p) (+ℤ_comm (elem p a) b) ∙ add-elem p above b a ∙ ap (elem p) (+ℤ_comm b a))

  pub element-of-product : (a b : ℤ) → elem p (a *ℤ b) ≡ product p (elem p a) (elem p b)
  unfolding sum product opposite
  element-of-product a b = sym (mul-elem p above (elem p a) b ∙ ap (elem p) (*ℤ_comm (elem p a) b) ∙ mul-elem p above b a ∙ ap (elem p) (*ℤ_comm b a))

  pub sum_left : (a b : ℤ) → sum p (elem p a) b ≡ sum p a b
  unfolding sum
  sum_left a b = ap (elem p) (+ℤ_comm (elem p a) b) ∙ add-elem p above b a ∙ ap (elem p) (+ℤ_comm b a)

  pub product-left : (a b : ℤ) → product p (elem p a) b ≡ product p a b
  unfolding product
  product-left a b = ap (elem p) (*ℤ_comm (elem p a) b) ∙ mul-elem p above b a ∙ ap (elem p) (*ℤ_comm b a)

  -- p divides no product of numbers that it does not divide
  pub no-zero-product : (a b : ℤ) → (res p a ≡ 0 → ⊥) → (res p b ≡ 0 → ⊥) → res p (a *ℤ b) ≡ 0 → ⊥
  no-zero-product a b ha hb e =
      omega (
        arith,
        product-pos p prime (res p a) (res p b) (pos_of_ne-zero (λ z. ha (sym (mod-eq_of_lt (res-lt p above a)) ∙ z))) (pos_of_ne-zero hb) (res-lt p above b),
        sym (res-mul p above a b) ∙ e,
      )

  -- so of elements: a product is 0 only where a factor is
  pub no-zero-divisors : (a b : ℤ) → (elem p a ≡ pos 0 → ⊥) → (elem p b ≡ pos 0 → ⊥) → product p a b ≡ pos 0 → ⊥
  unfolding product
  no-zero-divisors a b ha hb e =
      no-zero-product a b (λ z. ha (elem-zero p above a z)) (λ z. hb (elem-zero p above b z)) (zero-elem p above (a *ℤ b) e)

  -- a power is the element of the integers' power
  res-pow : (a : ℤ) (n : ℕ) → res p (pow a n) ≡ res p a ^ n % p
  unfolding pow one res
  res-pow a zero = ap (λ (k : ℕ). k % p) (sym (pow-zero (res p a)))
  res-pow a (suc n) =
      ap (res p) (pow-succ' a n)
      ∙ res-mul p above a (pow a n)
      ∙ ap (λ (k : ℕ). (res p a * k) % p) (res-pow a n)
      ∙ mul-mod-mod p (res p a) (res p a ^ n)
      ∙ ap (λ (k : ℕ). k % p) (sym (nat-pow-succ' (res p a) n))

  pub power-element : (a : ℤ) (n : ℕ) → power p a n ≡ elem p (pow a n)
  unfolding power elem
  power-element a n = ap (centre p) (sym (res-pow a n))

  -- a number that p does not divide times its inverse is 1
  pub inverse-times : (b : ℤ) → (res p b ≡ 0 → ⊥) → product p b (inverse p b) ≡ elem p (pos 1)
  unfolding product res
  inverse-times b k =
      elem-of-res p above _ _
      (res-mul p above b (inverse p b)
      ∙ ap (λ (n : ℕ). (res p b * n) % p) (res-inverse p prime b)
      ∙ inv_right p prime (res p b) (pos_of_ne-zero k) (res-lt p above b)
      ∙ sym (mod-eq_of_lt prime.above))

  -- and no other element has this
  pub inverse-only : (b y : ℤ) → (res p b ≡ 0 → ⊥) → product p y b ≡ elem p (pos 1) → elem p y ≡ inverse p b
  unfolding elem inverse product res
  inverse-only b y k e =
      ap (centre p)
      (inv_unique p prime (res p b) (res p y) (pos_of_ne-zero k) (res-lt p above b) (res-lt p above y)
      (sym (res-mul p above y b) ∙ sym (res-elem p above (y *ℤ b)) ∙ ap (res p) e ∙ res-elem p above (pos 1) ∙ mod-eq_of_lt prime.above))
