-- The laws of residues: sums, products and powers modulo p, for any p; inverses, for any prime p.
use mathlib.Core.Path.{◌≡◌, sym, ap, subst, ◌∙◌}
use mathlib.Core.Bool.{Bool, true, false}
use Prim.Native.Nat.{ℕ, zero, suc, ◌+◌, ◌*◌, ◌/◌, ◌%◌, ◌-◌, ◌^◌, ◌<◌, ◌≤◌}
use native.Mathlib.Nat.{zero-mul, zero-mod, pow-zero, pow-suc, pow-succ', mul-one, one-mul, mul_comm, mul_assoc, mod-lt, mod-eq_of_lt, mod-add-div}
use native.Mathlib.Nat.{div-add-mod, add-mul-mod_self_left, div-le_self, pos_of_ne-zero, le_trans, le_refl, lt_trans, not-suc-le-zero}
use native.Mathlib.Omega.{arith}
use native.Mathlib.Decide.{dec_lt}
use borrow.Author.Tests.{le-leb, lt-leb}
use Rattle.field.specs.Prime.{Prime}
use Rattle.field.specs.Element.{inv, inv_from}

-- two numbers that differ by multiples of p have one residue
pub mod-eq : (p u v i j : ℕ) → u + p * i ≡ v + p * j → u % p ≡ v % p
mod-eq p u v i j e = sym (add-mul-mod_self_left u p i) ∙ ap (λ (n : ℕ). n % p) e ∙ add-mul-mod_self_left v p j

pub mod-mul-mod : (p a b : ℕ) → (a % p * b) % p ≡ (a * b) % p
mod-mul-mod p a b = mod-eq p (a % p * b) (a * b) (a / p * b) 0 (omega (arith, ap (λ (n : ℕ). n * b) (mod-add-div a p)))

pub mul-mod-mod : (p a b : ℕ) → (a * (b % p)) % p ≡ (a * b) % p
mul-mod-mod p a b = ap (λ (n : ℕ). n % p) (mul_comm a (b % p)) ∙ mod-mul-mod p b a ∙ ap (λ (n : ℕ). n % p) (mul_comm b a)

-- a power of a residue, and the two steps of a power by squares
pub pow-mod : (p b n : ℕ) → ((b % p) ^ n) % p ≡ (b ^ n) % p
pow-mod p b zero = ap (λ (k : ℕ). k % p) (pow-zero (b % p) ∙ sym (pow-zero b))
pow-mod p b (suc n) =
    ap (λ (k : ℕ). k % p) (pow-suc (b % p) n)
    ∙ mul-mod-mod p ((b % p) ^ n) b
    ∙ sym (mod-mul-mod p ((b % p) ^ n) b)
    ∙ ap (λ (k : ℕ). (k * b) % p) (pow-mod p b n)
    ∙ mod-mul-mod p (b ^ n) b
    ∙ ap (λ (k : ℕ). k % p) (sym (pow-suc b n))

square-pow : (b k : ℕ) → (b * b) ^ k ≡ b ^ (k + k)
square-pow b zero = pow-zero (b * b) ∙ sym (pow-zero b)
square-pow b (suc k) =
    pow-suc (b * b) k
    ∙ ap (λ (n : ℕ). n * (b * b)) (square-pow b k)
    ∙ sym (mul_assoc (b ^ (k + k)) b b)
    ∙ ap (λ (n : ℕ). n * b) (sym (pow-suc b (k + k)))
    ∙ sym (pow-suc b (suc (k + k)))
    ∙ ap (λ (n : ℕ). b ^ n) (omega arith)

squared : (p a b k : ℕ) → (a * (b * b % p) ^ k) % p ≡ (a * b ^ (k + k)) % p
squared p a b k =
    sym (mul-mod-mod p a ((b * b % p) ^ k))
    ∙ ap (λ (n : ℕ). (a * n) % p) (pow-mod p (b * b) k)
    ∙ mul-mod-mod p a ((b * b) ^ k)
    ∙ ap (λ (n : ℕ). (a * n) % p) (square-pow b k)

pub turn_even : (p a b e : ℕ) → e % 2 ≡ 0 → (a * (b * b % p) ^ (e / 2)) % p ≡ (a * b ^ e) % p
turn_even p a b e h = squared p a b (e / 2) ∙ ap (λ (n : ℕ). (a * b ^ n) % p) (omega arith)

pub turn_odd : (p a b e : ℕ) → e % 2 ≡ 1 → ((a * b % p) * (b * b % p) ^ (e / 2)) % p ≡ (a * b ^ e) % p
turn_odd p a b e h =
    mod-mul-mod p (a * b) ((b * b % p) ^ (e / 2))
    ∙ squared p (a * b) b (e / 2)
    ∙ ap (λ (n : ℕ). n % p) (mul_assoc a b (b ^ (e / 2 + e / 2)) ∙ ap (λ (n : ℕ). a * n) (sym (pow-succ' b (e / 2 + e / 2))))
    ∙ ap (λ (n : ℕ). (a * b ^ n) % p) (omega arith)

-- b times (p - p / b) has the residue p % b, also with a factor x
pub down : (p b x : ℕ) → (b * ((p - p / b) * x)) % p ≡ (p % b * x) % p
down p b x =
    mod-eq p (b * ((p - p / b) * x)) (p % b * x) x (b * x)
    (let s : ℕ = p - p / b in
    let e : s + p / b ≡ p = omega (arith, div-le_self p b) in
    let f : b * s + b * (p / b) ≡ b * p = omega (arith, ap (λ (n : ℕ). b * n) e) in
    let g : b * s + p ≡ b * p + p % b = omega (arith, f, div-add-mod p b) in
    omega (arith, ap (λ (n : ℕ). n * x) g))

inv-step : (p f b : ℕ) → 1 < b → inv_from p (suc f) b ≡ (p - p / b) * inv_from p f (p % b) % p
unfolding inv_from
inv-step p f b h = ap (λ (t : Bool). elim t as (λ _. ℕ) [ true ↦ b | false ↦ (p - p / b) * inv_from p f (p % b) % p ]) (lt-leb b 1 h)

inv-stop : (p f b : ℕ) → b ≤ 1 → inv_from p (suc f) b ≡ b
unfolding inv_from
inv-stop p f b h = ap (λ (t : Bool). elim t as (λ _. ℕ) [ true ↦ b | false ↦ (p - p / b) * inv_from p f (p % b) % p ]) (le-leb b 1 h)

module _ (p : ℕ) (prime : Prime p) where
  inv-turns : (f b : ℕ) → 0 < b → b < p → b ≤ f → (b * inv_from p f b) % p ≡ 1
  inv-turns zero b h l e = absurd (not-suc-le-zero (le_trans h e))
  inv-turns (suc f) b h l e = go (inv-turns f (p % b)) (dec_lt 1 b)
    where
      go : (0 < p % b → p % b < p → p % b ≤ f → (p % b * inv_from p f (p % b)) % p ≡ 1) → Dec (1 < b) → (b * inv_from p (suc f) b) % p ≡ 1
      go ih (yes s) =
          rw (inv-step p f b s, mul-mod-mod, down p b)
          (ih (pos_of_ne-zero (prime.only b s l)) (lt_trans (mod-lt p h) l) (omega (arith, mod-lt p {m = b} h)))
      go ih (no s) =
          let one : b ≡ 1 = omega arith in
          rw (inv-stop p f b (omega arith), one) (mod-eq_of_lt prime.above)

  -- an inverse is below p, and b times it has the residue 1
  inv-turns-lt : (f b : ℕ) → b < p → inv_from p f b < p
  unfolding inv_from
  inv-turns-lt zero b l = omega arith
  inv-turns-lt (suc f) b l = go (dec_lt 1 b)
    where
      go : Dec (1 < b) → inv_from p (suc f) b < p
      go (yes s) = rw (inv-step p f b s) (mod-lt _ (omega (arith, prime.above)))
      go (no s) = rw (inv-stop p f b (omega arith)) l

  pub inv-lt : (b : ℕ) → b < p → inv p b < p
  unfolding inv
  inv-lt b l = inv-turns-lt b b l

  pub inv_right : (b : ℕ) → 0 < b → b < p → (b * inv p b) % p ≡ 1
  unfolding inv
  inv_right b h l = inv-turns b b h l (le_refl b)

  -- the one y below p with y * b of the residue of a is a * inv b
  pub quotient-unique : (a b y : ℕ) → 0 < b → b < p → y < p → (y * b) % p ≡ a % p → y ≡ (a * inv p b) % p
  quotient-unique a b y h l m e =
      sym (mod-eq_of_lt m)
      ∙ ap (λ (n : ℕ). n % p) (sym (mul-one y))
      ∙ ap (λ (n : ℕ). (y * n) % p) (sym (inv_right b h l))
      ∙ mul-mod-mod p y (b * inv p b)
      ∙ ap (λ (n : ℕ). n % p) (sym (mul_assoc y b (inv p b)))
      ∙ sym (mod-mul-mod p (y * b) (inv p b))
      ∙ ap (λ (n : ℕ). (n * inv p b) % p) e
      ∙ mod-mul-mod p a (inv p b)

  pub quotient-right : (a b : ℕ) → 0 < b → b < p → ((a * inv p b) % p * b) % p ≡ a % p
  quotient-right a b h l =
      mod-mul-mod p (a * inv p b) b
      ∙ ap (λ (n : ℕ). n % p) (mul_assoc a (inv p b) b ∙ ap (λ (n : ℕ). a * n) (mul_comm (inv p b) b))
      ∙ sym (mul-mod-mod p a (b * inv p b))
      ∙ ap (λ (n : ℕ). (a * n) % p) (inv_right b h l)
      ∙ ap (λ (n : ℕ). n % p) (mul-one a)

  pub inv_unique : (b y : ℕ) → 0 < b → b < p → y < p → (y * b) % p ≡ 1 → y ≡ inv p b
  inv_unique b y h l m e =
      quotient-unique 1 b y h l m (e ∙ sym (mod-eq_of_lt prime.above))
      ∙ ap (λ (n : ℕ). n % p) (one-mul (inv p b))
      ∙ mod-eq_of_lt (inv-lt b l)

  -- no product of numbers that p does not divide has the residue 0, and no power of one
  pub product-pos : (x b : ℕ) → 0 < x % p → 0 < b → b < p → 0 < (x * b) % p
  product-pos x b k h l =
      pos_of_ne-zero
      (λ z.
      let e : x % p ≡ (0 * inv p b) % p =
      quotient-unique 0 b (x % p) h l (mod-lt x (omega (arith, prime.above))) (mod-mul-mod p x b ∙ z ∙ sym (zero-mod p)) in
      omega (arith, e ∙ ap (λ (n : ℕ). n % p) (zero-mul (inv p b)) ∙ zero-mod p))

  pub power_pos : (b n : ℕ) → 0 < b → b < p → 0 < (b ^ n) % p
  power_pos b zero h l = omega (arith, ap (λ (k : ℕ). k % p) (pow-zero b) ∙ mod-eq_of_lt prime.above)
  power_pos b (suc n) h l = subst (λ (k : ℕ). 0 < k % p) (sym (pow-suc b n)) (product-pos (b ^ n) b (power_pos b n h l) h l)
