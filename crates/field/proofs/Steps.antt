-- What the proofs of the operations rest on, for the field's own prime. Assumes nothing.
use mathlib.Core.Path.{◌≡◌, refl, ap, ap₂, sym, subst, ◌∙◌}
use Prim.Native.Nat.{ℕ, ◌+◌, ◌*◌, ◌-◌, ◌%◌}
use native.Mathlib.Omega.{arith}
use Prim.Native.Nat.{suc, ◌^◌, ◌≤◌, ◌<◌}
use lib.IntN.{nat_abs, negsuc}
use Rattle.std.specs.Prelude.{Some, None, option_map}
use mathlib.Core.Bool.{Bool, true, false}
use lib.Dec.{T, eqb}
use lib.Signed.{lt_z}
use lib.IntN.{ℤ, pos}
pub use mir.Facts.{to_z-of_z}
use Rattle.field.specs.Prime.{P}
use Rattle.field.specs.Element.{res, centre, elem, inv}
use Rattle.field.specs.Operations.{pick, sum, difference, product, opposite, inverse, quotient, raised, power, whole_quotient}
use Rattle.field.specs.Operations.{checked_inverse, checked_quotient, inverse_of, divide_of, divide_z_of, int_divide_of, modulo_of, exponentiate_of, Answer}
use native.Mathlib.Decide.{ℕ_discrete}
use native.Mathlib.Nat.{pow-suc, mul-zero, zero-mul, pos_of_ne-zero}
use borrow.Author.Tests.{eq-eqb, ne_eqb, ltb-true}
use Rattle.field.proofs.Modular.{power_pos}
use Rattle.field.proofs.Elements.{abs-zero, res-lt, elem-range, elem-zero, zero-elem}
use Rattle.field.proofs.Primality.{P-prime}
use Rattle.field.proofs.ByResidues.{pick-zero, pick-else, res-power, quotient-res, sum-res, difference-res, product-res, opposite-res}

pub sum-is : (a b : ℤ) → sum P a b ≡ centre P ((res P a + res P b) % P)
sum-is = sum-res P (omega arith)

pub difference-is : (a b : ℤ) → difference P a b ≡ centre P ((res P a + (P - res P b)) % P)
difference-is = difference-res P (omega arith)

pub product-is : (a b : ℤ) → product P a b ≡ centre P ((res P a * res P b) % P)
product-is = product-res P (omega arith)

pub opposite-is : (a : ℤ) → opposite P a ≡ centre P ((P - res P a) % P)
opposite-is = opposite-res P (omega arith)

pub elem-is : (a : ℤ) → elem P a ≡ centre P (res P a)
unfolding elem
elem-is a = refl

-- by the inverse of a residue, where it has one
chosen : (b : Bool) (n : ℕ) (f : ℕ → ℤ) → pick b None (Some (f n)) ≡ option_map f (elim b [ true ↦ None | false ↦ Some n ])
chosen true n f = refl
chosen false n f = refl

pub inverse-is : (b : ℤ) → inverse_of P b ≡ option_map (centre P) (checked_inverse P (res P b))
unfolding checked_inverse inverse_of inverse
inverse-is b = chosen (eqb (res P b) 0) (inv P (res P b)) (centre P)

pub divide-is : (a b : ℤ) → divide_of P a b ≡ option_map (λ y. centre P ((res P a * y) % P)) (checked_inverse P (res P b))
unfolding checked_inverse divide_of
divide-is a b =
    ap (λ (z : ℤ). pick (eqb (res P b) 0) None (Some z)) (quotient-res P P-prime a b)
    ∙ chosen (eqb (res P b) 0) (inv P (res P b)) (λ y. centre P ((res P a * y) % P))

-- `|` of a dividend that stands for 0, and of another
zero-quotient : (a b : ℤ) → res P a ≡ 0 → quotient P a b ≡ pos 0
unfolding centre
zero-quotient a b e =
    quotient-res P P-prime a b
    ∙ ap (λ (k : ℕ). centre P ((k * inv P (res P b)) % P)) e
    ∙ ap (λ (k : ℕ). centre P (k % P)) (zero-mul (inv P (res P b)))

pub divide_z-zero : (a b : ℤ) → res P a ≡ 0 → divide_z_of P a b ≡ Some (pos 0)
unfolding divide_z_of
divide_z-zero a b e =
    ap₂ (λ (x : Answer) (z : ℤ). pick (eqb (res P b) 0) x (Some z)) (pick-zero (res P a) _ _ e) (zero-quotient a b e)
    ∙ go (eqb (res P b) 0)
  where
    go : (t : Bool) → pick t (Some (pos 0)) (Some (pos 0)) ≡ Some (pos 0)
    go true = refl
    go false = refl

pub divide_z-else : (a b : ℤ) → (res P a ≡ 0 → ⊥) → divide_z_of P a b ≡ divide_of P a b
unfolding divide_z_of divide_of
divide_z-else a b h = ap (λ (x : Answer). pick (eqb (res P b) 0) x (Some (quotient P a b))) (pick-else (res P a) _ _ h)

-- of the elements' quotient, where it has one
quotient-chosen : (b : ℤ) (z : ℤ) (f : ℤ → ℤ) → pick (eqb (res P b) 0) None (Some (f z)) ≡ option_map f (pick (eqb (nat_abs (elem P b)) 0) None (Some z))
quotient-chosen b z f = go (ℕ_discrete (res P b) 0)
  where
    go : Dec (res P b ≡ 0) → pick (eqb (res P b) 0) None (Some (f z)) ≡ option_map f (pick (eqb (nat_abs (elem P b)) 0) None (Some z))
    go (yes e) = pick-zero _ _ _ e ∙ sym (ap (option_map f) (pick-zero _ _ _ (ap nat_abs (elem-zero P (omega arith) b e))))
    go (no h) = pick-else _ _ _ h ∙ sym (ap (option_map f) (pick-else _ _ _ (λ e. h (zero-elem P (omega arith) b (abs-zero _ e)))))

pub int_divide-is : (a b : ℤ) → int_divide_of P a b ≡ option_map (elem P) (checked_quotient (elem P a) (elem P b))
unfolding int_divide_of checked_quotient
int_divide-is a b = quotient-chosen b (whole_quotient (elem P a) (elem P b)) (elem P)

pub modulo-is : (a b : ℤ)
    → modulo_of P a b ≡ option_map (λ q. difference P (elem P a) (product P (elem P b) q)) (checked_quotient (elem P a) (elem P b))
unfolding modulo_of checked_quotient
modulo-is a b = quotient-chosen b (whole_quotient (elem P a) (elem P b)) (λ q. difference P (elem P a) (product P (elem P b) q))

-- a divisor that stands for 0
pub int_divide-none : (a b : ℤ) → elem P b ≡ pos 0 → int_divide_of P a b ≡ None
unfolding int_divide_of
int_divide-none a b e = pick-zero (res P b) _ _ (zero-elem P (omega arith) b e)

pub modulo-none : (a b : ℤ) → elem P b ≡ pos 0 → modulo_of P a b ≡ None
unfolding modulo_of
modulo-none a b e = pick-zero (res P b) _ _ (zero-elem P (omega arith) b e)

pub element-small : (a : ℤ) → nat_abs (elem P a) ≤ 1073741823
element-small = elem-range P (omega arith)

-- of the power, or of its inverse where it has one
zero-power : (b : ℕ) → b < P → (n : ℕ) → Dec (b ≡ 0) → eqb b 0 ≡ eqb (b ^ suc n % P) 0
zero-power b l n (yes e) = eq-eqb b 0 e ∙ sym (eq-eqb _ 0 (ap (λ (k : ℕ). k ^ suc n % P) e ∙ ap (λ (k : ℕ). k % P) (pow-suc 0 n ∙ mul-zero (0 ^ n))))
zero-power b l n (no h) = ne_eqb b 0 h ∙ sym (ne_eqb _ 0 (λ e. omega (arith, e, power_pos P P-prime b (suc n) (pos_of_ne-zero h) l)))

raised-below : (a : ℤ) (n : ℕ) → raised P a (negsuc n) ≡ option_map (centre P) (checked_inverse P (res P a ^ suc n % P))
unfolding raised checked_inverse inverse
raised-below a n =
    ap₂ (λ (t : Bool) (z : ℤ). pick t None (Some z)) (zero-power (res P a) (res-lt P (omega arith) a) n (ℕ_discrete (res P a) 0))
    (ap (λ (k : ℕ). centre P (inv P k)) (res-power P P-prime a (suc n)))
    ∙ chosen (eqb (res P a ^ suc n % P) 0) (inv P (res P a ^ suc n % P)) (centre P)

pub below-is : (a b : ℤ) → lt_z (elem P b) (pos 0) ≡ true
    → exponentiate_of P a b ≡ option_map (centre P) (checked_inverse P (res P a ^ nat_abs (elem P b) % P))
unfolding exponentiate_of
below-is a b e = go (elem P b) e
  where
    go : (z : ℤ) → lt_z z (pos 0) ≡ true → raised P a z ≡ option_map (centre P) (checked_inverse P (res P a ^ nat_abs z % P))
    go (pos n) e = absurd (omega (arith, ltb-true n 0 e))
    go (negsuc n) e = raised-below a n

-- a negative power of what stands for 0
pub below-none : (a b : ℤ) → lt_z (elem P b) (pos 0) ≡ true → res P a ≡ 0 → exponentiate_of P a b ≡ None
unfolding exponentiate_of raised
below-none a b e z = go (elem P b) e
  where
    go : (n : ℤ) → lt_z n (pos 0) ≡ true → raised P a n ≡ None
    go (pos n) e = absurd (omega (arith, ltb-true n 0 e))
    go (negsuc n) e = pick-zero (res P a) _ _ z

pub above-is : (a b : ℤ) → lt_z (elem P b) (pos 0) ≡ false → exponentiate_of P a b ≡ Some (centre P (res P a ^ nat_abs (elem P b) % P))
unfolding exponentiate_of raised power
above-is a b e = go (elem P b) e
  where
    go : (z : ℤ) → lt_z z (pos 0) ≡ false → raised P a z ≡ Some (centre P (res P a ^ nat_abs z % P))
    go (pos n) e = refl
    go (negsuc n) e = absurd (subst T e tt)

-- a signed number read back from its bits, and the operations by residues
pub ruleset steps = (
  to_z-of_z,
  sum-is,
  difference-is,
  product-is,
  opposite-is,
  elem-is,
  inverse-is,
  divide-is,
  int_divide-is,
  modulo-is,
  int_divide-none,
  modulo-none,
  element-small,
  below-is,
  below-none,
  above-is,
)
