-- The operations by the residues of their operands, and answers by their case: what the proofs of the code use.
use mathlib.Core.Path.{◌≡◌, ap, ◌∙◌}
use mathlib.Core.Bool.{Bool}
use Prim.Native.Nat.{ℕ, suc, ◌+◌, ◌*◌, ◌-◌, ◌^◌, ◌%◌, ◌<◌}
use native.Mathlib.Nat.{mod-lt}
use native.Mathlib.Omega.{arith}
use lib.Dec.{eqb}
use borrow.Author.Tests.{eq-eqb, ne_eqb}
use lib.IntN.{ℤ, pos, negsuc}
use Rattle.std.specs.Prelude.{Some, None}
use Rattle.field.specs.Prime.{Prime}
use Rattle.field.specs.Element.{res, centre, inv}
use Rattle.field.specs.Operations.{pick, sum, difference, product, opposite, inverse, quotient, power, raised, Answer}
use Rattle.field.proofs.Modular.{inv-lt}
use Rattle.field.proofs.Elements.{res-lt, res-centre, elem-add, elem-sub, elem-mul, elem-opp}

module _ (p : ℕ) (h : 0 < p) where
  -- by the residues
  pub sum-res : (a b : ℤ) → sum p a b ≡ centre p ((res p a + res p b) % p)
  unfolding sum
  sum-res a b = elem-add p h a b

  pub difference-res : (a b : ℤ) → difference p a b ≡ centre p ((res p a + (p - res p b)) % p)
  unfolding difference
  difference-res a b = elem-sub p h a b

  pub product-res : (a b : ℤ) → product p a b ≡ centre p ((res p a * res p b) % p)
  unfolding product
  product-res a b = elem-mul p h a b

  pub opposite-res : (a : ℤ) → opposite p a ≡ centre p ((p - res p a) % p)
  unfolding opposite
  opposite-res a = elem-opp p h a

-- an answer that goes by whether a residue is 0
pub pick-zero : (r : ℕ) (x y : Answer) → r ≡ 0 → pick (eqb r 0) x y ≡ x
pick-zero r x y e = ap (λ (t : Bool). pick t x y) (eq-eqb r 0 e)

pub pick-else : (r : ℕ) (x y : Answer) → (r ≡ 0 → ⊥) → pick (eqb r 0) x y ≡ y
pick-else r x y h = ap (λ (t : Bool). pick t x y) (ne_eqb r 0 h)

-- a power by the sign of its exponent
pub power-above : (p : ℕ) (a n : ℤ) (m : ℕ) → n ≡ pos m → raised p a n ≡ Some (power p a m)
unfolding raised
power-above p a n m e = ap (raised p a) e

pub power_below : (p : ℕ) (a n : ℤ) (m : ℕ) → n ≡ negsuc m → raised p a n ≡ pick (eqb (res p a) 0) None (Some (inverse p (power p a (suc m))))
unfolding raised
power_below p a n m e = ap (raised p a) e

module _ (p : ℕ) (prime : Prime p) where
  positive : 0 < p
  positive = omega (arith, prime.above)

  pub res-inverse : (b : ℤ) → res p (inverse p b) ≡ inv p (res p b)
  unfolding inverse
  res-inverse b = res-centre p positive _ (inv-lt p prime _ (res-lt p positive b))

  pub quotient-res : (a b : ℤ) → quotient p a b ≡ centre p ((res p a * inv p (res p b)) % p)
  unfolding quotient
  quotient-res a b = product-res p positive a (inverse p b) ∙ ap (λ (n : ℕ). centre p ((res p a * n) % p)) (res-inverse b)

  pub res-power : (a : ℤ) (n : ℕ) → res p (power p a n) ≡ res p a ^ n % p
  unfolding power
  res-power a n = res-centre p positive _ (mod-lt _ positive)
