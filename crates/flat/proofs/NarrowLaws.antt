-- What a flat list has for a constant: a signed 32-bit number with the same element, and the constant itself where that is one.
use mathlib.Core.Path.{◌≡◌, refl}
use mathlib.Core.Bool.{Bool, true, false, cond}
use Prim.Native.Nat.{ℕ, ◌<◌, ◌≤◌}
use native.Mathlib.Omega.{arith}
use lib.Dec.{ltb}
use lib.IntN.{ℤ, pos, negsuc, nat_abs}
use lib.Signed.{mag, lt_z}
use borrow.Author.Tests.{ltb-true, ltb-false, lt-ltb, le-ltb}
use mir.Syntax.{w32}
use mir.Val.{SFits}
use Rattle.field.specs.Prime.{P}
use Rattle.field.specs.Element.{elem}
use Rattle.field.proofs.Primality.{P-above}
use Rattle.field.proofs.Elements.{elem-elem, elem-range}
use Rattle.flat.specs.Narrow.{narrow}

-- elements fit
small-fits : (z : ℤ) → nat_abs z < 1073741824 → SFits w32 z
small-fits (pos n) l = record { sfits = omega arith }
small-fits (negsuc n) l = record { sfits = omega arith }

pub elem-fits : (z : ℤ) → SFits w32 (elem P z)
elem-fits z = small-fits (elem P z) (omega (arith, elem-range P (omega arith) z))

pub narrow-same : (z : ℤ) → SFits w32 z → narrow z ≡ z
unfolding narrow
narrow-same (pos n) f = rw (lt-ltb n 2147483648 f.sfits) refl
narrow-same (negsuc n) f = rw (lt-ltb n 2147483648 f.sfits) refl

pub narrow-wide : (z : ℤ) → 2147483648 ≤ mag z → narrow z ≡ elem P z
unfolding narrow
narrow-wide (pos n) l = rw (le-ltb n 2147483648 l) refl
narrow-wide (negsuc n) l = rw (le-ltb n 2147483648 l) refl

pub narrow-fits : (z : ℤ) → SFits w32 (narrow z)
unfolding narrow
narrow-fits z = by-sign z
  where
    chosen : (z : ℤ) (c : Bool) → ltb (mag z) 2147483648 ≡ c → SFits w32 (cond c z (elem P z))
    chosen z true e = record { sfits = ltb-true (mag z) 2147483648 e }
    chosen z false e = elem-fits z

    by-sign : (z : ℤ) → SFits w32 (narrow z)
    by-sign (pos n) = chosen (pos n) (ltb n 2147483648) refl
    by-sign (negsuc n) = chosen (negsuc n) (ltb n 2147483648) refl

pub narrow-element : (z : ℤ) → elem P (narrow z) ≡ elem P z
unfolding narrow
narrow-element z = by-sign z
  where
    chosen : (z : ℤ) (c : Bool) → elem P (cond c z (elem P z)) ≡ elem P z
    chosen z true = refl
    chosen z false = elem-elem P P-above z

    by-sign : (z : ℤ) → elem P (narrow z) ≡ elem P z
    by-sign (pos n) = chosen (pos n) (ltb n 2147483648)
    by-sign (negsuc n) = chosen (negsuc n) (ltb n 2147483648)

-- what the code tests
pub below-least : (z : ℤ) → lt_z z (negsuc 2147483647) ≡ true → 2147483648 ≤ mag z
below-least (pos n) e = let o : ◌≡◌ {A = ℕ} 0 1 = cc in absurd (omega arith)
below-least (negsuc n) e = omega (arith, ltb-true 2147483647 n e)

pub above-greatest : (z : ℤ) → lt_z (pos 2147483647) z ≡ true → 2147483648 ≤ mag z
above-greatest (pos n) e = omega (arith, ltb-true 2147483647 n e)
above-greatest (negsuc n) e = let o : ◌≡◌ {A = ℕ} 0 1 = cc in absurd (omega arith)

pub between : (z : ℤ) → lt_z z (negsuc 2147483647) ≡ false → lt_z (pos 2147483647) z ≡ false → SFits w32 z
between (pos n) e f = record { sfits = omega (arith, ltb-false 2147483647 n f) }
between (negsuc n) e f = record { sfits = omega (arith, ltb-false 2147483647 n e) }
