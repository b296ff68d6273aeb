-- What the proofs of the operations share: a residue that a call returned, its range, and an element that a call returned.
-- Assumes nothing.
use mathlib.Core.Path.{◌≡◌, ap, ap₂, ◌∙◌}
use Prim.Native.Nat.{ℕ, ◌*◌, ◌<◌, ◌≤◌, ◌^◌}
use native.Mathlib.Nat.{mul-le-mul}
use native.Mathlib.Omega.{arith}
use lib.IntN.{ℤ}
use lib.Signed.{mag}
use mir.Syntax.{w64}
use mir.Val.{SFits}
use mir.Facts.{to_z-of_z}
use Rattle.field.specs.Prime.{P}
use Rattle.field.specs.Element.{res}
use Rattle.field.proofs.Elements.{res-lt}
use Rattle.field.proofs.Signed.{back}

-- a function of a number that was passed to a call is that of the number
pub passed : {A : Type 0} (f : ℤ → A) {r : A} (x : ℤ) → SFits w64 x → r ≡ f (back x) → r ≡ f x
passed f x h e = e ∙ ap f (to_z-of_z h)

pub passed2 : {A : Type 0} (f : ℤ → ℤ → A) {r : A} (x y : ℤ) → SFits w64 x → SFits w64 y → r ≡ f (back x) (back y) → r ≡ f x y
passed2 f x y h k e = e ∙ ap₂ f (to_z-of_z h) (to_z-of_z k)

-- a number that a call returned
pub returned : {y : ℤ} (z : ℤ) → mag z < 2 ^ 63 → z ≡ y → back z ≡ y
returned z h e = to_z-of_z {w = w64} (record { sfits = h }) ∙ e

pub below-P : {r : ℕ} (x : ℤ) → r ≡ res P x → r < P
below-P x e = omega (arith, e, res-lt P (omega arith) x)

-- the product of two residues fits
pub product_small : {a b : ℕ} → a < P → b < P → a * b < 2 ^ 62
product_small {a} {b} ha hb = let x : a ≤ 2147483646 = omega arith in let y : b ≤ 2147483646 = omega arith in omega (arith, mul-le-mul x y)
