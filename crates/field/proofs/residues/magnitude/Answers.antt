-- `field::residues::magnitude` meets its contract. Assumes nothing.
use mathlib.Core.Path.{◌≡◌, ap, ◌∙◌}
use Prim.Native.Nat.{ℕ, ◌-◌, ◌<◌, ◌^◌}
use native.Mathlib.Omega.{arith}
use lib.IntN.{ℤ, negsuc, nat_abs}
use lib.Signed.{mag}
use mir.Syntax.{w64}
use mir.Val.{SFits, of_z, to_z}
use Rattle.std.proofs.lemmas.Int.{ints}
use Rattle.field.proofs.Signed.{negative, positive, read}
use Rattle.field.proofs.residues.magnitude.Goals as goal

flipped : (m : ℕ) → m < 2 ^ 63 → nat_abs (to_z w64 (18446744073709551615 - of_z w64 (negsuc m))) ≡ m
flipped m l = omega (arith, ints, l)

below : (x : ℤ) → SFits w64 x → x ≡ negsuc (mag x) → nat_abs (to_z w64 (18446744073709551615 - of_z w64 x)) ≡ mag x
below x f e = ap (λ (z : ℤ). nat_abs (to_z w64 (18446744073709551615 - of_z w64 z))) e ∙ flipped (mag x) f.sfits

pub returns-then-x-lt0 : goal.returns-then-x-lt0
returns-then-x-lt0 c = below _ c.ranges.x (negative _ c.ranges.x c.if-x-lt0.true)

pub returns-else-x-lt0 : goal.returns-else-x-lt0
returns-else-x-lt0 c = read _ _ (positive _ c.ranges.x c.if-x-lt0.false) c.ranges.x.sfits
