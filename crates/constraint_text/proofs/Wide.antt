-- A signed 32-bit number in 64 bits.
use Rattle.std.proofs.Common.{◌≡◌, ◌<◌, ◌^◌, ℤ, ap, ◌∙◌, arith}
use mathlib.Core.Path.{subst⁻¹}
use Rattle.std.specs.Fmt.{signed_decimal}
use lib.Signed.{mag}
use mir.Syntax.{w32, w64}
use mir.Val.{SFits, to_z, of_z}
use mir.Facts.{to_z-of_z}
use Rattle.field.specs.Prime.{P}
use Rattle.field.specs.Element.{elem}
use Rattle.constraint_text.specs.Text.{number_text}
use Rattle.constraint_text.proofs.Decimal.{signed-digits}

-- the digits of the element of a number that went through 64 bits
pub element-digits : (z x e : ℤ) → mag z < 2 ^ 31 → x ≡ to_z w32 (of_z w32 z) → mag e < 2 ^ 63 → e ≡ elem P (to_z w64 (of_z w64 x)) →
    signed_decimal (to_z w64 (of_z w64 e)) ≡ number_text (elem P z)
element-digits z x e f k g h =
    let same : x ≡ z = k ∙ to_z-of_z {w = w32} (record { sfits = f }) in
    let wide : SFits w64 x = subst⁻¹ (SFits w64) same (record { sfits = omega (arith, f) }) in
    ap signed_decimal (to_z-of_z {w = w64} (record { sfits = g })) ∙ signed-digits e g ∙ ap number_text (h ∙ ap (elem P) (to_z-of_z wide ∙ same))
