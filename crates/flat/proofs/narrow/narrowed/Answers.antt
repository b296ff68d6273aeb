-- `flat::narrow::narrowed` meets its contract. Assumes nothing.
use mathlib.Core.Path.{◌≡◌, subst, sym, ◌∙◌}
use mathlib.Core.Bool.{true, false}
use lib.IntN.{ℤ, pos, negsuc}
use lib.Signed.{lt_z}
use mir.Facts.{to_z-of_z}
use Rattle.field.specs.Prime.{P}
use Rattle.field.specs.Element.{elem}
use Rattle.field.proofs.Calls.{passed, returned}
use Rattle.flat.proofs.NarrowLaws.{narrow-same, narrow-wide, below-least, above-greatest, between}
use Rattle.flat.proofs.narrow.narrowed.Goals as goal

pub returns-then-z-lt-LEAST : goal.returns-then-z-lt-LEAST
returns-then-z-lt-LEAST c =
    let z = c.args.z in
    let low : lt_z z (negsuc 2147483647) ≡ true = subst (λ (v : ℤ). lt_z v (negsuc 2147483647) ≡ true) (to_z-of_z c.ranges.z) c.if-z-lt-LEAST.true in
    returned _ c.canonical.type_inv (passed (elem P) z c.ranges.z c.canonical.ensures) ∙ sym (narrow-wide z (below-least z low))

pub returns-then-z-gt-GREATEST : goal.returns-then-z-gt-GREATEST
returns-then-z-gt-GREATEST c =
    let z = c.args.z in
    let high : lt_z (pos 2147483647) z ≡ true = subst (λ (v : ℤ). lt_z (pos 2147483647) v ≡ true) (to_z-of_z c.ranges.z) c.if-z-gt-GREATEST.true in
    returned _ c.canonical-then-z-gt-GREATEST.type_inv (passed (elem P) z c.ranges.z c.canonical-then-z-gt-GREATEST.ensures)
    ∙ sym (narrow-wide z (above-greatest z high))

pub returns : goal.returns
returns c =
    let z = c.args.z in
    let same = to_z-of_z c.ranges.z in
    let low : lt_z z (negsuc 2147483647) ≡ false = subst (λ (v : ℤ). lt_z v (negsuc 2147483647) ≡ false) same c.if-z-lt-LEAST.false in
    let high : lt_z (pos 2147483647) z ≡ false = subst (λ (v : ℤ). lt_z (pos 2147483647) v ≡ false) same c.if-z-gt-GREATEST.false in
    same ∙ sym (narrow-same z (between z low high))
