-- `pass_3ac::Writer::place_term` meets its contract. Assumes nothing.
use mathlib.Core.Path.{refl}
use Rattle.pass_3ac.proofs.Placing.{placed-new, placed-given}
use Rattle.pass_3ac.proofs.Writer.place_term.Goals as goal

pub returns-in_default : goal.returns-in_default
returns-in_default c =
    let w = placed-new _ _ _ _ _ _ c.in_default.is in
    record { body_is = w.0; cut_is = w.1; same_place = refl; lent = refl }

pub returns : goal.returns
returns c =
    let w = placed-given _ _ _ _ _ _ c.in-Some.is (c.equality.ensures _ c.copy.ensures) c.put_equality.ensures in
    record { body_is = w.0; cut_is = w.1; same_place = refl; lent = refl }
