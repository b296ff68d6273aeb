use Rattle.std.proofs.Common.{◌≡◌, ◌≤◌, ◌∙◌, refl, arith, Bool, true, false, cond, subst, sym}
use mir.Val.{bool_byte}
use Rattle.test_report.specs.Lines.{takes}
use Rattle.test_report.proofs.line.taken.Goals as goal

as-number : (t : Bool) → bool_byte t ≡ cond t 1 0
as-number true = refl
as-number false = refl

at-most-one : (t : Bool) → bool_byte t ≤ 1
at-most-one true = omega arith
at-most-one false = omega arith

pub returns : goal.returns
unfolding takes
returns c = (c.from.ensures ∙ as-number _, subst (λ n. n ≤ 1) (sym c.from.ensures) (at-most-one _))
