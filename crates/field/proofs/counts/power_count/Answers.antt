-- `field::counts::power_count` meets its contract. Assumes nothing.
use mathlib.Core.Path.{ap, sym, ◌∙◌}
use native.Mathlib.Omega.{arith}
use Rattle.field.specs.Counts.{power_count}
use Rattle.field.proofs.Counting.{power-count-zero, count-is, count-above}
use Rattle.field.proofs.counts.power_count.Goals as goal

pub returns-in_default : goal.returns-in_default
returns-in_default c = sym (ap power_count c.in_default.ensures.none ∙ power-count-zero)

pub overflow_sub-highest : goal.overflow_sub-highest
overflow_sub-highest c = omega (arith, count-above _ _ c.in-Some.ensures.power_le)

pub returns : goal.returns
returns c = c.from.ensures ∙ count-is _ _ c.in-Some.ensures.power_le c.in-Some.ensures.next_power_gt
