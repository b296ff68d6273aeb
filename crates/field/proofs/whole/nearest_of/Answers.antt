-- `field::whole::nearest_of` meets its contract. Assumes nothing.
use mathlib.Core.Path.{refl}
use Rattle.field.specs.Operations.{nearest}
use Rattle.field.proofs.Rounding.{nearest-le}
use Rattle.field.proofs.whole.nearest_of.Goals as goal

pub returns-clause-value : goal.returns-clause-value
unfolding nearest
returns-clause-value c = refl

pub returns-clause-upper_bound : goal.returns-clause-upper_bound
unfolding nearest
returns-clause-upper_bound c = nearest-le c.args.m c.args.d c.requires.2
