-- `pass_copies::Substitutions::clear` meets its contract. Assumes nothing.
use mathlib.Core.Path.{refl}
use Rattle.pass_copies.specs.Substituted.{no_substitutions}
use Rattle.pass_copies.proofs.Substitutions.clear.Goals as goal

pub returns : goal.returns
unfolding no_substitutions
returns c = (refl, refl)
