-- `pass_copies::Substitutions::new` meets its contract. Assumes nothing.
use mathlib.Core.Path.{refl}
use Rattle.pass_copies.specs.Substituted.{no_substitutions}
use Rattle.pass_copies.proofs.Substitutions.new.Goals as goal

pub returns : goal.returns
unfolding no_substitutions
returns c = (refl, refl)
