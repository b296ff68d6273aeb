-- `pass_classify::Classes::is_prover` meets its contract. Assumes nothing.
use mathlib.Core.Path.{refl}
use Rattle.pass_classify.proofs.Classes.is_prover.Goals as goal

pub returns : goal.returns
returns c = refl
