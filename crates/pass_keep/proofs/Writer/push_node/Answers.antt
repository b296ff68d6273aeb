-- `pass_keep::Writer::push_node` meets its contract. Assumes nothing.
use mathlib.Core.Path.{refl}
use Rattle.pass_keep.proofs.Writer.push_node.Goals as goal

pub returns : goal.returns
returns c = record { list-is = c.put_node.ensures; root_is = refl; next-is = refl; body_is = refl; at_is = refl; lent = refl }
