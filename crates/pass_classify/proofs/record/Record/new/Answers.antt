-- `pass_classify::record::Record::new` meets its contract. Assumes nothing.
use mathlib.Core.Path.{refl}
use Rattle.pass_classify.proofs.record.Record.new.Goals as goal

pub invariant_of-result : goal.invariant_of-result
invariant_of-result c = record { readable = c.requires; laid = c.layout_of.ensures }

pub returns : goal.returns
returns c = refl
