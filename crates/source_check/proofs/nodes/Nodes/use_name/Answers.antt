-- `source_check::nodes::Nodes::use_name` meets its contract. Assumes nothing.
use Rattle.std.proofs.lemmas.Bool.{lt-ltb, le-ltb}
use Rattle.records.specs.declared.refusals.Refusal.{Refusal}
use Rattle.source_check.proofs.Marks.{accepts, refuses}
use Rattle.source_check.proofs.nodes.Nodes.use_name.Goals as goal

pub returns-then-v-self : goal.returns-then-v-self
returns-then-v-self c = accepts Refusal.Entry _ (lt-ltb _ _ c.if-v-self.true)

pub returns-else-v-self : goal.returns-else-v-self
returns-else-v-self c = refuses Refusal.Entry _ (le-ltb _ _ c.if-v-self.false)
