-- `source_check::nodes::Nodes::used_once` meets its contract. Assumes nothing. The answer names the fact by which another test is refused.
use Rattle.source_check.proofs.nodes.Nodes.used_once.Goals as goal

pub returns : goal.returns
returns c = c.all_once.ensures
