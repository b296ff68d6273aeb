-- `source_check::nodes::Nodes::use_item` meets its contract. Assumes nothing.
use Rattle.source.specs.Nodes.{item_fits, pattern_fits, expression_fits}
use Rattle.source_check.specs.Marks.{is_of, sort_fits}
use Rattle.std.proofs.Common.{inl, inr}
use Rattle.source_check.proofs.nodes.Nodes.use_item.Goals as goal

pub returns-in-Parameters : goal.returns-in-Parameters
unfolding item_fits pattern_fits sort_fits is_of
returns-in-Parameters c = elim c.in-Parameters.is [ inl e ↦ rw e c.use_node.ensures | inr e ↦ rw e c.use_node.ensures ]

pub returns-in-Items : goal.returns-in-Items
unfolding item_fits expression_fits sort_fits is_of
returns-in-Items c = rw c.in-Items.is c.use_node-in-Items.ensures
