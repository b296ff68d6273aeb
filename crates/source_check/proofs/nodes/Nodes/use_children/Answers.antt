-- `source_check::nodes::Nodes::use_children` meets its contract. Assumes nothing.
use mathlib.Core.Path.{ap}
use Rattle.std.specs.Prelude.{Some}
use Rattle.source.specs.declared.Node.{Node}
use Rattle.source.specs.Nodes.{children_of}
use Rattle.source_check.proofs.Lists.{uses-none}
use Rattle.source_check.proofs.nodes.Nodes.use_children.Goals as goal

pub returns-in-Expression : goal.returns-in-Expression
returns-in-Expression c = rw c.in-Expression.is c.use_form.ensures

pub returns-in-Pattern : goal.returns-in-Pattern
returns-in-Pattern c = rw c.in-Pattern.is c.use_shape.ensures

pub returns-in-Link : goal.returns-in-Link
returns-in-Link c = uses-none c.args.self.now (ap (λ (n : Node). children_of (Some n)) c.in-Link.is)
