-- `source_check::nodes::Nodes::read_expressions` meets its contract. Assumes nothing.
use native.Mathlib.Omega.{arith}
use mathlib.Core.Path.{◌≡◌}
use Prim.Native.Nat.{◌<◌}
use Rattle.source.specs.Nodes.{expressions_fit, expression_fits}
use Rattle.source.specs.Uses.{by_expressions}
use Rattle.source_check.specs.Marks.{is_of, sort_fits}
use Rattle.source_check.proofs.Lists.{all-none, all-more, all-stops, all-done}
use Rattle.source_check.proofs.nodes.Nodes.read_expressions.Goals as goal

pub loop-k-init : goal.loop-k-init
unfolding expressions_fit by_expressions
loop-k-init c = all-none _ _

pub returns-in_err-use_node : goal.returns-in_err-use_node
unfolding expressions_fit by_expressions expression_fits sort_fits is_of
returns-in_err-use_node c =
    let l : c.loop-k.k < c.args.n = omega arith in
    all-stops _ _ _ c.loop-k.k l (rw c.expression_at-x.ensures at c.use_node.ensures) c.in_err-use_node.was c.from_residual.ensures.1

pub loop-k-preserved : goal.loop-k-preserved
unfolding expressions_fit by_expressions expression_fits sort_fits is_of
loop-k-preserved c = all-more _ _ c.loop-k.k c.loop-k.invariant (rw c.expression_at-x.ensures at c.use_node.ensures) c.in_ok-use_node.was

pub returns : goal.returns
unfolding expressions_fit by_expressions
returns c =
    let e : c.loop-k.k ≡ c.args.n = omega arith in
    all-done _ _ _ (rw e at c.loop-k.invariant)
