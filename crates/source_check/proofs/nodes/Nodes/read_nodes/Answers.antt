-- `source_check::nodes::Nodes::read_nodes` meets its contract. Assumes nothing.
use native.Mathlib.Omega.{arith}
use mathlib.Core.Path.{◌≡◌, sym}
use Prim.Native.Nat.{◌<◌}
use Rattle.marks.proofs.Indices.{every-fails}
use Rattle.source.specs.Nodes.{nodes_fit, children_fit, child_fits}
use Rattle.source.specs.Uses.{by_nodes}
use Rattle.source_check.proofs.Marks.{judged-no, there, missing}
use Rattle.source_check.proofs.Lists.{of_read, all-none, all-more, all-stops, all-done}
use Rattle.source_check.proofs.nodes.Nodes.read_nodes.Goals as goal

pub loop-k-init : goal.loop-k-init
unfolding nodes_fit by_nodes
loop-k-init c = all-none _ _

pub returns-in_err-node : goal.returns-in_err-node
unfolding nodes_fit children_fit child_fits
returns-in_err-node c =
    let l : c.loop-k.k < c.args.self.now.count = omega arith in
    let w = missing c.read.ensures c.in_err-node.was c.from_residual.ensures.1 in
    judged-no _ w.1 (sym (every-fails _ c.loop-k.k _ l (rw w.0)))

pub returns-in_err-use_children : goal.returns-in_err-use_children
unfolding nodes_fit by_nodes
returns-in_err-use_children c =
    let e = c.first.ensures in
    let l : c.loop-k.k < c.args.self.now.count = omega arith in
    let j = of_read c.args.self.now c.loop-k.k (there c.read.ensures c.in_ok-node.was)
    (rw (e.same.0, e.same.1.0, e.same.1.1, e.count) at c.use_children.ensures) in
    all-stops _ _ _ c.loop-k.k l j c.in_err-use_children.was c.from_residual-in_err-use_children.ensures.1

pub loop-k-preserved : goal.loop-k-preserved
unfolding nodes_fit by_nodes
loop-k-preserved c =
    let e = c.first.ensures in
    let j = of_read c.args.self.now c.loop-k.k (there c.read.ensures c.in_ok-node.was)
    (rw (e.same.0, e.same.1.0, e.same.1.1, e.count) at c.use_children.ensures) in
    all-more _ _ c.loop-k.k c.loop-k.invariant j c.in_ok-use_children.was

pub returns : goal.returns
unfolding nodes_fit by_nodes
returns c =
    let e : c.loop-k.k ≡ c.args.self.now.count = omega arith in
    all-done _ _ _ (rw e at c.loop-k.invariant)
