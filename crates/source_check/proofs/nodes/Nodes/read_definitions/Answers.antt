-- `source_check::nodes::Nodes::read_definitions` meets its contract. Assumes nothing.
use native.Mathlib.Omega.{arith}
use mathlib.Core.Path.{◌≡◌}
use Prim.Native.Nat.{◌<◌}
use mathlib.Core.Path.{sym}
use mathlib.Core.Bool.{and-false}
use Rattle.marks.proofs.Indices.{every-fails}
use Rattle.source.specs.Nodes.{definitions_fit, expression_fits, pattern_fits}
use Rattle.source.specs.Uses.{by_definitions}
use Rattle.source_check.specs.Marks.{is_of, sort_fits}
use Rattle.source_check.proofs.Marks.{judged-stop, judged-then}
use Rattle.source_check.proofs.Lists.{all-none, all-more, all-done}
use Rattle.source_check.proofs.nodes.Nodes.read_definitions.Goals as goal

pub loop-k-init : goal.loop-k-init
unfolding definitions_fit by_definitions
loop-k-init c = all-none _ _

pub returns-in_err-use_node : goal.returns-in_err-use_node
unfolding definitions_fit by_definitions expression_fits pattern_fits sort_fits is_of
returns-in_err-use_node c =
    let l : c.loop-k.k < c.args.n = omega arith in
    judged-stop _ _ (rw c.definition_at-d.ensures at c.use_node.ensures) c.in_err-use_node.was c.from_residual.ensures.1
    (λ f. sym (every-fails _ c.loop-k.k _ l (rw f)))

pub returns-in_err-use_node-2 : goal.returns-in_err-use_node-2
unfolding definitions_fit by_definitions expression_fits pattern_fits sort_fits is_of
returns-in_err-use_node-2 c =
    let l : c.loop-k.k < c.args.n = omega arith in
    judged-stop _ _ (rw c.definition_at-d.ensures at c.use_node-in-loop-k.ensures) c.in_err-use_node-2.was c.from_residual-in_err-use_node-2.ensures.1
    (λ f. sym (every-fails _ c.loop-k.k _ l (rw (f, and-false))))

pub loop-k-preserved : goal.loop-k-preserved
unfolding definitions_fit by_definitions expression_fits pattern_fits sort_fits is_of
loop-k-preserved c =
    let one = rw c.definition_at-d.ensures at c.use_node.ensures in
    let other = rw c.definition_at-d.ensures at c.use_node-in-loop-k.ensures in
    all-more _ _ c.loop-k.k c.loop-k.invariant (judged-then _ _ one c.in_ok-use_node.was other) c.in_ok-use_node-2.was

pub returns : goal.returns
unfolding definitions_fit by_definitions
returns c =
    let e : c.loop-k.k ≡ c.args.n = omega arith in
    all-done _ _ _ (rw e at c.loop-k.invariant)
