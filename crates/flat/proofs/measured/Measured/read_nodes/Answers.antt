-- `Measured::read_nodes` meets its contract. Assumes nothing.
use native.Mathlib.Omega.{arith}
use Rattle.flat.proofs.Marks.{children-below, nodes-none, nodes-more, nodes-fail}
use Rattle.flat.proofs.measured.Measured.read_nodes.Goals as goal

pub loop-k-init : goal.loop-k-init
loop-k-init c = nodes-none _ _ _ _

pub returns-then-not-fits-clause-fit : goal.returns-then-not-fits-clause-fit
returns-then-not-fits-clause-fit c =
    nodes-fail _ _ _ _ _ c.loop-k-test.true c.read-node.ensures c.fits.ensures c.if-not-fits.true

pub use_children-requires : goal.use_children-requires
use_children-requires c = children-below _ _ _ c.fits.ensures c.if-not-fits.false (omega arith)

pub loop-k-preserved : goal.loop-k-preserved
loop-k-preserved c =
    nodes-more _ _ _ _ c.loop-k.invariant.0 c.loop-k.invariant.1 c.read-node.ensures c.fits.ensures c.if-not-fits.false c.use_children.ensures
