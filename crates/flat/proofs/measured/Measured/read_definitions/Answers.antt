-- `Measured::read_definitions` meets its contract. Assumes nothing.
use Rattle.flat.proofs.Marks.{defs-id, defs-node, defs-more, defs-none}
use Rattle.flat.proofs.measured.Measured.read_definitions.Goals as goal
use Rattle.flat.proofs.measured.Measured.read_definitions.Goals.{then-l-d-via-then-l-d, then-l-d-via-else-l-d+then-l-d-2}

pub loop-k-init : goal.loop-k-init
loop-k-init c = defs-none _ _ _ _ _

pub returns-then-l-d-clause-fit : goal.returns-then-l-d-clause-fit
returns-then-l-d-clause-fit c =
    elim c.then-l-d.branch [
      | then-l-d-via-then-l-d w ↦ defs-id _ _ _ _ _ c.definition_at-d.ensures _ c.loop-k-test.true w.if-l-d.true
      | then-l-d-via-else-l-d+then-l-d-2 w ↦ defs-node _ _ _ _ _ c.definition_at-d.ensures _ c.loop-k-test.true w.if-l-d-2.true
    ]

pub loop-k-preserved : goal.loop-k-preserved
loop-k-preserved c =
    defs-more _ _ _ _ _ c.definition_at-d.ensures c.loop-k.invariant.0 c.loop-k.invariant.1 c.if-l-d.false c.if-l-d-2.false c.add.ensures
