-- `Measured::read_equations` meets its contract. Assumes nothing.
use Rattle.flat.proofs.Marks.{equations-left, equations-right, equations-more, equations-none}
use Rattle.flat.proofs.measured.Measured.read_equations.Goals as goal
use Rattle.flat.proofs.measured.Measured.read_equations.Goals.{then-l-e-via-then-l-e, then-l-e-via-else-l-e+then-l-e-2}

pub loop-k-init : goal.loop-k-init
loop-k-init c = equations-none _ _ _ _

pub returns-then-l-e-clause-fit : goal.returns-then-l-e-clause-fit
returns-then-l-e-clause-fit c =
    elim c.then-l-e.branch [
      | then-l-e-via-then-l-e w ↦ equations-left _ _ _ _ c.equation_at-e.ensures _ c.loop-k-test.true w.if-l-e.true
      | then-l-e-via-else-l-e+then-l-e-2 w ↦ equations-right _ _ _ _ c.equation_at-e.ensures _ c.loop-k-test.true w.if-l-e-2.true
    ]

pub loop-k-preserved : goal.loop-k-preserved
loop-k-preserved c =
    equations-more _ _ _ _ c.equation_at-e.ensures c.loop-k.invariant.0 c.loop-k.invariant.1 c.if-l-e.false c.if-l-e-2.false
    c.add.ensures c.add-in-loop-k.ensures
