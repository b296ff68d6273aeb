-- `eval_write::write_provers` meets its contract. Assumes nothing.
use native.Mathlib.Omega.{arith}
use Rattle.eval_write.specs.Written.{marked}
use Rattle.eval_write.proofs.Ways.{more, all_ids, marked-none, marked_more}
use Rattle.eval_write.proofs.write_provers.Goals as goal

pub loop-i-init : goal.loop-i-init
loop-i-init c = (marked-none _ _ _, omega arith)

pub loop-i-preserved : goal.loop-i-preserved
loop-i-preserved c = (
  (
    more _ _ _ _ c.loop-i.invariant.0.0 c.loop-i.invariant.0.1 c.write_prover-to.ensures.0,
    marked_more _ _ _ _ _ c.loop-i.invariant.0.1 c.write_prover-to.ensures.1.0,
  ),
  omega (arith, c.write_prover-to.ensures.1.1, c.loop-i.invariant.1),
)

pub returns : goal.returns
unfolding marked
returns c = all_ids _ _ _ c.loop-i.invariant.0.0 (omega arith) c.loop-i-test.false
