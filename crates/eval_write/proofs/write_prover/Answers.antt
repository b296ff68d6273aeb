-- `eval_write::write_prover` meets its contract. Assumes nothing.
use Rattle.eval_write.proofs.Ways.{prover-yes, prover-no}
use Rattle.eval_write.proofs.write_prover.Goals as goal

pub returns-then-is_prover : goal.returns-then-is_prover
returns-then-is_prover c = prover-yes _ _ _ _ c.is_prover.ensures c.if-is_prover.true c.put_word.ensures

pub returns : goal.returns
returns c = prover-no _ _ _ _ c.is_prover.ensures c.if-is_prover.false
