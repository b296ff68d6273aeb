-- `eval_write::write_publics` meets its contract. Assumes nothing.
use native.Mathlib.Omega.{arith}
use Rattle.eval_write.specs.Written.{firsts}
use Rattle.eval_write.proofs.Ways.{none_yet, firsts_more, all_ids}
use Rattle.eval_write.proofs.write_publics.Goals as goal

pub loop-i-init : goal.loop-i-init
unfolding firsts
loop-i-init c = none_yet _ _ _

pub loop-i-preserved : goal.loop-i-preserved
loop-i-preserved c = firsts_more _ _ _ c.loop-i.invariant c.put_word.ensures

pub returns : goal.returns
unfolding firsts
returns c = all_ids _ _ _ c.loop-i.invariant (omega arith) c.loop-i-test.false
