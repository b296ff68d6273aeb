-- `pass_classify::mark_equations` meets its contract. Assumes nothing.
use native.Mathlib.Omega.{arith}
use Rattle.pass_classify.proofs.Laid.{equations-laid}
use Rattle.pass_classify.proofs.Turns.{used_start, used_turn, used-end}
use Rattle.pass_classify.proofs.mark_equations.Goals as goal

pub loop-k-init : goal.loop-k-init
loop-k-init c = record { end = equations-laid _ c.args.record.now.laid; used = used_start _ _; long = c.told-usage }

pub loop-k-preserved : goal.loop-k-preserved
loop-k-preserved c =
    let i = c.loop-k.invariant in
    let e = c.equation-e.ensures in
    record {
      end = i.end;
      used = used_turn _ _ _ (omega (arith, i.end, c.loop-k-test.true)) e.value e.within i.used c.mark_used.ensures c.mark_used-in-loop-k.ensures;
      long = c.mark_used-in-loop-k.ensures.long;
    }

pub returns : goal.returns
returns c = let i = c.loop-k.invariant in used-end _ _ _ (omega (arith, i.end, c.loop-k-test.false)) i.used i.long
