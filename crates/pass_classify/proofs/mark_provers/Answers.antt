-- `pass_classify::mark_provers` meets its contract. Assumes nothing.
use native.Mathlib.Omega.{arith}
use mathlib.Core.Path.{◌∙◌}
use lib.ListN.{length-set}
use Rattle.pass_classify.proofs.Laid.{provers-laid}
use Rattle.pass_classify.proofs.Turns.{marked_start, marked_turn, marked-end}
use Rattle.pass_classify.proofs.mark_provers.Goals as goal

pub loop-k-init : goal.loop-k-init
loop-k-init c = record { end = provers-laid _ c.args.record.now.laid; marks = marked_start _ _; long = c.told-provers }

pub loop-k-preserved : goal.loop-k-preserved
loop-k-preserved c =
    let i = c.loop-k.invariant in
    let id = c.prover-id.ensures in
    record {
      end = i.end;
      marks = marked_turn _ _ _ (omega (arith, i.end, c.loop-k-test.true)) id.value (omega (arith, i.long, id.within)) i.marks;
      long = length-set _ _ _ ∙ i.long;
    }

pub returns : goal.returns
returns c = let i = c.loop-k.invariant in marked-end _ _ _ (omega (arith, i.end, c.loop-k-test.false)) i.marks i.long
