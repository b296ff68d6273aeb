-- `source_check::fingerprints::fingerprint` meets its contract. Assumes nothing.
use Rattle.source_check.proofs.Prints.{print-none, print-more}
use Rattle.source_check.proofs.fingerprints.fingerprint.Goals as goal

pub loop-c-init : goal.loop-c-init
loop-c-init c = print-none _ _

pub loop-c-preserved : goal.loop-c-preserved
loop-c-preserved c = print-more _ _ c.loop-c.invariant c.from.ensures
