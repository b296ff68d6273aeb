-- `source_check::names::Names::fingerprints` meets its contract. Assumes nothing.
use Rattle.std.proofs.Common.{ℕ, List, ◌∙◌, ap, ◌≢◌, ◌<◌, length, arith, get_or-set_same, get_or-set_other, length-set, below_more}
use Rattle.source_check.proofs.Prints.{name-print}
use Rattle.source_check.specs.Fingerprints.{fingerprint_of}
use Rattle.source_check.proofs.names.Names.fingerprints.Goals as goal

pub loop-k-preserved : goal.loop-k-preserved
loop-k-preserved c =
    let lt : c.loop-k.k < length c.loop-k.prints = omega (arith, c.loop-k.invariant.long, c.args.self.now.few) in
    record {
      each = below_more _ _
          (λ j h. let other : j ≢ c.loop-k.k = omega arith in rw get_or-set_other (c.loop-k.invariant.each j h))
          (rw get_or-set_same (c.fingerprint.ensures ∙ ap (λ (t : List ℕ). fingerprint_of t 0 (length t)) c.name.ensures
          ∙ name-print _ _ _ _ c.args.self.now.fit c.loop-k-test.true));
      long = simp length-set c.loop-k.invariant.long;
    }
