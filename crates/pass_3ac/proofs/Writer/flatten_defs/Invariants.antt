use mathlib.Core.Path.{◌≡◌}
use Rattle.flat.specs.Layout.{definitions}
use Rattle.flat.specs.Trees.{definitions_nodes}
use Rattle.pass_classify.proofs.Lists.{definitions_from}
use Rattle.pass_3ac.specs.Cutting.{Room}
use Rattle.pass_3ac.proofs.Turns.{DefsFrom}
use Rattle.pass_3ac.proofs.Writer.flatten_defs.Given as goal

abbrev pub invariant-loop-k : goal.invariant-loop-k
invariant-loop-k l =
    let b = l.record.bytes.now in
    let first = l.initial.self in
    record {
      end : l.k-end ≡ definitions b;
      from : DefsFrom b l.initial.subs.steps l.initial.subs.terms first.body.now first.at first.next l.subs.terms l.self.body.now l.self.at l.self.next l.k;
      room : Room (definitions_nodes (definitions_from b l.k)) l.self.at l.self.next l.self.body.now;
      steps : l.subs.steps ≡ l.initial.subs.steps;
      lent : l.self.body ≡ record first.body { now = l.self.body.now };
    }
