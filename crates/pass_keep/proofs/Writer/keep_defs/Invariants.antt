use mathlib.Core.Path.{◌≡◌}
use Rattle.flat.specs.Layout.{definitions}
use Rattle.pass_keep.specs.Writers.{Lent}
use Rattle.pass_keep.proofs.Turns.{Going}
use Rattle.pass_keep.proofs.Writer.keep_defs.Given as goal

abbrev pub invariant-loop-k : goal.invariant-loop-k
invariant-loop-k l =
    let b = l.record.bytes.now in
    let first = l.initial.self in
    record {
      end : l.k-end ≡ definitions b;
      going : Going b l.initial.subs.steps (definitions b) first.at first.nodes l.initial.subs.terms first.body.now first.list.now
          l.self.at l.self.nodes l.k l.subs.terms l.self.body.now l.self.list.now;
      lent : Lent first l.self;
      steps : l.subs.steps ≡ l.initial.subs.steps;
    }
