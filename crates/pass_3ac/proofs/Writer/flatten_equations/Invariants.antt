use mathlib.Core.Path.{◌≡◌}
use Rattle.flat.specs.Layout.{equations}
use Rattle.flat.specs.Trees.{equations_nodes}
use Rattle.pass_classify.proofs.Lists.{equations_from}
use Rattle.pass_copies.specs.Substituted.{subst_of}
use Rattle.pass_3ac.specs.Cutting.{Room}
use Rattle.pass_3ac.proofs.Turns.{EquationsFrom}
use Rattle.pass_3ac.proofs.Writer.flatten_equations.Given as goal

abbrev pub invariant-loop-k : goal.invariant-loop-k
invariant-loop-k l =
    let b = l.record.bytes.now in
    let first = l.initial.self in
    record {
      end : l.k-end ≡ equations b;
      from : EquationsFrom b l.subs.steps (subst_of l.subs.terms) first.body.now first.at first.next l.self.body.now l.self.at l.self.next l.k;
      room : Room (equations_nodes (equations_from b l.k)) l.self.at l.self.next l.self.body.now;
      lent : l.self.body ≡ record first.body { now = l.self.body.now };
    }
