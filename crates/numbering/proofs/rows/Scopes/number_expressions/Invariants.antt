use Rattle.std.proofs.Common.{◌-◌}
use Rattle.numbering.specs.Walks.{depth, ReadyExpressions, ExpressionsWalk}
use Rattle.numbering.specs.declared.rows.Scopes.{Scopes}
use Rattle.numbering.proofs.rows.Scopes.number_expressions.Given as goal

abbrev pub invariant-loop-i : goal.invariant-loop-i
invariant-loop-i l =
    let n = l.nodes in
    let b = n.bytes.now in record {
      ready : ReadyExpressions b n.at n.count l.list (l.count - l.i) l.i l.self.next (depth l.self);
      left : (s : Scopes) → ExpressionsWalk b n.at n.count l.list (l.count - l.i) l.i l.self s
          → ExpressionsWalk b n.at n.count l.list l.count 0 l.initial.self s;
    }
