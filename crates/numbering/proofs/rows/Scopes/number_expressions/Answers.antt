use Rattle.numbering.proofs.Listed.{expressions-all, expressions-start, expressions-first, expressions-rest, expressions-step, expressions-end}
use Rattle.numbering.proofs.rows.Scopes.number_expressions.Goals as goal

pub loop-i-init : goal.loop-i-init
loop-i-init c = record { ready = expressions-all _ _ _ _ _ c.requires.ready; left = λ s w. expressions-start _ _ _ _ _ w }

pub number_expr_variables-requires : goal.number_expr_variables-requires
number_expr_variables-requires c =
    expressions-first _ _ _ _ _ _ _ c.expression_at-e.ensures c.requires.fit c.loop-i-test.true c.loop-i.invariant.ready

pub loop-i-preserved : goal.loop-i-preserved
loop-i-preserved c =
    let v = c.number_expr_variables.ensures in
    let read = c.expression_at-e.ensures in
    let less = c.loop-i-test.true in
    let inv = c.loop-i.invariant in record {
      ready = expressions-rest _ _ _ _ _ _ read less inv.ready v;
      left = λ s w. inv.left s (expressions-step _ _ _ _ _ _ read less inv.ready v w);
    }

pub returns : goal.returns
returns c = c.loop-i.invariant.left _ (expressions-end _ _ _ _ _ _ c.loop-i-test.false)
