-- `pass_classify::cuttable_expr` meets its contract. Assumes nothing.
use mathlib.Core.Path.{◌≡◌}
use mathlib.Core.Bool.{true, false}
use Rattle.flat.specs.Record.{grown}
use Rattle.pass_trees.specs.Passes.{cuttable, cuttable_expr}
use Rattle.pass_classify.specs.Readable.{tree_of}
use Rattle.pass_classify.proofs.+cuttable_expr.Goals as goal
use Rattle.pass_classify.proofs.+cuttable_expr.Goals.{then-cuttable_operator, else-cuttable_operator}

pub returns-then-cuttable_expr : goal.returns-then-cuttable_expr
unfolding cuttable_expr grown
returns-then-cuttable_expr t c =
    let b = c.args.record.now.bytes.now in
    elim c.if-cuttable_operator.branch [
      | then-cuttable_operator w ↦
          let p : cuttable c.in-Infix.op ≡ true = cc in
          let q : cuttable_expr (tree_of b c.in-Infix.x) ≡ true = cc in
          rw (c.in-Infix.ensures.tree, p, q) c.cuttable_expr-then-cuttable_expr.ensures
      | else-cuttable_operator w ↦ cc
    ]

pub returns-else-cuttable_expr : goal.returns-else-cuttable_expr
unfolding cuttable_expr grown
returns-else-cuttable_expr t c =
    let b = c.args.record.now.bytes.now in
    elim c.if-cuttable_operator.branch [
      | then-cuttable_operator w ↦
          let p : cuttable c.in-Infix.op ≡ true = cc in
          let q : cuttable_expr (tree_of b c.in-Infix.x) ≡ false = cc in
          rw (c.in-Infix.ensures.tree, p, q) c.if-cuttable_expr.false
      | else-cuttable_operator w ↦
          let p : cuttable c.in-Infix.op ≡ false = cc in
          rw (c.in-Infix.ensures.tree, p) c.if-cuttable_expr.false
    ]

pub returns-in-Negate : goal.returns-in-Negate
unfolding cuttable_expr grown
returns-in-Negate t c = rw c.in-Negate.ensures.tree c.cuttable_expr-in-Negate.ensures

pub returns-in-Constant : goal.returns-in-Constant
unfolding cuttable_expr grown
returns-in-Constant t c = rw c.in-Constant.ensures.tree

pub returns-in-Variable : goal.returns-in-Variable
unfolding cuttable_expr grown
returns-in-Variable t c = rw c.in-Variable.ensures.tree
