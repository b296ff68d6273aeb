-- `pass_3ac::Writer::flatten_equation` meets its contract. Assumes nothing.
use mathlib.Core.Path.{refl}
use Rattle.pass_3ac.proofs.Joining.{puts-tree}
use Rattle.pass_3ac.proofs.Equations.{way-dead, way-left, way-right, way-neither}
use Rattle.pass_3ac.proofs.Writers.{left, puts}
use Rattle.pass_3ac.proofs.Writer.flatten_equation.Goals as goal

pub returns-then-is_dead : goal.returns-then-is_dead
returns-then-is_dead c =
    let w = way-dead _ _ _ _ _ _ c.copy_expr-a.ensures c.copy_expr-b.ensures
    c.is_dead.ensures c.if-is_dead.true _ _ in
    record { body_is = w.0; place_is = w.1; lent = refl }

pub returns-in-Left : goal.returns-in-Left
returns-in-Left c =
    let p = c.flatten_expr_to_3ac.ensures in
    let w = way-left _ _ _ _ _ _ c.copy_expr-a.ensures c.copy_expr-b.ensures c.is_dead.ensures c.if-is_dead.false
    c.left_side.ensures _ _ c.in-Left.is (puts-tree _ _ _ (left p)) in
    record { body_is = w.0; place_is = w.1; lent = p.lent }

pub returns-in-Right : goal.returns-in-Right
returns-in-Right c =
    let p = c.flatten_expr_to_3ac-in-Right.ensures in
    let w = way-right _ _ _ _ _ _ c.copy_expr-a.ensures c.copy_expr-b.ensures c.is_dead.ensures c.if-is_dead.false
    c.left_side.ensures _ _ c.in-Right.is (puts-tree _ _ _ (left p)) in
    record { body_is = w.0; place_is = w.1; lent = p.lent }

pub returns-in-Neither : goal.returns-in-Neither
returns-in-Neither c =
    let p = c.flatten_both.ensures in
    let w = way-neither _ _ _ _ _ _ c.copy_expr-a.ensures c.copy_expr-b.ensures c.is_dead.ensures c.if-is_dead.false
    c.left_side.ensures _ _ c.in-Neither.is (puts p) in
    record { body_is = w.0; place_is = w.1; lent = p.lent }
