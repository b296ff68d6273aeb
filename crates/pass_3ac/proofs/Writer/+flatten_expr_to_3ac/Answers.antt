-- `pass_3ac::flatten_expr_to_3ac` meets its contract. Assumes nothing.
use borrow.Author.Rules.{rules}
use native.Mathlib.Omega.{arith}
use mathlib.Core.Path.{◌∙◌}
use mir.Syntax.{w32}
use mir.ValLaws.{to_z-of_z}
use Rattle.flat.specs.Record.{grown}
use Rattle.pass_3ac.proofs.Placing.{left_is}
use Rattle.pass_3ac.proofs.Ways.{room-first, room-second, room-third, room-negated, room-pushed}
use Rattle.pass_3ac.proofs.Ways.{room-term, way-infix, way-negate, way-constant, way-variable}
use Rattle.pass_3ac.proofs.Writers.{left, lent-on}
use Rattle.pass_3ac.proofs.Writer.+flatten_expr_to_3ac.Goals as goal

pub flatten_expr_to_3ac-a-requires : goal.flatten_expr_to_3ac-a-requires
unfolding grown
flatten_expr_to_3ac-a-requires t c =
    let w = c.in-Infix.ensures.within in
    let k = c.requires.0 in
    (omega (arith, c.decreases, w.0), (omega (arith, k, w.0), room-first _ c.requires.1 c.in-Infix.ensures.tree))

pub flatten_expr_to_3ac-b-requires : goal.flatten_expr_to_3ac-b-requires
unfolding grown
flatten_expr_to_3ac-b-requires t c =
    let w = c.in-Infix.ensures.within in
    let k = c.requires.0 in (
      omega (arith, c.decreases, w.1),
      (omega (arith, k, w.1), room-second _ c.requires.1 c.in-Infix.ensures.tree _ _ _ (left c.flatten_expr_to_3ac-a.ensures)),
    )

pub push_constraint_def-requires : goal.push_constraint_def-requires
unfolding grown
push_constraint_def-requires t c =
    let a = c.flatten_expr_to_3ac-a.ensures in
    room-third _ c.requires.1 c.in-Infix.ensures.tree _ _ _ (left a) (left (rw a.same_place at c.flatten_expr_to_3ac-b.ensures))

pub flatten_expr_to_3ac-a-requires-in-Negate : goal.flatten_expr_to_3ac-a-requires-in-Negate
unfolding grown
flatten_expr_to_3ac-a-requires-in-Negate t c =
    let w = c.in-Negate.ensures.within in
    let k = c.requires.0 in
    (omega (arith, c.decreases, w), (omega (arith, k, w), room-negated _ c.requires.1 c.in-Negate.ensures.tree))

pub push_constraint_def-requires-in-Negate : goal.push_constraint_def-requires-in-Negate
unfolding grown
push_constraint_def-requires-in-Negate t c = room-pushed _ c.requires.1 c.in-Negate.ensures.tree _ _ _ (left c.flatten_expr_to_3ac-a-in-Negate.ensures)

pub place_term-requires : goal.place_term-requires
place_term-requires t c = room-term _ c.requires.1

pub place_term-requires-in-Variable : goal.place_term-requires-in-Variable
place_term-requires-in-Variable t c = room-term _ c.requires.1

pub returns-in-Infix : goal.returns-in-Infix
unfolding grown
returns-in-Infix t c =
    let a = c.flatten_expr_to_3ac-a.ensures in
    let b = c.flatten_expr_to_3ac-b.ensures in
    let q = c.push_constraint_def.ensures in
    let w = way-infix _ _ _ _ _ _ _ _ c.in-Infix.ensures.tree (left a) (left (rw a.same_place at b))
    (c.unwrap_or-left.ensures ∙ left_is _ _) (c.equality.ensures _ c.infix_op.ensures) (left (rw (b.same_place, a.same_place) at q)) in
    let on = lent-on c.args.self.now.body a.lent b.lent in
    record { body_is = w.0; cut_is = w.1; same_place = q.same_place ∙ b.same_place ∙ a.same_place; lent = lent-on c.args.self.now.body on q.lent }

pub returns-in-Negate : goal.returns-in-Negate
unfolding grown
returns-in-Negate t c =
    let a = c.flatten_expr_to_3ac-a-in-Negate.ensures in
    let q = c.push_constraint_def-in-Negate.ensures in
    let w = way-negate _ _ _ _ _ _ _ _ c.in-Negate.ensures.tree (left a)
    (c.unwrap_or-left-in-Negate.ensures ∙ left_is _ _) (c.equality-in-Negate.ensures _ c.negate.ensures) (left (rw a.same_place at q)) in
    record { body_is = w.0; cut_is = w.1; same_place = q.same_place ∙ a.same_place; lent = lent-on c.args.self.now.body a.lent q.lent }

pub returns-in-Constant : goal.returns-in-Constant
unfolding grown
returns-in-Constant t c =
    let p = c.place_term.ensures in
    let w = way-constant _ _ _ _ _ _ _ _ c.in-Constant.ensures.tree (to_z-of_z w32 _ (search rules)) (left p) in
    record { body_is = w.0; cut_is = w.1; same_place = p.same_place; lent = p.lent }

pub returns-in-Variable : goal.returns-in-Variable
unfolding grown
returns-in-Variable t c =
    let p = c.place_term-in-Variable.ensures in
    let w = way-variable _ _ _ _ _ _ _ _ c.in-Variable.ensures.tree c.resolve.ensures (left p) in
    record { body_is = w.0; cut_is = w.1; same_place = p.same_place; lent = p.lent }
