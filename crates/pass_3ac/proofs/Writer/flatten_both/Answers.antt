-- `pass_3ac::Writer::flatten_both` meets its contract. Assumes nothing.
use Rattle.pass_3ac.proofs.Ways.{room-on}
use Rattle.pass_3ac.proofs.Equations.{way-both, room-both}
use Rattle.pass_3ac.proofs.Writers.{left, lent-on}
use Rattle.pass_3ac.proofs.Writer.flatten_both.Goals as goal

pub flatten_expr_to_3ac-b-requires : goal.flatten_expr_to_3ac-b-requires
flatten_expr_to_3ac-b-requires c = (c.requires.1, room-on _ _ _ _ _ (left c.flatten_expr_to_3ac-a.ensures) _ c.requires.2)

pub place_term-requires : goal.place_term-requires
place_term-requires c =
    let a = c.flatten_expr_to_3ac-a.ensures in
    room-both _ _ _ _ _ _ _ _ (left a) (left (rw a.same_place at c.flatten_expr_to_3ac-b.ensures)) c.requires.2

pub returns : goal.returns
returns c =
    let a = c.flatten_expr_to_3ac-a.ensures in
    let b = c.flatten_expr_to_3ac-b.ensures in
    let p = c.place_term.ensures in
    let w = way-both _ _ _ _ _ _ _ _ (left a) (left (rw a.same_place at b)) (left (rw (b.same_place, a.same_place) at p)) in
    record { body_is = w.0; place_is = w.1; lent = lent-on c.args.self.now.body (lent-on c.args.self.now.body a.lent b.lent) p.lent }
