-- `pass_3ac::Writer::flatten_equations` meets its contract. Assumes nothing.
use native.Mathlib.Omega.{arith}
use mathlib.Core.Path.{refl}
use Rattle.pass_classify.proofs.Laid.{equations-laid}
use Rattle.pass_3ac.proofs.Turns.{equations-start, equations-turn, equations-end, room-equations-start, room-equation, room-equations-turn}
use Rattle.pass_3ac.proofs.Writers.{puts, lent-on, lent-as}
use Rattle.pass_3ac.proofs.Writer.flatten_equations.Goals as goal

pub loop-k-init : goal.loop-k-init
loop-k-init c = record {
  end = equations-laid _ c.args.record.now.laid;
  from = equations-start _ _ _ _ _ _;
  room = room-equations-start _ c.requires;
  lent = refl;
}

pub flatten_equation-requires : goal.flatten_equation-requires
flatten_equation-requires c =
    let i = c.loop-k.invariant in
    let e = c.equation.ensures in
    (e.within.0, e.within.1, room-equation _ (omega (arith, i.end, c.loop-k-test.true)) e.value e.within i.room)

pub loop-k-preserved : goal.loop-k-preserved
loop-k-preserved c =
    let i = c.loop-k.invariant in
    let e = c.equation.ensures in
    let cut = puts c.flatten_equation.ensures in
    record {
      end = i.end;
      from = equations-turn _ (omega (arith, i.end, c.loop-k-test.true)) e.value e.within _ _ _ _ _ cut _ _ _ i.from;
      room = room-equations-turn _ (omega (arith, i.end, c.loop-k-test.true)) e.value e.within _ _ _ _ _ cut i.room;
      lent = lent-on c.args.self.now.body i.lent c.flatten_equation.ensures.lent;
    }

pub returns : goal.returns
returns c =
    let i = c.loop-k.invariant in
    let w = equations-end _ (omega (arith, i.end, c.loop-k-test.false)) _ _ _ _ _ _ _ _ i.from in
    record { body_after = lent-as c.args.self.now.body i.lent w.0; value = w.1 }
