-- `pass_3ac::Writer::flatten_defs` meets its contract. Assumes nothing.
use native.Mathlib.Omega.{arith}
use mathlib.Core.Path.{refl, ◌∙◌}
use Rattle.pass_trees.specs.Passes.{classify_defs, counted}
use Rattle.pass_classify.specs.Arrays.{provers_of, used_of, counted_of}
use Rattle.pass_classify.proofs.Laid.{definitions-laid}
use Rattle.pass_3ac.proofs.Turns.{defs-start, defs-turn, defs-end, room-start, room-def, room-turn}
use Rattle.pass_3ac.proofs.Writers.{lent-on, lent-as}
use Rattle.pass_3ac.proofs.Writer.flatten_defs.Goals as goal

pub loop-k-init : goal.loop-k-init
loop-k-init c =
    let read = c.args.classes.now.record in record {
      end = definitions-laid read.bytes.now read.laid;
      from = defs-start _ _ _ _ _ _;
      room = room-start _ c.requires;
      steps = refl;
      lent = refl;
    }

pub flatten_def_to_3ac-requires : goal.flatten_def_to_3ac-requires
flatten_def_to_3ac-requires c =
    let i = c.loop-k.invariant in
    let d = c.definition.ensures in
    (d.within.0, d.within.1, room-def _ (omega (arith, i.end, c.loop-k-test.true)) d.value d.within i.room)

pub loop-k-preserved : goal.loop-k-preserved
loop-k-preserved c =
    let i = c.loop-k.invariant in
    let d = c.definition.ensures in
    let cut = rw i.steps at c.flatten_def_to_3ac.ensures.defs_put in
    record {
      end = i.end;
      from = defs-turn _ (omega (arith, i.end, c.loop-k-test.true)) d.value d.within _ _ _ _ _ _ cut c.loop-k.subs.long _ _ _ _ i.from;
      room = room-turn _ (omega (arith, i.end, c.loop-k-test.true)) d.value d.within _ _ _ _ _ _ cut i.room;
      steps = c.flatten_def_to_3ac.ensures.steps ∙ i.steps;
      lent = lent-on c.args.self.now.body i.lent c.flatten_def_to_3ac.ensures.lent;
    }

pub returns : goal.returns
unfolding counted counted_of used_of provers_of classify_defs
returns c =
    let i = c.loop-k.invariant in
    let w = defs-end _ (omega (arith, i.end, c.loop-k-test.false)) _ _ _ _ _ _ _ _ _ i.from in
    record { body_after = lent-as c.args.self.now.body i.lent w.0; value = w.1; subs_after = w.2; steps = i.steps }
