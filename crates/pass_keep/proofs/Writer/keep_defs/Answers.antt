-- `pass_keep::Writer::keep_defs` meets its contract. Assumes nothing.
use native.Mathlib.Omega.{arith}
use mathlib.Core.Path.{refl, ◌∙◌}
use Rattle.pass_trees.specs.Passes.{classify_defs, counted}
use Rattle.pass_classify.specs.Arrays.{provers_of, used_of, counted_of}
use Rattle.pass_classify.proofs.Laid.{definitions-laid}
use Rattle.pass_keep.proofs.Turns.{going_start, going-turn, going_end, first-room}
use Rattle.pass_keep.proofs.Writers.{lent-then, lent-as}
use Rattle.pass_keep.proofs.Writer.keep_defs.Goals as goal

pub loop-k-init : goal.loop-k-init
loop-k-init c =
    let read = c.args.classes.now.record in
    record {
      end = definitions-laid read.bytes.now read.laid;
      going = going_start _ _ _ _ _ _ _ _ c.requires.0 c.requires.1;
      lent = record { body = refl; list = refl };
      steps = refl;
    }

pub keep_def-requires : goal.keep_def-requires
keep_def-requires c =
    let i = c.loop-k.invariant in
    let d = c.definition.ensures in
    record { inside = d.within; word_room = first-room _ _ _ _ _ _ _ _ i.going refl (omega (arith, i.end, c.loop-k-test.true)) d.value d.within }

pub loop-k-preserved : goal.loop-k-preserved
loop-k-preserved c =
    let i = c.loop-k.invariant in
    let d = c.definition.ensures in
    let kept = rw i.steps at c.keep_def.ensures.keeps in
    let more = going-turn _ _ _ _ _ _ _ _ i.going refl (omega (arith, i.end, c.loop-k-test.true)) d.value d.within c.loop-k.subs.long kept in
    record { end = i.end; going = more; lent = lent-then i.lent c.keep_def.ensures.lent; steps = c.keep_def.ensures.steps ∙ i.steps }

pub returns : goal.returns
unfolding counted counted_of used_of provers_of classify_defs
returns c =
    let i = c.loop-k.invariant in
    let w = going_end _ _ _ _ _ _ _ _ i.going refl (omega (arith, i.end, c.loop-k-test.false)) in
    let first = c.args.self.now in
    record {
      body_after = lent-as first.body i.lent.body w.body_is;
      list_after = lent-as first.list i.lent.list w.list-is;
      value = w.answer-is;
      subs_after = w.subs-are;
      steps = i.steps;
    }
