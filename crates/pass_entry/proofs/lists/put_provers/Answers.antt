-- `pass_entry::lists::put_provers` meets its contract. Assumes nothing.
use native.Mathlib.Omega.{arith}
use mathlib.Core.Path.{sym, ap, ◌∙◌}
use lib.ListN.{length}
use Rattle.words.proofs.Laws.{length-set_word}
use Rattle.pass_classify.proofs.Laid.{next-laid}
use Rattle.pass_entry.proofs.Turns.{id-kept, id_left, left-written, kept-written, writing_start, writing-turn, writing-end}
use Rattle.pass_entry.proofs.lists.put_provers.Goals as goal
use Rattle.pass_entry.proofs.lists.put_provers.Goals.{then-is_prover, else-is_prover}

pub loop-v-init : goal.loop-v-init
loop-v-init c =
    let read = c.args.classes.now.record in
    record { end = next-laid read.bytes.now read.laid; writing = writing_start _ _ _ _ }

pub is_prover-requires : goal.is_prover-requires
is_prover-requires c = omega (arith, c.loop-v.invariant.end, c.args.classes.now.record.readable.next_small, c.loop-v-test.true)

pub put_word-requires : goal.put_word-requires
put_word-requires c =
    let i = c.loop-v.invariant in
    omega (arith, c.requires, i.end, i.writing.place, i.writing.long, c.loop-v-test.true)

pub loop-v-preserved : goal.loop-v-preserved
loop-v-preserved c =
    let i = c.loop-v.invariant in
    let read = sym c.is_prover.ensures in
    elim c.if-is_prover.branch [
      | then-is_prover w ↦
          let one = kept-written c.loop-v.body c.loop-v.to c.loop-v.v _ (id-kept _ _ (read ∙ w.if-is_prover.true)) in
          let put = w.body-is ∙ w.put_word.ensures in
          let long = ap length put ∙ length-set_word _ _ _ in
          record {
            end = i.end;
            writing = writing-turn _ _ _ _ _ _ _ _ _ (omega (arith, i.end, c.loop-v-test.true)) (put ∙ one.0) (w.to-is ∙ one.1) long i.writing;
          }
      | else-is_prover w ↦
          let none = left-written c.loop-v.body c.loop-v.to _ (id_left c.args.classes.now.provers.now c.loop-v.v (read ∙ w.if-is_prover.false)) in
          record {
            end = i.end;
            writing = writing-turn _ _ _ _ _ _ _ _ _ (omega (arith, i.end, c.loop-v-test.true)) (w.body-is ∙ none.0) (w.to-is ∙ none.1)
                (ap length w.body-is) i.writing;
          }
    ]

pub returns : goal.returns
returns c = let i = c.loop-v.invariant in writing-end _ _ _ _ _ _ _ (omega (arith, i.end, c.loop-v-test.false)) i.writing
