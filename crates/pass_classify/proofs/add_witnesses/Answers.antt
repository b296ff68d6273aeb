-- `pass_classify::add_witnesses` meets its contract. Assumes nothing.
use borrow.Author.Rules.{rules}
use native.Mathlib.Omega.{arith}
use mathlib.Core.Path.{◌≡◌, ap, ◌∙◌}
use mathlib.Core.Bool.{Bool, false, ◌||◌}
use lib.ListN.{get_or, length-set}
use Rattle.pass_trees.specs.declared.Usage.TheVariants.{Never}
use Rattle.pass_trees.specs.Passes.{is_witness}
use Rattle.pass_classify.proofs.Turns.{witnesses-start, witnesses-turn, witnesses-end}
use Rattle.pass_classify.proofs.add_witnesses.Goals as goal

pub loop-v-init : goal.loop-v-init
loop-v-init c = record { marks = witnesses-start _ _; long = c.told-provers }

pub loop-v-preserved : goal.loop-v-preserved
unfolding is_witness
loop-v-preserved c =
    let i = c.loop-v.invariant in
    let test : c.eq.result ≡ is_witness (get_or c.args.usage.now c.loop-v.v Never) = search rules in
    let either = ap (λ (t : Bool). get_or c.loop-v.provers c.loop-v.v false || t) test in
    record {
      marks = witnesses-turn _ _ _ _ (omega (arith, i.long, c.requires, c.loop-v-test.true)) either i.marks;
      long = length-set _ _ _ ∙ i.long;
    }

pub returns : goal.returns
returns c = let i = c.loop-v.invariant in witnesses-end _ _ _ _ _ (omega (arith, c.loop-v-test.false)) i.marks i.long
