-- `pass_classify::classify_defs` meets its contract. Assumes nothing.
use native.Mathlib.Omega.{arith}
use mathlib.Core.Bool.{false}
use lib.ListN.{replicate}
use Rattle.pass_trees.specs.declared.Usage.TheVariants.{Never}
use Rattle.pass_classify.specs.Arrays.{Classified}
use Rattle.pass_classify.proofs.Arrays.{none-used, none-marked}
use Rattle.pass_classify.proofs.Laid.{next-laid}
use Rattle.pass_classify.proofs.Whole.{provers-marked, classified-whole, usages-are, marks-are}
use Rattle.pass_classify.proofs.classify_defs.Goals as goal
use Rattle.pass_classify.proofs.classify_defs.Goals.{After-add_witnesses}

pub mark_definitions-requires : goal.mark_definitions-requires
mark_definitions-requires c = provers-marked _ (replicate 65536 false) none-marked c.mark_provers.ensures

pub add_witnesses-requires : goal.add_witnesses-requires
add_witnesses-requires c = omega (arith, next-laid _ c.args.record.now.laid, c.args.record.now.readable.next_small)

classes : (c : After-add_witnesses) → Classified c.args.record.now.bytes.now c.mark_definitions.new.usage c.add_witnesses.new.provers
classes c =
    classified-whole (replicate 65536 Never) (replicate 65536 false) c.args.record.now.readable none-used none-marked
    (next-laid _ c.args.record.now.laid) c.mark_provers.ensures c.mark_equations.ensures c.mark_definitions.ensures
    c.add_witnesses.ensures

pub returns : goal.returns
returns c = let k = classes (goal.at.returns c).After-add_witnesses in (usages-are k, marks-are k)
