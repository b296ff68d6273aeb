-- `pass_classify::mark` meets its contract. Assumes nothing.
use borrow.Author.Rules.{rules}
use mathlib.Core.Path.{◌≡◌}
use lib.ListN.{get_or}
use Rattle.pass_trees.specs.declared.Usage.TheVariants.{Never}
use Rattle.pass_trees.specs.Passes.{most}
use Rattle.pass_classify.proofs.Arrays.{uses-set}
use Rattle.pass_classify.proofs.mark.Goals as goal

pub returns : goal.returns
unfolding most
returns c =
    let m = c.args.usage.now in
    let greater : c.max.result ≡ most (get_or m c.args.v Never) c.args.u = search rules in
    rw greater (uses-set m c.args.v _ c.requires c.told-usage)
