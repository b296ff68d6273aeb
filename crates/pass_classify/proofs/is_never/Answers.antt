-- `pass_classify::is_never` meets its contract. Assumes nothing.
use borrow.Author.Rules.{rules}
use Rattle.pass_trees.specs.Passes.{is_never}
use Rattle.pass_classify.proofs.is_never.Goals as goal

pub returns : goal.returns
unfolding is_never
returns c = search rules
