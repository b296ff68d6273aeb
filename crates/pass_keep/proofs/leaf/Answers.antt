-- `pass_keep::leaf` meets its contract. Assumes nothing.
use borrow.Author.Rules.{rules}
use Rattle.pass_keep.proofs.Nodes.{leaf-variable, leaf-constant}
use Rattle.pass_keep.proofs.leaf.Goals as goal

pub returns-in-Variable : goal.returns-in-Variable
returns-in-Variable c base = leaf-variable _ base c.in-Variable.is

pub returns-in-Constant : goal.returns-in-Constant
returns-in-Constant c base = leaf-constant _ _ base c.in-Constant.is (search rules) c.unsigned.ensures
