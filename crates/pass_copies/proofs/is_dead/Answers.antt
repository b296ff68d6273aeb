-- `pass_copies::is_dead` meets its contract. Assumes nothing.
use borrow.Author.Rules.{rules}
use Rattle.pass_copies.specs.Substituted.{dead_roots}
use Rattle.pass_copies.proofs.Shapes.{decided}
use Rattle.pass_copies.proofs.is_dead.Goals as goal

pub returns-in-Some-Some : goal.returns-in-Some-Some
unfolding dead_roots
returns-in-Some-Some c = rw (c.in-Some-Some.is-0, c.in-Some-Some.is-1) (decided _ _ _ (search rules) (search rules))

pub returns-in_default : goal.returns-in_default
unfolding dead_roots
returns-in_default c = rw (c.in_default.is-0, c.in_default.is-1)

pub returns-in_default-2 : goal.returns-in_default-2
unfolding dead_roots
returns-in_default-2 c = rw c.in_default.is-0
