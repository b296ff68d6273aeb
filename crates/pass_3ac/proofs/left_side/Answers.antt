-- `pass_3ac::left_side` meets its contract. Assumes nothing.
use Rattle.pass_3ac.specs.Cutting.{sides_of}
use Rattle.pass_3ac.proofs.left_side.Goals as goal

pub returns-in-None-None : goal.returns-in-None-None
unfolding sides_of
returns-in-None-None c = rw (c.in-None-None.is-0, c.in-None-None.is-1)

pub returns-in-None-Some : goal.returns-in-None-Some
unfolding sides_of
returns-in-None-Some c = rw (c.in-None-Some.is-0, c.in-None-Some.is-1)

pub returns-in-Some-None : goal.returns-in-Some-None
unfolding sides_of
returns-in-Some-None c = rw (c.in-Some-None.is-0, c.in-Some-None.is-1)

pub returns-in-Constant-Variable : goal.returns-in-Constant-Variable
unfolding sides_of
returns-in-Constant-Variable c = rw (c.in-Some-Some.is-0, c.in-Some-Some.is-1, c.in-Constant-Variable.is-0, c.in-Constant-Variable.is-1)

pub returns-in_default : goal.returns-in_default
unfolding sides_of
returns-in_default c = rw (c.in-Some-Some.is-0, c.in-Some-Some.is-1, c.in_default.is-0, c.in_default.is-1)

pub returns-in_default-2 : goal.returns-in_default-2
unfolding sides_of
returns-in_default-2 c = rw (c.in-Some-Some.is-0, c.in-Some-Some.is-1, c.in_default.is-0)
