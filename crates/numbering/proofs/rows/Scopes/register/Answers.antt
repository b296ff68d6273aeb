use Rattle.std.proofs.Common.{arith}
use Rattle.numbering.proofs.First.{found-yes, found_none}
use Rattle.numbering.proofs.rows.Scopes.register.Goals as goal

pub returns-in-Some : goal.returns-in-Some
returns-in-Some c =
    rw c.id.ensures (found-yes _ _ _ _ _ _ _ c.in-Some.ensures.below c.args.names.now.few (omega arith) c.in-Some.ensures.first)

pub returns-in_default : goal.returns-in_default
returns-in_default c = found_none _ _ _ _ _ _ _ c.index_of.ensures.first c.in_default.not-Some
