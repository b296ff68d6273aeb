use Rattle.numbering.proofs.Entire.{three-registered}
use Rattle.numbering.proofs.rows.Scopes.register_intrinsics.Goals as goal

pub returns-clause-holds : goal.returns-clause-holds
returns-clause-holds c h = three-registered _ _ _ c.register.ensures c.register-2.ensures c.register-3.ensures h
