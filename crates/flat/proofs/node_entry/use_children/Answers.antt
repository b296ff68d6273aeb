-- `node_entry::use_children` meets its contract. Assumes nothing.
use Rattle.std.proofs.Common.{rules}
use native.Mathlib.Omega.{arith}
use Rattle.flat.proofs.Marks.{children-4, children-5, children-none}
use Rattle.flat.proofs.node_entry.use_children.Goals as goal

pub returns-in_default : goal.returns-in_default
returns-in_default c = children-none _ _ _ _ (λ e. omega (arith, c.in_default.ensures.1)) (λ e. omega (arith, c.in_default.ensures.1))

pub returns-in-Infix : goal.returns-in-Infix
returns-in-Infix c = children-4 _ _ _ (search rules) c.add.ensures c.add-in-Infix.ensures

pub returns-in-Negate : goal.returns-in-Negate
returns-in-Negate c = children-5 _ _ _ (search rules) c.add-in-Negate.ensures

pub returns-in_default-kind : goal.returns-in_default-kind
returns-in_default-kind c = children-none _ _ _ _ (λ e. search rules) (λ e. search rules)
