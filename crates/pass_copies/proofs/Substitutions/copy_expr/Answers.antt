-- `pass_copies::Substitutions::copy_expr` meets its contract. Assumes nothing.
use borrow.Author.Rules.{rules}
use mathlib.Core.Path.{ap, sym, ◌∙◌}
use lib.IntN.{ℤ}
use mir.ValLaws.{to_z-of_z}
use mir.Syntax.{w32}
use Rattle.std.specs.Prelude.{Some}
use Rattle.constraint.specs.declared.Term.{Term}
use Rattle.flat.specs.Record.{grown}
use Rattle.pass_trees.specs.Passes.{copy_propagate_expr}
use Rattle.pass_copies.specs.Substituted.{copied_of}
use Rattle.pass_copies.proofs.Shapes.{root-term}
use Rattle.pass_copies.proofs.Substitutions.copy_expr.Goals as goal

pub returns-in-Infix : goal.returns-in-Infix
unfolding copied_of copy_propagate_expr grown
returns-in-Infix c = rw c.in-Infix.ensures.tree

pub returns-in-Negate : goal.returns-in-Negate
unfolding copied_of copy_propagate_expr grown
returns-in-Negate c = rw c.in-Negate.ensures.tree

pub returns-in-Constant : goal.returns-in-Constant
unfolding copied_of copy_propagate_expr grown
returns-in-Constant c = rw c.in-Constant.ensures.tree (ap (λ (n : ℤ). Some (Term.Constant n)) (to_z-of_z w32 _ (search rules)))

pub returns-in-Variable : goal.returns-in-Variable
unfolding copy_propagate_expr grown
returns-in-Variable c = rw c.in-Variable.ensures.tree (ap Some c.resolve.ensures ∙ sym (root-term _))
