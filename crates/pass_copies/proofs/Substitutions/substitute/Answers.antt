-- `pass_copies::Substitutions::substitute` meets its contract. Assumes nothing.
use borrow.Author.Rules.{rules}
use mathlib.Core.Path.{refl, sym, ap, ◌∙◌}
use lib.IntN.{ℤ}
use lib.ListN.{set}
use mir.ValLaws.{to_z-of_z}
use mir.Syntax.{w32}
use Rattle.std.specs.Prelude.{Some}
use Rattle.pass_copies.specs.declared.Substitute.{Substitute}
use Rattle.pass_copies.specs.Substituted.{put_definition}
use Rattle.pass_copies.proofs.Stored.{put-none, put-itself, put-variable, put-constant}
use Rattle.pass_copies.proofs.Substitutions.substitute.Goals as goal

pub returns-in-None : goal.returns-in-None
unfolding put_definition
returns-in-None c = (put-none _ _ (sym c.copy_expr.ensures ∙ c.in-None.is), refl)

pub returns-in-Some-Constant : goal.returns-in-Some-Constant
unfolding put_definition
returns-in-Some-Constant c =
    let q = sym c.copy_expr.ensures ∙ c.in-Some-Constant.is ∙ ap Some c.in-Some-Constant.field-0-is in
    let same = to_z-of_z w32 c.in-Some-Constant.c (search rules) in
    (ap (λ (n : ℤ). set c.args.self.now.terms c.args.d.id (Substitute.Constant n)) same ∙ put-constant _ _ _ q, refl)

pub returns-then-w-d : goal.returns-then-w-d
unfolding put_definition
returns-then-w-d c =
    let q = sym c.copy_expr.ensures ∙ c.in-Some-Variable.is ∙ ap Some c.in-Some-Variable.field-0-is in
    (put-variable _ _ _ q c.if-w-d.true, refl)

pub returns-else-w-d : goal.returns-else-w-d
unfolding put_definition
returns-else-w-d c =
    let q = sym c.copy_expr.ensures ∙ c.in-Some-Variable.is ∙ ap Some c.in-Some-Variable.field-0-is in
    (put-itself _ _ _ q c.if-w-d.false, refl)
