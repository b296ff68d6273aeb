-- `source::entries::operation` meets its contract. Assumes nothing.
use mathlib.Core.Path.{◌≡◌, ap, ◌∙◌}
use native.Mathlib.Omega.{arith}
use borrow.Author.Tests.{le-leb}
use Rattle.field.specs.declared.InfixOp.{InfixOp}
use Rattle.field.specs.declared.operators.NoOperator.{NoOperator}
use Rattle.field.specs.Operators.{operator_number, Numbers}
use Rattle.field.proofs.Numbered.{operator-is, operator-below}
use Rattle.source.specs.Nodes.{infix_for}
use Rattle.std.specs.Prelude.{ℕ, Some, Result, Ok, Err}
use Rattle.std.specs.Result.{result_ok}
use Rattle.std.specs.Option.{unwrap_or, option_map_or}
use Rattle.source.specs.declared.Node.{Node}
use Rattle.source.specs.declared.Form.{Form}
use Rattle.marks.proofs.Indices.{pick_yes}
use Rattle.source.proofs.entries.operation.Goals as goal

number-is : (n : ℕ) (r : Result InfixOp NoOperator) (o : InfixOp) → Some o ≡ result_ok r → Numbers n r → operator_number o ≡ n
number-is n (Ok x) o e h = ap (λ y. operator_number (unwrap_or y o)) e ∙ h
number-is n (Err x) o e h = absurd (omega (arith, ap {B = ℕ} (λ y. option_map_or (λ _. 1) y 0) e))

pub returns : goal.returns
unfolding infix_for
returns c =
    let e = number-is _ _ _ c.in_ok-op.ensures.value c.try_from.ensures in
    pick_yes _ _ (le-leb _ _ (omega (arith, e, operator-below c.in_ok-op.op)))
    (ap (λ (o : InfixOp). Some (Node.Expression (Form.Infix o c.args.x c.args.y))) (operator-is _ _ e))
