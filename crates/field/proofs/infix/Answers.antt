-- `field::infix` meets its contract. Assumes nothing.
use mathlib.Core.Path.{ap, sym, ◌∙◌}
use Rattle.std.specs.Prelude.{Some}
use Rattle.field.specs.declared.InfixOp.{InfixOp}
use Rattle.field.specs.Prime.{P}
use Rattle.field.specs.Operations.{sum, difference, product, infix_of, divide_of, divide_z_of, exponentiate_of, int_divide_of, modulo_of}
use Rattle.field.proofs.Calls.{passed2, returned}
use Rattle.field.proofs.infix.Goals as goal

pub returns-in-Divide : goal.returns-in-Divide
unfolding infix_of
returns-in-Divide c =
    passed2 (divide_of P) _ _ c.ranges.a c.ranges.b c.divide.ensures
    ∙ sym (ap (λ (o : InfixOp). infix_of P o c.args.a c.args.b) c.in-Divide.is)

pub returns-in-DivideZ : goal.returns-in-DivideZ
unfolding infix_of
returns-in-DivideZ c =
    passed2 (divide_z_of P) _ _ c.ranges.a c.ranges.b c.divide_z.ensures
    ∙ sym (ap (λ (o : InfixOp). infix_of P o c.args.a c.args.b) c.in-DivideZ.is)

pub returns-in-Multiply : goal.returns-in-Multiply
unfolding infix_of
returns-in-Multiply c =
    ap Some (returned _ c.multiply.type_inv (passed2 (product P) _ _ c.ranges.a c.ranges.b c.multiply.ensures))
    ∙ sym (ap (λ (o : InfixOp). infix_of P o c.args.a c.args.b) c.in-Multiply.is)

pub returns-in-Add : goal.returns-in-Add
unfolding infix_of
returns-in-Add c =
    ap Some (returned _ c.add.type_inv (passed2 (sum P) _ _ c.ranges.a c.ranges.b c.add.ensures))
    ∙ sym (ap (λ (o : InfixOp). infix_of P o c.args.a c.args.b) c.in-Add.is)

pub returns-in-Subtract : goal.returns-in-Subtract
unfolding infix_of
returns-in-Subtract c =
    ap Some (returned _ c.subtract.type_inv (passed2 (difference P) _ _ c.ranges.a c.ranges.b c.subtract.ensures))
    ∙ sym (ap (λ (o : InfixOp). infix_of P o c.args.a c.args.b) c.in-Subtract.is)

pub returns-in-Equal : goal.returns-in-Equal
unfolding infix_of
returns-in-Equal c = sym (ap (λ (o : InfixOp). infix_of P o c.args.a c.args.b) c.in-Equal.is)

pub returns-in-Exponentiate : goal.returns-in-Exponentiate
unfolding infix_of
returns-in-Exponentiate c =
    passed2 (exponentiate_of P) _ _ c.ranges.a c.ranges.b c.exponentiate.ensures
    ∙ sym (ap (λ (o : InfixOp). infix_of P o c.args.a c.args.b) c.in-Exponentiate.is)

pub returns-in-IntDivide : goal.returns-in-IntDivide
unfolding infix_of
returns-in-IntDivide c =
    passed2 (int_divide_of P) _ _ c.ranges.a c.ranges.b c.int_divide.ensures
    ∙ sym (ap (λ (o : InfixOp). infix_of P o c.args.a c.args.b) c.in-IntDivide.is)

pub returns-in-Modulo : goal.returns-in-Modulo
unfolding infix_of
returns-in-Modulo c =
    passed2 (modulo_of P) _ _ c.ranges.a c.ranges.b c.modulo.ensures
    ∙ sym (ap (λ (o : InfixOp). infix_of P o c.args.a c.args.b) c.in-Modulo.is)
