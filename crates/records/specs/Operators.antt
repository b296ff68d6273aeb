-- The operators in the order of InfixOp, as the records number them: the numbers of the contracts of `field`, by which operators are read and written.
pub use Rattle.field.specs.Operators.{DIVIDE, DIVIDE-Z, MULTIPLY, ADD, SUBTRACT, EQUAL, EXPONENTIATE, INT-DIVIDE, MODULO}
