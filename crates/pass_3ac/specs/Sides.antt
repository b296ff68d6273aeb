-- A right side as the code has it.
use Rattle.constraint.specs.Trees.{Side as Right, operation, first, second}
use Rattle.pass_3ac.specs.declared.simplify.Side.{Side}

unfoldable pub side_of : Right → Side
side_of s = record { operation = operation s; first = first s; second = second s }
