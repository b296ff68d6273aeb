use Rattle.std.proofs.Common.{◌≡◌, ℕ, arith, sym, ap, ◌∙◌}
use Rattle.numbering.proofs.Laws.{at-node, in-scope}
use Rattle.std.specs.Prelude.{Option, Some}
use Rattle.source.specs.declared.Node.{Node}
use Rattle.source.specs.declared.Form.{Form}
use Rattle.numbering.specs.Walks.{unwound_to}
use Rattle.numbering.specs.declared.rows.Scopes.{Scopes}
use Rattle.numbering.proofs.Children.{link-read, link-alone, expression-read, expression-alone}
use Rattle.numbering.proofs.Ways.{scope-way, body-way, item-first, item-rest, item-last-way, item-more-way, arm-first, arm-rest, arm-last-way, arm-more-way}
use Rattle.numbering.proofs.Ways.{operands, two-first, two-second, operands-way, negate-ready, negate-way, variable-ready, variable-way}
use Rattle.numbering.proofs.Ways.{function-ready, function-way, let-first, let-second, let-way, match-first, match-second, match-way}
use Rattle.numbering.proofs.Ways.{sequence-ready, sequence-way, leaf-way}
use Rattle.numbering.proofs.rows.Scopes.+number_expr_variables.Goals as goal

-- the undo list's length where a scope begins
from : (s : Scopes) {s' : Scopes} {n m : ℕ} → n ≡ m → s' ≡ unwound_to n s → s' ≡ unwound_to m s
from s e u = u ∙ ap (λ (k : ℕ). unwound_to k s) e

-- the node that was read
here : {e : Option Node} {f g : Form} → Some (Node.Expression f) ≡ e → f ≡ g → e ≡ Some (Node.Expression g)
here p q = sym p ∙ ap (λ (f : Form). Some (Node.Expression f)) q

pub number_arms-returns-in_default : goal.number_arms-returns-in_default
number_arms-returns-in_default t c = absurd (link-alone c.requires c.node.ensures c.in_default.not-Link)

pub number_arms-number_scope-requires : goal.number_arms-number_scope-requires
number_arms-number_scope-requires t c = in-scope c.decreases (arm-first c.requires (sym c.in-Link.ensures))

pub number_arms-number_arms-requires : goal.number_arms-number_arms-requires
number_arms-number_arms-requires t c =
    at-node c.decreases (arm-rest c.requires (sym c.in-Link.ensures) c.if-rest-ne-NO_LINK.true c.number_scope.ensures)

pub number_arms-returns-then-rest-ne-NO_LINK : goal.number_arms-returns-then-rest-ne-NO_LINK
number_arms-returns-then-rest-ne-NO_LINK t c =
    arm-more-way c.requires (sym c.in-Link.ensures) c.if-rest-ne-NO_LINK.true c.number_scope.ensures c.number_arms.ensures

pub number_arms-returns-else-rest-ne-NO_LINK : goal.number_arms-returns-else-rest-ne-NO_LINK
number_arms-returns-else-rest-ne-NO_LINK t c =
    arm-last-way c.requires (sym c.in-Link.ensures) c.if-rest-ne-NO_LINK.false c.number_scope.ensures

pub number_expr_variables-returns-in_default : goal.number_expr_variables-returns-in_default
number_expr_variables-returns-in_default t c =
    absurd (expression-alone c.requires c.node.ensures c.in_default.not-Expression)

pub number_expr_variables-number_expr_variables-requires : goal.number_expr_variables-number_expr_variables-requires
number_expr_variables-number_expr_variables-requires t c = at-node c.decreases (negate-ready c.requires (here c.in-Expression.ensures c.in-Negate.is))

pub number_expr_variables-number_variable-requires : goal.number_expr_variables-number_variable-requires
number_expr_variables-number_variable-requires t c =
    let w = variable-ready c.requires (here c.in-Expression.ensures c.in-Variable.is) in (w.0, w.1.0)

pub number_expr_variables-number_function-requires : goal.number_expr_variables-number_function-requires
number_expr_variables-number_function-requires t c =
    let w = function-ready c.requires (here c.in-Expression.ensures c.in-Function.is) in in-scope c.decreases (w.0.1, w.1)

pub number_expr_variables-number_expr_variables-requires-in-Let : goal.number_expr_variables-number_expr_variables-requires-in-Let
number_expr_variables-number_expr_variables-requires-in-Let t c = at-node c.decreases (let-first c.requires (here c.in-Expression.ensures c.in-Let.is))

pub number_expr_variables-number_scope-requires : goal.number_expr_variables-number_scope-requires
number_expr_variables-number_scope-requires t c =
    let w = let-second c.requires (here c.in-Expression.ensures c.in-Let.is) c.number_expr_variables-in-Let.ensures in
    in-scope c.decreases (w.0.1, w.1)

pub number_expr_variables-number_expr_variables-requires-in-Match : goal.number_expr_variables-number_expr_variables-requires-in-Match
number_expr_variables-number_expr_variables-requires-in-Match t c =
    at-node c.decreases (match-first c.requires (here c.in-Expression.ensures c.in-Match.is))

pub number_expr_variables-number_arms-requires : goal.number_expr_variables-number_arms-requires
number_expr_variables-number_arms-requires t c =
    at-node c.decreases (match-second c.requires (here c.in-Expression.ensures c.in-Match.is) c.number_expr_variables-in-Match.ensures)

pub number_expr_variables-number_items-requires : goal.number_expr_variables-number_items-requires
number_expr_variables-number_items-requires t c = at-node c.decreases (sequence-ready c.requires (here c.in-Expression.ensures c.in-Sequence.is))

pub number_expr_variables-number_expr_variables-requires-in-Product : goal.number_expr_variables-number_expr_variables-requires-in-Product
number_expr_variables-number_expr_variables-requires-in-Product t c =
    at-node c.decreases (two-first c.requires (sym c.in-Expression.ensures) (operands c.in-Product.is))

pub number_expr_variables-number_expr_variables-requires-in-Product-2 : goal.number_expr_variables-number_expr_variables-requires-in-Product-2
number_expr_variables-number_expr_variables-requires-in-Product-2 t c =
    at-node c.decreases (two-second c.requires (sym c.in-Expression.ensures) (operands c.in-Product.is) c.number_expr_variables-in-Product.ensures)

pub number_expr_variables-returns-in-Negate : goal.number_expr_variables-returns-in-Negate
number_expr_variables-returns-in-Negate t c =
    negate-way c.requires (here c.in-Expression.ensures c.in-Negate.is) c.number_expr_variables.ensures

pub number_expr_variables-returns-in-Variable : goal.number_expr_variables-returns-in-Variable
number_expr_variables-returns-in-Variable t c =
    variable-way c.requires (here c.in-Expression.ensures c.in-Variable.is) (omega arith) c.number_variable.ensures

pub number_expr_variables-returns-in-Function : goal.number_expr_variables-returns-in-Function
number_expr_variables-returns-in-Function t c =
    function-way c.requires (here c.in-Expression.ensures c.in-Function.is) c.number_function.ensures

pub number_expr_variables-returns-in-Let : goal.number_expr_variables-returns-in-Let
number_expr_variables-returns-in-Let t c =
    let-way c.requires (here c.in-Expression.ensures c.in-Let.is) c.number_expr_variables-in-Let.ensures c.number_scope.ensures

pub number_expr_variables-returns-in-Match : goal.number_expr_variables-returns-in-Match
number_expr_variables-returns-in-Match t c =
    match-way c.requires (here c.in-Expression.ensures c.in-Match.is) c.number_expr_variables-in-Match.ensures c.number_arms.ensures

pub number_expr_variables-returns-in-Sequence : goal.number_expr_variables-returns-in-Sequence
number_expr_variables-returns-in-Sequence t c =
    sequence-way c.requires (here c.in-Expression.ensures c.in-Sequence.is) c.number_items.ensures

pub number_expr_variables-returns-in-Constant : goal.number_expr_variables-returns-in-Constant
number_expr_variables-returns-in-Constant t c = leaf-way c.requires (sym c.in-Expression.ensures) c.in-Constant.is

pub number_expr_variables-returns-in-Product : goal.number_expr_variables-returns-in-Product
number_expr_variables-returns-in-Product t c =
    operands-way c.requires (sym c.in-Expression.ensures) c.in-Product.is
    c.number_expr_variables-in-Product.ensures c.number_expr_variables-in-Product-2.ensures

pub number_function-returns : goal.number_function-returns
number_function-returns t c =
    body-way c.requires c.number_parameters.ensures c.number_expr_variables.ensures (from _ c.len-base.ensures.value c.unwind.ensures)

pub number_items-returns-in_default : goal.number_items-returns-in_default
number_items-returns-in_default t c = absurd (link-alone c.requires c.node.ensures c.in_default.not-Link)

pub number_items-number_expr_variables-requires : goal.number_items-number_expr_variables-requires
number_items-number_expr_variables-requires t c = at-node c.decreases (item-first c.requires (sym c.in-Link.ensures))

pub number_items-number_items-requires : goal.number_items-number_items-requires
number_items-number_items-requires t c =
    at-node c.decreases (item-rest c.requires (sym c.in-Link.ensures) c.if-rest-ne-NO_LINK.true c.number_expr_variables.ensures)

pub number_items-returns-then-rest-ne-NO_LINK : goal.number_items-returns-then-rest-ne-NO_LINK
number_items-returns-then-rest-ne-NO_LINK t c =
    item-more-way c.requires (sym c.in-Link.ensures) c.if-rest-ne-NO_LINK.true c.number_expr_variables.ensures c.number_items.ensures

pub number_items-returns-else-rest-ne-NO_LINK : goal.number_items-returns-else-rest-ne-NO_LINK
number_items-returns-else-rest-ne-NO_LINK t c =
    item-last-way c.requires (sym c.in-Link.ensures) c.if-rest-ne-NO_LINK.false c.number_expr_variables.ensures

pub number_scope-returns : goal.number_scope-returns
number_scope-returns t c =
    scope-way c.requires c.number_pattern_variables.ensures c.number_expr_variables.ensures (from _ c.len-base.ensures.value c.unwind.ensures)

pub number_arms-node-requires-clause-read : goal.number_arms-node-requires-clause-read
number_arms-node-requires-clause-read t c = link-read c.requires

pub number_items-node-requires-clause-read : goal.number_items-node-requires-clause-read
number_items-node-requires-clause-read t c = link-read c.requires

pub number_expr_variables-node-requires-clause-read : goal.number_expr_variables-node-requires-clause-read
number_expr_variables-node-requires-clause-read t c = expression-read c.requires
