use Rattle.std.proofs.Common.{◌≡◌, sym, ap, ◌∙◌}
use Rattle.numbering.proofs.Laws.{at-pattern}
use Rattle.std.specs.Prelude.{Option, Some}
use Rattle.source.specs.declared.Node.{Node}
use Rattle.source.specs.declared.Shape.{Shape}
use Rattle.numbering.proofs.Children.{pattern-read, pattern-alone}
use Rattle.numbering.proofs.Binding.{paired, pair-first, pair-second, pair-way, as_first, as-bind, as-way, variable-bind, variable-way, leaf-way}
use Rattle.numbering.proofs.rows.Scopes.+number_pattern_variables.Goals as goal

-- the node that was read
here : {e : Option Node} {f g : Shape} → Some (Node.Pattern f) ≡ e → f ≡ g → e ≡ Some (Node.Pattern g)
here p q = sym p ∙ ap (λ (f : Shape). Some (Node.Pattern f)) q

pub returns-in_default : goal.returns-in_default
returns-in_default t c = absurd (pattern-alone c.requires c.node.ensures c.in_default.not-Pattern)

pub number_pattern_variables-requires : goal.number_pattern_variables-requires
number_pattern_variables-requires t c = at-pattern c.decreases (as_first c.requires (here c.in-Pattern.ensures c.in-As.is))

pub bind-requires : goal.bind-requires
bind-requires t c = as-bind c.requires (here c.in-Pattern.ensures c.in-As.is) c.number_pattern_variables.ensures

pub bind-requires-in-Variable : goal.bind-requires-in-Variable
bind-requires-in-Variable t c = variable-bind c.requires (here c.in-Pattern.ensures c.in-Variable.is)

pub number_pattern_variables-requires-in-Product : goal.number_pattern_variables-requires-in-Product
number_pattern_variables-requires-in-Product t c = at-pattern c.decreases (pair-first c.requires (sym c.in-Pattern.ensures) (paired c.in-Product.is))

pub number_pattern_variables-requires-in-Product-2 : goal.number_pattern_variables-requires-in-Product-2
number_pattern_variables-requires-in-Product-2 t c =
    at-pattern c.decreases (pair-second c.requires (sym c.in-Pattern.ensures) (paired c.in-Product.is) c.number_pattern_variables-in-Product.ensures)

pub returns-in-As : goal.returns-in-As
returns-in-As t c =
    as-way c.requires (here c.in-Pattern.ensures c.in-As.is) c.number_pattern_variables.ensures c.bind.ensures.bound c.bind.ensures.sized

pub returns-in-Variable : goal.returns-in-Variable
returns-in-Variable t c =
    variable-way c.requires (here c.in-Pattern.ensures c.in-Variable.is) c.bind-in-Variable.ensures.bound c.bind-in-Variable.ensures.sized

pub returns-in-Constant : goal.returns-in-Constant
returns-in-Constant t c = leaf-way c.requires (sym c.in-Pattern.ensures) c.in-Constant.is

pub returns-in-Product : goal.returns-in-Product
returns-in-Product t c =
    pair-way c.requires (sym c.in-Pattern.ensures) c.in-Product.is
    c.number_pattern_variables-in-Product.ensures c.number_pattern_variables-in-Product-2.ensures

pub node-requires-clause-read : goal.node-requires-clause-read
node-requires-clause-read t c = pattern-read c.requires
