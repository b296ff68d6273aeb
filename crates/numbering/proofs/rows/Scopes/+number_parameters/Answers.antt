use Rattle.std.proofs.Common.{sym}
use Rattle.numbering.proofs.Laws.{at-pattern}
use Rattle.numbering.proofs.Children.{link-read, link-alone}
use Rattle.numbering.proofs.Binding.{parameter-first, parameter-rest, parameter-last-way, parameter-more-way}
use Rattle.numbering.proofs.rows.Scopes.+number_parameters.Goals as goal

pub returns-in_default : goal.returns-in_default
returns-in_default t c = absurd (link-alone c.requires c.node.ensures c.in_default.not-Link)

pub number_pattern_variables-requires : goal.number_pattern_variables-requires
number_pattern_variables-requires t c = (parameter-first c.requires (sym c.in-Link.ensures)).1

pub number_parameters-requires : goal.number_parameters-requires
number_parameters-requires t c =
    at-pattern c.decreases (parameter-rest c.requires (sym c.in-Link.ensures) c.if-rest-ne-NO_LINK.true c.number_pattern_variables.ensures)

pub returns-then-rest-ne-NO_LINK : goal.returns-then-rest-ne-NO_LINK
returns-then-rest-ne-NO_LINK t c =
    parameter-more-way c.requires (sym c.in-Link.ensures) c.if-rest-ne-NO_LINK.true c.number_pattern_variables.ensures c.number_parameters.ensures

pub returns-else-rest-ne-NO_LINK : goal.returns-else-rest-ne-NO_LINK
returns-else-rest-ne-NO_LINK t c =
    parameter-last-way c.requires (sym c.in-Link.ensures) c.if-rest-ne-NO_LINK.false c.number_pattern_variables.ensures

pub node-requires-clause-read : goal.node-requires-clause-read
node-requires-clause-read t c = link-read c.requires
