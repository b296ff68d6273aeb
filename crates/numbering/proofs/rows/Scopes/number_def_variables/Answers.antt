use Rattle.std.proofs.Common.{arith}
use Rattle.numbering.proofs.Listed.{def-way}
use Rattle.numbering.proofs.rows.Scopes.number_def_variables.Goals as goal

pub returns : goal.returns
returns c =
    let value = c.number_expr_variables.ensures in
    let pattern = c.number_pattern_variables.ensures in
    def-way c.requires _ (omega (arith, c.truncate.ensures.len, c.len-base.ensures.value, value.same_top, pattern.entries)) value pattern
