use Rattle.std.proofs.Common.{List, ap}
use Rattle.numbering.specs.Walks.{no_row, no_entries, no_scopes}
use Rattle.numbering.specs.declared.rows.Undo.{Undo}
use Rattle.numbering.proofs.rows.Scopes.new.Goals as goal

pub returns : goal.returns
unfolding no_row no_entries
returns c = ap (λ (xs : List Undo). record no_scopes { undo = record { items = xs } }) c.new.ensures
