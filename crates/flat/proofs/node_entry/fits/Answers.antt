-- `node_entry::fits` meets its contract. Assumes nothing. The answer names the fact by which another test is refused.
use Rattle.std.proofs.Common.{rules}
use mathlib.Core.Path.{sym, ◌∙◌}
use mathlib.Core.Bool.{true≢false}
use borrow.Author.Tests.{le-ltb}
use Rattle.flat.proofs.Marks.{infix-fits}
use Rattle.flat.proofs.node_entry.fits.Goals as goal
use Rattle.flat.proofs.node_entry.fits.Goals.{then-n-k, else-n-k}

pub returns-then-n-k-2 : goal.returns-then-n-k-2
returns-then-n-k-2 c = elim c.if-n-k.branch [
  | then-n-k w ↦ infix-fits _ _ _ _ _ _ (search rules) w.if-n-k.true (sym w.value-is ∙ c.if-n-k-2.true)
  | else-n-k w ↦ absurd (true≢false (sym c.if-n-k-2.true ∙ w.value-is ∙ le-ltb _ _ w.if-n-k.false))
]
