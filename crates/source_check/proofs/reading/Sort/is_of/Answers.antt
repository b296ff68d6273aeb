-- `source_check::reading::Sort::is_of` meets its contract. Assumes nothing. The answer names the fact by which another test is refused.
use Rattle.std.proofs.Common.{◌≡◌, true}
use Rattle.std.specs.Prelude.{Some}
use Rattle.source.specs.declared.Node.{Node}
use Rattle.source.specs.declared.Shape.{Shape}
use Rattle.source.specs.Nodes.{is_pattern}
use Rattle.source_check.specs.declared.reading.Sort.{Sort}
use Rattle.source_check.specs.Marks.{is_of}
use Rattle.source_check.proofs.reading.Sort.is_of.Goals as goal

pattern-is : (s : Sort) (f : Shape) → s ≡ Sort.Pattern → true ≡ is_of s (Some (Node.Pattern f))
unfolding is_of is_pattern
pattern-is s f e = rw e

pub returns-in-Pattern-matches : goal.returns-in-Pattern-matches
returns-in-Pattern-matches c = rw c.in-Pattern-matches.is (pattern-is _ _ (search c))
