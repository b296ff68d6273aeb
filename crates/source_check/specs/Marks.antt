-- For the contracts of the reader's private functions: what a part of the record that is read answers, and what it leaves in the marks.
use Rattle.std.specs.Prelude.{ℕ, ◌≡◌, List, Bool, true, false, Ok, Err, Option, ◌&&◌, ltb}
use Rattle.marks.specs.declared.Uses.{Uses}
use Rattle.marks.specs.Marks.{Adds}
use Rattle.records.specs.declared.refusals.Refusal.{Refusal}
use Rattle.source.specs.declared.Node.{Node}
use Rattle.source.specs.Nodes.{entry_of, is_expression, is_pattern}
use Rattle.source_check.specs.Answer.{Checked}
use Rattle.source_check.specs.declared.reading.Sort.{Sort}

-- accepted where a test holds, else refused
unfoldable pub verdict : Refusal → Bool → Checked
verdict r true = Ok tt
verdict r false = Err r

-- an entry that does not fit where the first test fails, else uses that are not one where the second does
unfoldable pub outcome : Bool → Bool → Checked
outcome true once = verdict Refusal.Uses once
outcome false once = Err Refusal.Entry

-- an entry that does not fit where a test fails, else marks m' that are m after so many more uses
abbrev pub Judged : Checked → Bool → List Uses → List Uses → (ℕ → ℕ) → Type 0
Judged r fits m m' uses = (r ≡ verdict Refusal.Entry fits) × (r ≡ Ok tt → Adds m m' uses)

-- whether a node is of a sort; x is one that stands before k
unfoldable pub is_of : Sort → Option Node → Bool
is_of Sort.Expression n = is_expression n
is_of Sort.Pattern n = is_pattern n

unfoldable pub sort_fits : List ℕ → ℕ → Sort → ℕ → ℕ → Bool
sort_fits b at sort k x = ltb x k && is_of sort (entry_of b at x)
