-- The places stand apart from all else. Proved in proofs/Bare.antt.
use Rattle.std.specs.Prelude.{◌≡◌, ℕ}
use Rattle.source.specs.Trees.{Module}
use Rattle.numbering.specs.Numbering.{numbered}
use Rattle.records.specs.Evaluation.{LEVELS}
use Rattle.eval_trees.specs.Evaluation.{evaluated_by}
use Rattle.pass_trees.specs.Statements.{bare_outcome}
use Rattle.agreement.specs.Flattened.{passed, flattened_of}

-- WITH THE PLACE WORDS TAKEN OUT the whole way makes of a module, plain or not, what it makes without places, refusals included
abbrev pub FlattenedBare : Type 0
FlattenedBare =
    (capacity : ℕ) (m : Module) → bare_outcome (flattened_of capacity m) ≡ bare_outcome (passed (evaluated_by LEVELS capacity (numbered m)))
