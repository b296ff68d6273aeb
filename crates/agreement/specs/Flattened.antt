-- The whole way: a module numbered, evaluated, and cut by the passes.
use Rattle.std.specs.Prelude.{ℕ}
use Rattle.source.specs.Trees.{Module}
use Rattle.numbering.specs.Numbering.{numbered}
use Rattle.eval_trees.specs.Evaluation.{Evaluated, flat, refusal, evaluated}
use Rattle.pass_trees.specs.Passes.{Outcome, refused, cut_of}

-- each stage runs only where the one before did not refuse
unfoldable pub passed : Evaluated → Outcome
passed (flat f) = cut_of f
passed (refusal n) = refused n

-- the constraint list of a module, or a refusal number; `capacity` is how many nodes the lent store holds
unfoldable pub flattened_of : ℕ → Module → Outcome
flattened_of capacity m = passed (evaluated capacity (numbered m))
