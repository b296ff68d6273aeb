-- What `flatten` makes of every byte string with every lent store. Its answer and the output then are `answer_for` and `output_for` of
-- pass_entry/specs/Cut.antt.
use Rattle.std.specs.Prelude.{ℕ, List}
use Rattle.source.specs.Record.{Read, source_of}
use Rattle.pass_trees.specs.Passes.{Outcome, refused}
use Rattle.eval_entry.specs.Source.{capacity_of}
use Rattle.agreement.specs.Flattened.{flattened_of}
use Rattle.records.specs.Refusals.{refusal_number}

-- the refusals 1 to 6 of reading, or what numbering, evaluation and the passes make of the module
unfoldable pub flattened_read : ℕ → Read → Outcome
flattened_read capacity (Read.module-of m) = flattened_of capacity m
flattened_read capacity (Read.refused r) = refused (refusal_number r)

-- the bytes of a record, and how many bytes are lent as a store
unfoldable pub flattened : List ℕ → ℕ → Outcome
flattened b len = flattened_read (capacity_of len) (source_of b)
