-- Which rule made an equality, from the bytes of a source record to the bytes that `flatten` writes for it. Proved in proofs/Places.antt.
use Rattle.std.specs.Prelude.{◌≡◌, List, ℕ, ◌+◌, ◌<◌, length, take, Ok}
use Rattle.source.specs.Trees.{Module}
use Rattle.source.specs.Record.{Read, source_of}
use Rattle.numbering.specs.Numbering.{numbered}
use Rattle.flat.specs.Trees.{FlatModule}
use Rattle.flat.specs.Rules.{All}
use Rattle.constraint.specs.Trees.{ConstraintModule}
use Rattle.constraint.specs.Reading.{constraint_of}
use Rattle.pass_trees.specs.Passes.{passes}
use Rattle.pass_trees.specs.Statements.{PlacesInherited}
use Rattle.pass_entry.specs.Cut.{answer_for, output_for}
use Rattle.eval_trees.specs.Evaluation.{flat, evaluated}
use Rattle.eval_trees.specs.Places.{PlacesOfStatements}
use Rattle.eval_entry.specs.Source.{capacity_of}
use Rattle.flatten_entry.specs.Flatten.{flattened}

-- of a module m and its list c: the entries of the flat lists between them have the places of the statements that pushed them, and each equality, in order, has
-- that of the definition or equation it was cut from. So every place is that of a statement of m, "definitions first, from 0"
pub record PlacesOfRules (capacity : ℕ) (m : Module) (c : ConstraintModule) : Type 0 where
  pub between : FlatModule
  pub evaluated-to : evaluated capacity (numbered m) ≡ flat between
  pub by-statements : PlacesOfStatements capacity m between
  pub cut-into : passes between ≡ c
  pub inherited : PlacesInherited between
  pub equalities-below : All (λ q. q.place < length m.definitions + length m.expressions) c.equalities
  pub kept-below : All (λ d. d.place < length m.definitions + length m.expressions) c.kept

-- for every source record that is accepted, plain or not, of the equalities read back from the bytes that were written
abbrev pub FlattenPlaces : Type 0
FlattenPlaces =
    (b out : List ℕ) (len n : ℕ) (m : Module) →
    answer_for (length out) (flattened b len) ≡ Ok n →
    source_of b ≡ Read.module-of m →
    PlacesOfRules (capacity_of len) m (constraint_of (take n (output_for out (flattened b len))))
