-- The Rust's own copy propagation, which would make an entry also of a variable for itself and then not end: it ends on every flat module that comes of a
-- source record, and gives there what the port's does. Proved in proofs/Ending.antt.
use Rattle.std.specs.Prelude.{◌≡◌, List, ℕ, length}
use Rattle.source.specs.Trees.{Module}
use Rattle.source.specs.Record.{Read, source_of}
use Rattle.flat.specs.Trees.{FlatModule}
use Rattle.numbering.specs.Numbering.{numbered}
use Rattle.eval_trees.specs.Evaluation.{flat, evaluated}
use Rattle.pass_trees.specs.Passes.{classify_defs, copy_propagate}
use Rattle.pass_trees.specs.Statements.{rust_copy_propagate, RustEnds}

-- each walk ends within as many steps as there are used definitions
abbrev pub RustEndsOnEvaluated : Type 0
RustEndsOnEvaluated =
    (b : List ℕ) (m : Module) (capacity : ℕ) (f : FlatModule) →
    source_of b ≡ Read.module-of m →
    evaluated capacity (numbered m) ≡ flat f →
    let k = length (classify_defs f).definitions in
    RustEnds k (classify_defs f) × (rust_copy_propagate k (classify_defs f) ≡ copy_propagate (classify_defs f))
