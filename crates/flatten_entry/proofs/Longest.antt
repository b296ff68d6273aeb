-- No constraint record of a source record is longer than the longest output. Assumes nothing.
use Prim.Native.Nat.{ℕ, ◌≤◌}
use mathlib.Core.Path.{◌≡◌, refl, sym, subst}
use mathlib.Core.List.{List}
use lib.ListN.{length}
use Rattle.pass_entry.specs.Body.{OUTPUT-BYTES}
use Rattle.pass_entry.proofs.Longest.{passes-short}
use Rattle.source.specs.Trees.{Module}
use Rattle.source.specs.Record.{Read, source_of}
use Rattle.flat.specs.Trees.{FlatModule}
use Rattle.constraint.specs.Trees.{ConstraintModule}
use Rattle.constraint.specs.Record.{constraint_bytes}
use Rattle.pass_trees.specs.Passes.{passes, cut}
use Rattle.pass_trees.proofs.Agreement.{accepted}
use Rattle.numbering.specs.Numbering.{numbered}
use Rattle.eval_trees.specs.Evaluation.{Evaluated, flat, refusal, evaluated}
use Rattle.eval_trees.specs.Statements.{Made}
use Rattle.eval_trees.proofs.Made.{evaluated-is-made, evaluated-publics}
use Rattle.eval_entry.specs.Source.{capacity_of}
use Rattle.eval_entry.proofs.Recorded.{publics-few, next_fits}
use Rattle.agreement.specs.Flattened.{passed, flattened_of}
use Rattle.flatten_entry.specs.Flatten.{flattened_read, flattened}
use Rattle.flatten_entry.specs.Statement.{LongestRecord}
use Rattle.flatten_entry.proofs.Answers.{refused-cut}

module _ (b : List ℕ) (m : Module) (r : source_of b ≡ Read.module-of m) (capacity : ℕ) (f : FlatModule) (e : evaluated capacity (numbered m) ≡ flat f) where
  made : Made f
  made = evaluated-is-made m (next_fits b m r) capacity f e

  flat-publics : f.publics ≡ (numbered m).publics
  flat-publics = evaluated-publics capacity (numbered m) f e

  pub short : length (constraint_bytes (passes f)) ≤ OUTPUT-BYTES
  short =
      passes-short f (subst (λ (ps : List ℕ). length ps ≤ 64) (sym flat-publics) (publics-few b m r)) made.next_fits made.nodes-fit

pub longest-record : LongestRecord
unfolding flattened flattened_read flattened_of passed
longest-record b len c e = go (source_of b) refl e
  where
    at : (m : Module) (v : Evaluated) → source_of b ≡ Read.module-of m → evaluated (capacity_of len) (numbered m) ≡ v → passed v ≡ cut c
        → length (constraint_bytes c) ≤ OUTPUT-BYTES
    at m (flat f) r q k = subst (λ (x : ConstraintModule). length (constraint_bytes x) ≤ OUTPUT-BYTES) (accepted f c k).1 (short b m r (capacity_of len) f q)
    at m (refusal n) r q k = absurd (refused-cut n c k)

    go : (r : Read) → source_of b ≡ r → flattened_read (capacity_of len) r ≡ cut c → length (constraint_bytes c) ≤ OUTPUT-BYTES
    go (Read.module-of m) r q = at m (evaluated (capacity_of len) (numbered m)) r refl q
    go (Read.refused n) r q = absurd (refused-cut _ c q)
