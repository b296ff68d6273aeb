-- The evaluator's answer in each of its cases: the flat record can be passed on, and what the passes or the refusal then give is `flattened`.
-- Assumes nothing.
use Prim.Native.Nat.{ℕ, ◌≤◌}
use mathlib.Core.Path.{◌≡◌, refl, sym, ap, subst, ◌∙◌}
use mathlib.Core.List.{List}
use native.Mathlib.Omega.{arith}
use lib.ListN.{length, take}
use Rattle.source.specs.Trees.{Module}
use Rattle.source.specs.Record.{Read, source_of}
use Rattle.flat.specs.Trees.{FlatModule, module_nodes}
use Rattle.flat.specs.Record.{module_of}
use Rattle.flat.specs.Readable.{Readable}
use Rattle.constraint.specs.Trees.{ConstraintModule}
use Rattle.pass_trees.specs.Passes.{cut, refused, cut_of}
use Rattle.numbering.specs.Numbering.{numbered}
use Rattle.eval_trees.specs.Evaluation.{Evaluated, flat, refusal, evaluated}
use Rattle.eval_trees.proofs.Made.{evaluated-is-made}
use Rattle.flat.specs.Writer.{flat_bytes}
use Rattle.std.specs.Prelude.{Result, Ok, Err}
use Rattle.records.specs.Refusals.{refusal_number}
use Rattle.records.specs.declared.refusals.Refusal.{Refusal}
use Rattle.eval_entry.specs.declared.FlatRecord.{FlatRecord}
use Rattle.eval_entry.specs.Source.{capacity_of, evaluated_read, evaluated_source, answered, array_for, answer_of}
use Rattle.eval_entry.proofs.Recorded.{next_fits, source-recorded, front-is, ok-refused, ok-answers}
use Rattle.agreement.specs.Flattened.{passed, flattened_of}
use Rattle.flatten_entry.specs.Flatten.{flattened_read, flattened}

flat-refusal : (f : FlatModule) (n : ℕ) → flat f ≡ refusal n → ⊥
flat-refusal f n e = let z : ◌≡◌ {A = ℕ} 0 1 = cc in omega arith

refused-answers : (n k : ℕ) → ◌≡◌ {A = Result ℕ ℕ} (Err n) (Err k) → n ≡ k
refused-answers n k e = cc

pub refused-cut : (n : ℕ) (c : ConstraintModule) → refused n ≡ cut c → ⊥
refused-cut n c e = let z : ◌≡◌ {A = ℕ} 0 1 = cc in omega arith

-- ---- what is evaluated

pub flattened-passed : (b : List ℕ) (len : ℕ) → flattened b len ≡ passed (evaluated_source b len)
unfolding flattened flattened_read flattened_of evaluated_source evaluated_read passed
flattened-passed b len = go (source_of b)
  where
    go : (r : Read) → flattened_read (capacity_of len) r ≡ passed (evaluated_read (capacity_of len) r)
    go (Read.module-of m) = refl
    go (Read.refused n) = refl

-- "Limits: .. 16,384 nodes"
module-small : (b : List ℕ) (m : Module) (capacity : ℕ) (f : FlatModule) → source_of b ≡ Read.module-of m
    → evaluated capacity (numbered m) ≡ flat f → module_nodes f ≤ 16384
module-small b m capacity f r e = (evaluated-is-made m (next_fits b m r) capacity f e).nodes-fit

pub evaluated-small : (b : List ℕ) (len : ℕ) (f : FlatModule) → evaluated_source b len ≡ flat f → module_nodes f ≤ 16384
unfolding evaluated_source evaluated_read
evaluated-small b len f e = go (source_of b) refl e
  where
    go : (r : Read) → source_of b ≡ r → evaluated_read (capacity_of len) r ≡ flat f → module_nodes f ≤ 16384
    go (Read.module-of m) r q = module-small b m (capacity_of len) f r q
    go (Read.refused n) r q = absurd (flat-refusal f _ (sym q))

-- ---- the answer

-- the code's answer and array are the evaluation's
abbrev pub Evaluates : List ℕ → ℕ → FlatRecord → Type 0
Evaluates b len r = (answer_of r.answer ≡ answered (evaluated_source b len)) × (r.bytes ≡ array_for (evaluated_source b len))

module _ (b : List ℕ) (len : ℕ) (r : FlatRecord) (is : Evaluates b len r) where
  -- a flat record: it is the front of the array, and says what was evaluated
  answered-flat : (n : ℕ) → r.answer ≡ Ok n → Readable (take n r.bytes) × (evaluated_source b len ≡ flat (module_of (take n r.bytes)))
  unfolding answered array_for
  answered-flat n a = go (evaluated_source b len) refl is.0 is.1
    where
      go : (x : Evaluated) → evaluated_source b len ≡ x → answer_of r.answer ≡ answered x → r.bytes ≡ array_for x
          → Readable (take n r.bytes) × (evaluated_source b len ≡ flat (module_of (take n r.bytes)))
      go (flat m) e q h =
          let recorded = source-recorded b len m e in
          let long = ok-answers n (length (flat_bytes m)) (sym (ap answer_of a) ∙ q) in
          let front = front-is m n r.bytes long h in
          (rw front recorded.readable, e ∙ ap flat (sym (rw front recorded.says)))
      go (refusal k) e q h = absurd (ok-refused n k (sym (ap answer_of a) ∙ q))

  answered-refused : (x : Refusal) → r.answer ≡ Err x → evaluated_source b len ≡ refusal (refusal_number x)
  unfolding answered
  answered-refused x a = go (evaluated_source b len) refl is.0
    where
      go : (v : Evaluated) → evaluated_source b len ≡ v → answer_of r.answer ≡ answered v → evaluated_source b len ≡ refusal (refusal_number x)
      go (flat m) e q = absurd (ok-refused _ (refusal_number x) (sym q ∙ ap answer_of a))
      go (refusal k) e q = e ∙ ap refusal (refused-answers k (refusal_number x) (sym q ∙ ap answer_of a))

-- a record: the passes can read it, and what they give is meant
pub record Passable (b : List ℕ) (len : ℕ) (l : List ℕ) : Type 0 where
  pub readable : Readable l
  pub small : module_nodes (module_of l) ≤ 16384
  pub gives : flattened b len ≡ cut_of (module_of l)

front-passable : (b : List ℕ) (len n : ℕ) (r : FlatRecord) → Evaluates b len r → r.answer ≡ Ok n → Passable b len (take n r.bytes)
unfolding passed
front-passable b len n r is a =
    let w = answered-flat b len r is n a in
    record {
      readable = w.0;
      small = evaluated-small b len (module_of (take n r.bytes)) w.1;
      gives = flattened-passed b len ∙ ap passed w.1;
    }

pub passable : (b : List ℕ) (len : ℕ) (r : FlatRecord) (l : List ℕ) → Evaluates b len r → (r.answer ≡ Ok (length l)) × (l ≡ take (length l) r.bytes)
    → Passable b len l
passable b len r l is a = subst (Passable b len) (sym a.1) (front-passable b len (length l) r is a.0)

-- a refusal
pub refused-gives : (b : List ℕ) (len : ℕ) (x : Refusal) (r : FlatRecord) → Evaluates b len r → r.answer ≡ Err x
    → flattened b len ≡ refused (refusal_number x)
unfolding passed
refused-gives b len x r is a = flattened-passed b len ∙ ap passed (answered-refused b len r is x a)
