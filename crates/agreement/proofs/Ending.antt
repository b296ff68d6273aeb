-- THE RUST'S OWN COPY PROPAGATION ENDS ON EVERY FLAT MODULE THAT EVALUATION MAKES, ids defined twice included: its definitions are ranked (eval_trees,
-- OrderedModule),
-- a substitution leads to a lower rank, and so no definition's copy is its own variable.
use mathlib.Core.Path.{◌≡◌, subst}
use mathlib.Core.List.{List, [], ◌∷◌}
use mathlib.Core.Option.{none}
use Prim.Native.Nat.{ℕ, ◌<◌}
use native.Mathlib.Nat.{le_trans}
use native.Mathlib.Omega.{arith}
use lib.ListN.{length}
use Rattle.source.specs.Trees.{Module}
use Rattle.flat.specs.Trees.{Definition, FlatModule}
use Rattle.flat.specs.Rules.{All, Every}
use Rattle.constraint.specs.Meaning.{InTerm}
use Rattle.pass_trees.specs.Passes.{member, classify_defs, Substitutions, copy_propagate_expr, after_def, copy_propagate}
use Rattle.pass_trees.specs.Statements.{rust_copy_propagate, RustEnds, NoneItself}
use Rattle.pass_trees.proofs.Lists.{term-map, all-those}
use Rattle.pass_trees.proofs.Copied.{Entries, none-entries, substituting-entries, copy-in, unflat}
use Rattle.pass_trees.proofs.Rust.{rust-agrees, rust-ends-unless-itself}
use Rattle.numbering.specs.Numbering.{numbered}
use Rattle.eval_trees.specs.Evaluation.{flat, evaluated}
use Rattle.eval_trees.specs.Ranks.{Ranked}
use Rattle.eval_trees.proofs.NeatModule.{BareModule}
use Rattle.eval_trees.proofs.OrderedModule.{evaluated-ranked}

-- the copy of a right side has ranks below that of the definition's id
none-itself : (rank : ℕ → ℕ) (ps : List ℕ) (k : ℕ) (ds : List Definition) (s : Substitutions) →
    All (λ d. Every (λ v. rank v < rank d.id) d.right) ds → Entries (λ v t. InTerm (λ w. rank w < rank v) t) s → NoneItself ps k s ds
unfolding after_def
none-itself rank ps k [] s h e = tt
none-itself rank ps k (d ∷ ds) s h e =
    let lower : Every (λ w. rank w < rank d.id) (copy_propagate_expr k s d.right) = copy-in (λ w. rank w < rank d.id) s
    (λ v t q l. term-map (λ w r. le_trans r (omega (arith, l))) t (e v t q)) k d.right h.0 in (
      (λ _ q. let n : rank d.id < rank d.id = subst (Every (λ w. rank w < rank d.id)) q lower in omega (arith, n)),
      none-itself rank ps k ds _ h.1
          (substituting-entries (λ v t. InTerm (λ w. rank w < rank v) t) (member d.id ps) d.id (copy_propagate_expr k s d.right) s
          (λ t _ q. unflat (λ w. rank w < rank d.id) t (subst (Every (λ w. rank w < rank d.id)) q lower))
          e),
    )

-- classify_defs leaves some definitions out
pub rust-ends-on-ranked : (f : FlatModule) → Ranked f.definitions → RustEnds (length (classify_defs f).definitions) (classify_defs f)
unfolding classify_defs
rust-ends-on-ranked f r = rust-ends-unless-itself (classify_defs f) (none-itself r.rank (classify_defs f).provers (length (classify_defs f).definitions)
    (classify_defs f).definitions (λ _. none) (all-those _ _ f.definitions r.lower) (none-entries _))

pub rust-ends-on-evaluated : (m : Module) → BareModule m → (capacity : ℕ) (f : FlatModule) → evaluated capacity (numbered m) ≡ flat f →
    RustEnds (length (classify_defs f).definitions) (classify_defs f)
rust-ends-on-evaluated m b capacity f e = rust-ends-on-ranked f (evaluated-ranked m b capacity f e)

-- and there it gives what the port's does
pub rust-agrees-on-evaluated : (m : Module) → BareModule m → (capacity : ℕ) (f : FlatModule) → evaluated capacity (numbered m) ≡ flat f →
    rust_copy_propagate (length (classify_defs f).definitions) (classify_defs f) ≡ copy_propagate (classify_defs f)
rust-agrees-on-evaluated m b capacity f e = rust-agrees (length (classify_defs f).definitions) (classify_defs f) (rust-ends-on-evaluated m b capacity f e)
