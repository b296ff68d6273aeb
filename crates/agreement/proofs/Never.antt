-- There is never a second solution, whatever the inputs' elements are: zero divisors included.
use mathlib.Core.Path.{◌≡◌, refl, sym, subst}
use Prim.Native.Nat.{ℕ}
use native.Mathlib.Omega.{arith}
use lib.IntN.{ℤ}
use Rattle.source.specs.Trees.{Module}
use Rattle.flat.specs.Trees.{FlatModule}
use Rattle.flat.specs.Rules.{All}
use Rattle.constraint.specs.Trees.{ConstraintModule}
use Rattle.constraint.specs.Meaning.{EqualityHolds}
use Rattle.pass_trees.specs.Passes.{cut, cut_of}
use Rattle.pass_trees.proofs.Agreement.{cut-keeps-meaning-at, passes-keep-solutions, accepted}
use Rattle.numbering.specs.Numbering.{numbered}
use Rattle.eval_trees.specs.Evaluation.{Evaluated, flat, refusal, evaluated}
use Rattle.plain.specs.Statements.{IsInput, PlainFlat}
use Rattle.plain.proofs.Agreement.{plain-modules-agree}
use Rattle.agreement.specs.Flattened.{passed, flattened_of}
use Rattle.agreement.specs.Statement.{OneAtMost, NeverASecond}
use Rattle.agreement.proofs.Agreement.{has-inputs, to-ids}

-- a solution fulfils the counted definitions, so it is itself the values that the theorem of `cut` asks for
one_at_most : (m : Module) (f : FlatModule) (c : ConstraintModule) → PlainFlat m f → cut_of f ≡ cut c → (ρ : ℕ → ℤ) → OneAtMost m c ρ
one_at_most m f c w is_cut ρ σ υ s r =
    let well = w.well-formed in
    let fulfils = subst (λ (d : ConstraintModule). All (EqualityHolds σ) d.equalities) (sym (accepted f c is_cut).1) s.fulfils in
    let counted-hold = ((passes-keep-solutions f well.definitions-below well.equations-below).reads σ s.elements fulfils).0 in
    (cut-keeps-meaning-at f c well is_cut (IsInput m) (has-inputs m f w) σ σ s.elements (λ v i. refl) counted-hold).unique σ υ
    (record { elements = s.elements; inputs = λ v i. refl; fulfils = s.fulfils })
    (record { elements = r.elements; inputs = to-ids m f w ρ σ υ s.given r.given; fulfils = r.fulfils })

-- THE THEOREM
pub never-a-second : NeverASecond
unfolding flattened_of passed
never-a-second m plain capacity c e ρ = go (evaluated capacity (numbered m)) refl e
  where
    go : (x : Evaluated) → evaluated capacity (numbered m) ≡ x → passed x ≡ cut c → OneAtMost m c ρ
    go (flat f) h k = one_at_most m f c (plain-modules-agree m plain capacity f h).0 k ρ
    go (refusal n) h k = absurd (let z : ◌≡◌ {A = ℕ} 0 1 = cc in omega arith)
