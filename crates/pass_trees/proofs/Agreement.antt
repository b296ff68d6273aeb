-- The passes keep the meaning of a flat module.
use Rattle.std.proofs.Common.{◌≡◌, ℕ, ◌<◌, Bool, true, false, not, ◌&&◌, leb, ◌↔◌, List, length, sym, refl, ap, ◌∙◌, subst, le_refl, arith}
use mathlib.Core.Option.{none}
use Rattle.flat.specs.Trees.{Definition, Equation, FlatModule}
use Rattle.flat.specs.Rules.{All, Every, Ordered, WellFormed}
use Rattle.flat.specs.Meaning.{Assignment, DefinitionHolds, EquationHolds}
use Rattle.constraint.specs.Trees.{ConstraintModule}
use Rattle.constraint.specs.Meaning.{InEquality, EqualityHolds, Solution}
use Rattle.pass_trees.specs.Passes.{member, those, classify_defs, copy_propagate_defs, after_defs, copy_propagate_equations}
use Rattle.pass_trees.specs.Passes.{copy_propagate, alive, eliminate_dead_equalities, Cuts, flatten_lists, flatten_module_to_3ac}
use Rattle.pass_trees.specs.Passes.{cuttable_defs, cuttable_equations, counted, Outcome, cut, unless, fitting, passes, cut_of}
use Rattle.pass_trees.specs.Meaning.{Known, Inputs, worked}
use Rattle.pass_trees.specs.Statements.{KeepsMeaning, CutKeepsMeaning, CutKeepsMeaningAt, Fulfils}
use Rattle.pass_trees.specs.Statements.{Extension, PassesKeepSolutions, InputsUncounted, InputsGiven}
use Rattle.pass_trees.proofs.Lists.{bool-not, every_map, every-both, all-those, both_true, all_map}
use Rattle.pass_trees.proofs.Copied.{CountedIn, none-entries, copies-hold, equations-copied, alive-hold, copies-in, equations-in, alive-in}
use Rattle.pass_trees.proofs.Classified.{all_both, all-defined, those-back, inputs-given as given-inputs}
use Rattle.pass_trees.proofs.Pieces.{Piece, renamed, equations-piece, module-piece}
use Rattle.pass_trees.proofs.Working.{in-turn-is-at-end, worked-elements, worked-other, worked-hold, agree-all, ordered-those}

-- copy propagation and elimination: what is cut, and that it means the same
module _ (f : FlatModule) where
  ps : List ℕ
  ps = (classify_defs f).provers

  ds : List Definition
  ds = (classify_defs f).definitions

  copied_defs : List Definition
  copied_defs = copy_propagate_defs ps (length ds) (λ _. none) ds

  copied_equations : List Equation
  copied_equations = alive (copy_propagate_equations (length ds) (after_defs ps (length ds) (λ _. none) ds) f.equations)

  fulfils-copied : (σ : Assignment)
      → Fulfils f σ ↔ (All (DefinitionHolds σ) (those (λ v. not (member v ps)) copied_defs) × All (EquationHolds σ) copied_equations)
  unfolding counted ps ds copied_defs copied_equations
  fulfils-copied σ =
      let c = copies-hold σ ps (length ds) ds (λ _. none) (none-entries _) in (
        (λ h. (c.0 h.0, (alive-hold σ _).0 ((equations-copied σ (length ds) _ (c.2 h.0) f.equations).0 h.1))),
        (λ h. let g = c.1 h.0 in (g, (equations-copied σ (length ds) _ (c.2 g) f.equations).1 ((alive-hold σ _).1 h.1))),
      )

  -- the whole cut is one piece, over any update of ids below the next id that has the variables of counted definitions and equations
  whole_in : (S : ℕ → Type 0) → ((v : ℕ) → S v → v < f.next) → All (CountedIn S ps) ds → All (λ e. Every S e.left × Every S e.right) f.equations
      → Piece f.next S (Fulfils f) (flatten_lists ps copied_defs copied_equations)
  unfolding copied_defs copied_equations
  whole_in S low h i =
      let c = copies-in S ps (length ds) ds (λ _. none) (none-entries _) h in
      renamed f.next S low
      (module-piece f.next S low ps copied_defs copied_equations c.0 (alive-in _ _ (equations-in S (length ds) _ c.1 f.equations i)))
      (λ σ. (fulfils-copied σ).1) (λ σ. (fulfils-copied σ).0)

  cut-equalities : (passes f).equalities ≡ (flatten_lists ps copied_defs copied_equations f.next).equalities
  unfolding passes flatten_module_to_3ac eliminate_dead_equalities copy_propagate copied_defs copied_equations ps ds classify_defs
  cut-equalities = refl

-- an outcome that is no refusal
passed : (b : Bool) (n : ℕ) (a : Outcome) (c : ConstraintModule) → unless b n a ≡ cut c → (b ≡ true) × (a ≡ cut c)
unfolding unless
passed true n a c e = (refl, e)
passed false n a c e = absurd (let z : ◌≡◌ {A = ℕ} 0 1 = cc in omega arith)

pub accepted : (f : FlatModule) (c : ConstraintModule) → cut_of f ≡ cut c → (cuttable_defs (counted f) ≡ true) × (passes f ≡ c)
unfolding cut_of fitting
accepted f c e =
    let p = passed (cuttable_defs (counted f) && cuttable_equations f.equations) 22 _ c e in
    let q = passed (leb (passes f).next 65536) 32 (cut (passes f)) c p.1 in
    let r : cut (passes f) ≡ cut c = q.1 in
    ((both_true (cuttable_defs (counted f)) _ p.0).0, cc)

pub passes-keep-solutions : PassesKeepSolutions
unfolding ds classify_defs
passes-keep-solutions f h i =
    record {
      reads = λ σ el k. piece.reads σ el f.next (subst (All (EqualityHolds σ)) (cut-equalities f) k);
      extends = λ σ el k.
          let x : Extension σ f.next cut_list.equalities = piece.writes σ el f.next (le_refl f.next) k in
          record {
            assignment = x.assignment;
            elements = x.elements;
            same = x.same;
            holds = subst (All (EqualityHolds x.assignment)) (sym (cut-equalities f)) x.holds;
          };
      determines = λ σ τ s k l.
          subst (All (InEquality (λ v. σ v ≡ τ v))) (sym (cut-equalities f))
          (piece.determines σ τ s f.next (subst (All (EqualityHolds σ)) (cut-equalities f) k) (subst (All (EqualityHolds τ)) (cut-equalities f) l));
    }
  where
    cut_list : Cuts
    cut_list = flatten_lists (ps f) (copied_defs f) (copied_equations f) f.next

    piece : Piece f.next (λ v. v < f.next) (Fulfils f) (flatten_lists (ps f) (copied_defs f) (copied_equations f))
    piece = whole_in f (λ v. v < f.next) (λ v l. l) (all_map (λ d k _. k) (ds f) (all-those _ _ f.definitions h)) i

-- the counted definitions are in order, and their right sides matter
pub counted-ordered : (f : FlatModule) → WellFormed f → Ordered (counted f)
unfolding counted classify_defs
counted-ordered f w = ordered-those _ _ (ordered-those _ f.definitions w.ordered)

-- the ids that matter: those below the next id that are counted or inputs
module _ (f : FlatModule) (w : WellFormed f) (I : ℕ → Type 0) (inputs : Inputs f I) where
  abbrev pub Matters : ℕ → Type 0
  Matters v = (v < f.next) × Known f I v

  low : (v : ℕ) → Matters v → v < f.next
  low v r = r.0

  counted-below : All (λ d. (d.id < f.next) × Every (λ v. v < f.next) d.right) (counted f)
  unfolding counted classify_defs
  counted-below = all-those _ _ _ (all-those _ _ f.definitions w.definitions-below)

  counted-matter : All (λ d. Matters d.id × Every Matters d.right) (counted f)
  counted-matter =
      all_map
      (λ d h. ((h.0.0, λ n. bool-not (sym h.1.0 ∙ n)), every-both (λ v. v < f.next) (Known f I) d.right h.0.1 h.1.1))
      (counted f)
      (all_both _ _ (counted f) counted-below (all_both _ _ (counted f) (all-defined (counted f)) inputs.definitions))

  equations-matter : All (λ e. Every Matters e.left × Every Matters e.right) f.equations
  equations-matter =
      all_map (λ e h.
      (every-both (λ v. v < f.next) (Known f I) e.left h.0.0 h.1.0, every-both (λ v. v < f.next) (Known f I) e.right h.0.1 h.1.1))
      f.equations
      (all_both _ _ f.equations w.equations-below inputs.equations)

  whole : Piece f.next Matters (Fulfils f) (flatten_lists (ps f) (copied_defs f) (copied_equations f))
  unfolding ps ds counted
  whole =
      whole_in f Matters low
      (all_map (λ d h n. h (ap not n)) (classify_defs f).definitions
      (those-back _ (λ v. not (member v (classify_defs f).provers)) (classify_defs f).definitions counted-matter))
      equations-matter

  -- two assignments under which the counted definitions hold and which agree on the inputs agree on all ids that matter, and so on the equations
  pub matters-same : (σ τ : Assignment) → All (DefinitionHolds σ) (counted f) → All (DefinitionHolds τ) (counted f) → ((v : ℕ) → I v → σ v ≡ τ v)
      → (v : ℕ) → Matters v → σ v ≡ τ v
  matters-same σ τ h i s =
      agree-all Matters σ τ (counted f) (counted-ordered f w) (all_map (λ d k. k.1) (counted f) counted-matter) h i (λ v r n. s v (r.1 n))

  pub equations-same : (σ τ : Assignment) → ((v : ℕ) → Matters v → τ v ≡ σ v) → All (EquationHolds σ) f.equations → All (EquationHolds τ) f.equations
  equations-same σ τ s h = (equations-piece f.next Matters low f.equations equations-matter).local σ τ s h

-- for any values τ that the counted definitions have with ρ
pub cut-keeps-meaning-at : CutKeepsMeaningAt
unfolding ps ds
cut-keeps-meaning-at f c w e I is ρ τ el given holds =
    subst (λ (c : ConstraintModule). KeepsMeaning f c I ρ τ) (accepted f c e).1 (record { agrees = (there, back); unique = one })
  where
    cut_list : Cuts
    cut_list = flatten_lists (ps f) (copied_defs f) (copied_equations f) f.next

    piece : Piece f.next (Matters f w I is) (Fulfils f) (flatten_lists (ps f) (copied_defs f) (copied_equations f))
    piece = whole f w I is

    there : All (EquationHolds τ) f.equations → (σ : Assignment) × Solution I (passes f) ρ σ
    there h =
        let x : Extension τ f.next cut_list.equalities = piece.writes τ el f.next (le_refl f.next) (holds, h) in (
          x.assignment,
          record {
            elements = x.elements;
            inputs = λ v i. x.same v (is.only v i).0 ∙ given v i;
            fulfils = subst (All (EqualityHolds x.assignment)) (sym (cut-equalities f)) x.holds;
          },
        )

    listed : (σ : Assignment) → Solution I (passes f) ρ σ → All (EqualityHolds σ) cut_list.equalities
    listed σ s = subst (All (EqualityHolds σ)) (cut-equalities f) s.fulfils

    fulfilled : (σ : Assignment) → Solution I (passes f) ρ σ → Fulfils f σ
    fulfilled σ s = piece.reads σ s.elements f.next (listed σ s)

    -- a solution has the values τ
    same : (σ : Assignment) → Solution I (passes f) ρ σ → (v : ℕ) → Matters f w I is v → σ v ≡ τ v
    same σ s = matters-same f w I is σ τ (fulfilled σ s).0 holds (λ v i. s.inputs v i ∙ sym (given v i))

    back : ((σ : Assignment) × Solution I (passes f) ρ σ) → All (EquationHolds τ) f.equations
    back s = equations-same f w I is s.0 τ (λ v r. sym (same s.0 s.1 v r)) (fulfilled s.0 s.1).1

    one : (σ υ : Assignment) → Solution I (passes f) ρ σ → Solution I (passes f) ρ υ → All (InEquality (λ v. σ v ≡ υ v)) (passes f).equalities
    one σ υ s t =
        subst (All (InEquality (λ v. σ v ≡ υ v))) (sym (cut-equalities f))
        (piece.determines σ υ (λ v r. same σ s v r ∙ sym (same υ t v r)) f.next (listed σ s) (listed υ t))

-- and for those that are worked out
pub cut-keeps-meaning : CutKeepsMeaning
cut-keeps-meaning f c w e I is ρ el dv =
    cut-keeps-meaning-at f c w e I is ρ (worked f ρ) (worked-elements (counted f) ρ el) (λ v i. worked-other (counted f) ρ v (is.only v i).1)
    (worked-hold (counted f) (counted-ordered f w) ρ ((in-turn-is-at-end (counted f) (counted-ordered f w) ρ).0 dv))

pub inputs-uncounted : InputsUncounted
unfolding counted classify_defs
inputs-uncounted f w =
    record {
      equations =
          all_map (λ e h. (every_map (λ v l n. (l, n)) e.left h.0, every_map (λ v l n. (l, n)) e.right h.1)) f.equations w.equations-below;
      definitions =
          all_map (λ d h. every_map (λ v l n. (l, n)) d.right h.1) (counted f) (all-those _ _ _ (all-those _ _ f.definitions w.definitions-below));
      only = λ v i. i;
    }

pub inputs-given : InputsGiven
inputs-given f w = given-inputs f w
