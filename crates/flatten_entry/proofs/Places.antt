-- Which rule made an equality. Assumes nothing.
use mathlib.Core.Path.{◌≡◌, refl, sym, subst}
use mathlib.Core.List.{List, [], ◌∷◌}
use Prim.Native.Nat.{ℕ, zero, suc, ◌+◌, ◌<◌}
use lib.ListN.{length, take, replicate}
use Rattle.source.specs.Trees.{Module}
use Rattle.source.specs.Record.{Read, source_of}
use Rattle.flat.specs.Trees.{Definition, Equation, FlatModule}
use Rattle.flat.specs.Rules.{All}
use Rattle.constraint.specs.Trees.{Equality, ConstraintModule}
use Rattle.constraint.specs.Reading.{constraint_of}
use Rattle.pass_trees.specs.Passes.{classify_defs, copy_propagate, passes, counted, cut}
use Rattle.pass_trees.specs.Statements.{equalities_into, places, definition_places, equation_places, own_places, own_equation_places}
use Rattle.pass_trees.proofs.Lists.{all_append, all-those}
use Rattle.pass_trees.proofs.Inherited.{places-inherited}
use Rattle.pass_trees.proofs.Agreement.{accepted}
use Rattle.numbering.specs.Numbering.{numbered}
use Rattle.eval_trees.specs.Evaluation.{Evaluated, flat, refusal, evaluated}
use Rattle.eval_trees.proofs.Placed.{evaluated-places}
use Rattle.eval_entry.specs.Source.{capacity_of}
use Rattle.eval_entry.proofs.Recorded.{next_fits}
use Rattle.pass_entry.specs.Cut.{output_for}
use Rattle.agreement.specs.Flattened.{passed, flattened_of}
use Rattle.flatten_entry.specs.Flatten.{flattened}
use Rattle.flatten_entry.specs.Places.{PlacesOfRules, FlattenPlaces}
use Rattle.flatten_entry.proofs.Agreement.{written-read-back, module-flattened}
use Rattle.flatten_entry.proofs.Answers.{refused-cut}

-- ---- a property that the places of the flat lists have, those of the equalities and of the kept definitions have

module _ (Q : ℕ → Type 0) where
  repeated : (n p : ℕ) → Q p → All Q (replicate n p)
  repeated zero p h = tt
  repeated (suc n) p h = (h, repeated n p h)

  of-equalities : (qs : List Equality) → All Q (places qs) → All (λ q. Q q.place) qs
  unfolding places
  of-equalities [] h = tt
  of-equalities (q ∷ qs) h = (h.0, of-equalities qs h.1)

  of-definitions : (ds : List Definition) → All (λ d. Q d.place) ds → All Q (definition_places ds)
  unfolding definition_places
  of-definitions [] h = tt
  of-definitions (d ∷ ds) h = all_append Q (replicate (equalities_into d.right) d.place) (definition_places ds) (repeated _ d.place h.0) (of-definitions ds h.1)

  of-equations : (es : List Equation) → All Q (own_equation_places es) → All Q (equation_places es)
  unfolding equation_places own_equation_places
  of-equations [] h = tt
  of-equations (e ∷ es) h = all_append Q _ (equation_places es) (repeated _ e.place h.0) (of-equations es h.1)

  own-definitions : (ds : List Definition) → All (λ d. Q d.place) ds → All Q (own_places ds)
  unfolding own_places
  own-definitions [] h = tt
  own-definitions (d ∷ ds) h = (h.0, own-definitions ds h.1)

  own-back : (ds : List Definition) → All Q (own_places ds) → All (λ d. Q d.place) ds
  unfolding own_places
  own-back [] h = tt
  own-back (d ∷ ds) h = (h.0, own-back ds h.1)

  own-equations : (es : List Equation) → All (λ e. Q e.place) es → All Q (own_equation_places es)
  unfolding own_equation_places
  own-equations [] h = tt
  own-equations (e ∷ es) h = (h.0, own-equations es h.1)

  module _ (f : FlatModule) (ds : All (λ d. Q d.place) f.definitions) (es : All (λ e. Q e.place) f.equations) where
    used : All (λ d. Q d.place) (classify_defs f).definitions
    unfolding classify_defs
    used = all-those (λ d. Q d.place) _ f.definitions ds

    cut-places : All (λ q. Q q.place) (passes f).equalities
    unfolding counted
    cut-places =
        let p = places-inherited f in
        let copied = (copy_propagate (classify_defs f)).equations in
        of-equalities (passes f).equalities (subst (All Q) (sym p.equalities)
        (all_append Q (definition_places (counted f)) (equation_places copied) (of-definitions (counted f) (all-those (λ d. Q d.place) _ _ used))
        (of-equations copied (subst (All Q) (sym p.equations) (own-equations f.equations es)))))

    kept-places : All (λ d. Q d.place) (passes f).kept
    kept-places =
        let p = places-inherited f in
        own-back (passes f).kept (subst (All Q) (sym p.kept) (own-definitions _ (all-those (λ d. Q d.place) _ _ used)))

-- ---- the whole way

rules-placed : (b : List ℕ) (capacity : ℕ) (m : Module) (c : ConstraintModule) → source_of b ≡ Read.module-of m → flattened_of capacity m ≡ cut c
    → PlacesOfRules capacity m c
unfolding flattened_of passed
rules-placed b capacity m c r e = go (evaluated capacity (numbered m)) refl e
  where
    go : (v : Evaluated) → evaluated capacity (numbered m) ≡ v → passed v ≡ cut c → PlacesOfRules capacity m c
    go (refusal n) q k = absurd (refused-cut n c k)
    go (flat f) q k =
        let by = evaluated-places m (next_fits b m r) capacity f q in
        let below : ℕ → Type 0 = λ p. p < length m.definitions + length m.expressions in
        let is = (accepted f c k).1 in
        record {
          between = f;
          evaluated-to = q;
          by-statements = by;
          cut-into = is;
          inherited = places-inherited f;
          equalities-below =
              subst (λ (x : ConstraintModule). All (λ p. below p.place) x.equalities) is (cut-places below f by.definitions-below by.equations-below);
          kept-below = subst (λ (x : ConstraintModule). All (λ d. below d.place) x.kept) is (kept-places below f by.definitions-below by.equations-below);
        }

pub flatten-places : FlattenPlaces
flatten-places b out len n m e r =
    let w = written-read-back b out len n e in
    let list = constraint_of (take n (output_for out (flattened b len))) in
    rules-placed b (capacity_of len) m list r (module-flattened b len m r w.0)
