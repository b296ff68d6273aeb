-- WITH THE PLACES TAKEN OUT the passes do what they do with them: pass by pass. Assumes nothing.
use mathlib.Core.Path.{◌≡◌, refl, sym, ap, ap₂, ◌∙◌}
use mathlib.Core.List.{List, [], ◌∷◌, ◌++◌}
use mathlib.Core.Bool.{Bool, true, false, not, ◌&&◌, ◌||◌}
use mathlib.Core.Option.{none}
use Prim.Native.Nat.{ℕ, suc}
use lib.ListN.{length}
use Rattle.std.specs.Prelude.{nat_le}
use Rattle.flat.specs.Trees.{Definition, Equation, FlatModule}
use Rattle.flat.specs.Places.{bare_definitions, bare_equations, bare}
use Rattle.constraint.specs.Trees.{Equality, ConstraintModule}
use Rattle.records.specs.FlatRecord.{IDS}
use Rattle.pass_trees.specs.declared.Usage.{Usage}
use Rattle.pass_trees.specs.declared.Usage.TheVariants.{Never}
use Rattle.pass_trees.specs.Passes.{member, keep_if, those, is_never, is_witness, used_in, classify_def, classified, usage, ids_from}
use Rattle.pass_trees.specs.Passes.{classify_defs, Substitutions, copy_propagate_expr, copy_propagate_def, after_def, copy_propagate_defs, after_defs}
use Rattle.pass_trees.specs.Passes.{copy_propagate_equations, copy_propagate, dead, alive, eliminate_dead_equalities, Cuts, joined, all_at, placed}
use Rattle.pass_trees.specs.Passes.{flatten_def_to_3ac, flatten_defs, sides, flatten_sides, flatten_equations, flatten_lists, flatten_module_to_3ac, passes}
use Rattle.pass_trees.specs.Passes.{cuttable_expr, cuttable_defs, cuttable_equations, counted, Outcome, cut, refused, unless, fitting, cut_of}
use Rattle.pass_trees.specs.Statements.{bare_cut, bare_outcome, PlacesApart}
use Rattle.pass_trees.proofs.Placed.{placed-append, placed-twice}

-- a definition without its place
abbrev bared : Definition → Definition
bared d = record { id = d.id; right = d.right; place = 0 }

bare-those : (t : ℕ → Bool) (ds : List Definition) → those t (bare_definitions ds) ≡ bare_definitions (those t ds)
unfolding those bare_definitions keep_if
bare-those t [] = refl
bare-those t (d ∷ ds) = ap (keep_if (t d.id) (bared d)) (bare-those t ds) ∙ go (t d.id)
  where
    go : (b : Bool) → keep_if b (bared d) (bare_definitions (those t ds)) ≡ bare_definitions (keep_if b d (those t ds))
    go true = refl
    go false = refl

bare-length : (ds : List Definition) → length (bare_definitions ds) ≡ length ds
unfolding bare_definitions
bare-length [] = refl
bare-length (d ∷ ds) = ap suc (bare-length ds)

-- ---- classify_defs

bare-used : (es : List Equation) (g : ℕ → Usage) → used_in (bare_equations es) g ≡ used_in es g
unfolding used_in bare_equations
bare-used [] g = refl
bare-used (e ∷ es) g = bare-used es _

bare-classified : (ps : List ℕ) (ds : List Definition) (g : ℕ → Usage) → classified ps (bare_definitions ds) g ≡ classified ps ds g
unfolding classified classify_def bare_definitions
bare-classified ps [] g = refl
bare-classified ps (d ∷ ds) g = ap (classify_def ps d) (bare-classified ps ds g)

bare-usage : (f : FlatModule) → usage (bare f) ≡ usage f
unfolding usage bare
bare-usage f = bare-classified f.provers f.definitions _ ∙ ap (classified f.provers f.definitions) (bare-used f.equations (λ _. Never))

bare-classify : (f : FlatModule) → classify_defs (bare f) ≡ bare (classify_defs f)
unfolding classify_defs bare
bare-classify f =
    let u = bare-usage f in
    let ds = ap (λ (w : ℕ → Usage). those (λ v. not (is_never (w v))) (bare_definitions f.definitions)) u ∙ bare-those _ f.definitions in
    λ i. record {
      next = f.next;
      publics = f.publics;
      provers = ids_from (λ v. member v f.provers || is_witness (u i v)) 0 f.next;
      definitions = ds i;
      equations = bare_equations f.equations;
    }

-- ---- copy_propagate, eliminate_dead_equalities

bare-copies : (ps : List ℕ) (k : ℕ) (s : Substitutions) (ds : List Definition)
    → copy_propagate_defs ps k s (bare_definitions ds) ≡ bare_definitions (copy_propagate_defs ps k s ds)
unfolding copy_propagate_defs copy_propagate_def after_def bare_definitions
bare-copies ps k s [] = refl
bare-copies ps k s (d ∷ ds) = ap (λ (l : List Definition). bared (copy_propagate_def k s d) ∷ l) (bare-copies ps k (after_def ps k s d) ds)

bare-after : (ps : List ℕ) (k : ℕ) (s : Substitutions) (ds : List Definition) → after_defs ps k s (bare_definitions ds) ≡ after_defs ps k s ds
unfolding after_defs after_def bare_definitions
bare-after ps k s [] = refl
bare-after ps k s (d ∷ ds) = bare-after ps k (after_def ps k s d) ds

bare-equations : (k : ℕ) (s : Substitutions) (es : List Equation)
    → copy_propagate_equations k s (bare_equations es) ≡ bare_equations (copy_propagate_equations k s es)
unfolding copy_propagate_equations bare_equations
bare-equations k s [] = refl
bare-equations k s (e ∷ es) =
    let own : Equation = record { left = copy_propagate_expr k s e.left; right = copy_propagate_expr k s e.right; place = 0 } in
    ap (λ (l : List Equation). own ∷ l) (bare-equations k s es)

bare-copy : (f : FlatModule) → copy_propagate (bare f) ≡ bare (copy_propagate f)
unfolding copy_propagate bare
bare-copy f =
    let ps = f.provers in
    let ds = f.definitions in
    let k = bare-length ds in
    let copies = ap (λ (m : ℕ). copy_propagate_defs ps m (λ _. none) (bare_definitions ds)) k ∙ bare-copies ps (length ds) (λ _. none) ds in
    let after = ap (λ (m : ℕ). after_defs ps m (λ _. none) (bare_definitions ds)) k ∙ bare-after ps (length ds) (λ _. none) ds in
    let equations =
    ap₂ (λ (m : ℕ) (s : Substitutions). copy_propagate_equations m s (bare_equations f.equations)) k after ∙ bare-equations (length ds) _ f.equations in
    λ i. record { next = f.next; publics = f.publics; provers = ps; definitions = copies i; equations = equations i }

bare-alive : (es : List Equation) → alive (bare_equations es) ≡ bare_equations (alive es)
unfolding alive bare_equations keep_if
bare-alive [] = refl
bare-alive (e ∷ es) =
    ap (keep_if (not (dead e.left e.right)) (record { left = e.left; right = e.right; place = 0 })) (bare-alive es)
    ∙ go (not (dead e.left e.right))
  where
    go : (b : Bool) → keep_if b (record { left = e.left; right = e.right; place = 0 }) (bare_equations (alive es)) ≡ bare_equations (keep_if b e (alive es))
    go true = refl
    go false = refl

bare-eliminate : (f : FlatModule) → eliminate_dead_equalities (bare f) ≡ bare (eliminate_dead_equalities f)
unfolding eliminate_dead_equalities bare
bare-eliminate f =
    let a = bare-alive f.equations in
    λ i. record { next = f.next; publics = f.publics; provers = f.provers; definitions = bare_definitions f.definitions; equations = a i }

-- ---- flatten_module_to_3ac

-- cuts one behind the other
placed-joined : (xs : List Equality) (c : Cuts) → placed 0 (joined xs c) ≡ joined (all_at 0 xs) (placed 0 c)
unfolding placed joined
placed-joined xs c = ap (λ (l : List Equality). record { next = c.next; equalities = l }) (placed-append 0 xs c.equalities)

placed-again : (p : ℕ) (c : Cuts) → placed 0 c ≡ placed 0 (placed p c)
unfolding placed
placed-again p c = ap (λ (l : List Equality). record { next = c.next; equalities = l }) (sym (placed-twice 0 p c.equalities))

bare-def : (b : Bool) (d : Definition) (n : ℕ) → flatten_def_to_3ac b (bared d) n ≡ placed 0 (flatten_def_to_3ac b d n)
unfolding flatten_def_to_3ac
bare-def true d n = unfold placed all_at in refl
bare-def false d n = placed-again d.place _

bare-defs : (ps : List ℕ) (ds : List Definition) (n : ℕ) → flatten_defs ps (bare_definitions ds) n ≡ placed 0 (flatten_defs ps ds n)
unfolding flatten_defs bare_definitions
bare-defs ps [] n = unfold placed all_at in refl
bare-defs ps (d ∷ ds) n =
    let x : Cuts = flatten_def_to_3ac (member d.id ps) d n in
    ap (λ (y : Cuts). joined y.equalities (flatten_defs ps (bare_definitions ds) y.next)) (bare-def (member d.id ps) d n)
    ∙ ap (joined (placed 0 x).equalities) (bare-defs ps ds (placed 0 x).next)
    ∙ unfold placed in sym (placed-joined x.equalities (flatten_defs ps ds x.next))

bare-cut-equations : (es : List Equation) (n : ℕ) → flatten_equations (bare_equations es) n ≡ placed 0 (flatten_equations es n)
unfolding flatten_equations bare_equations
bare-cut-equations [] n = unfold placed all_at in refl
bare-cut-equations (e ∷ es) n =
    let x : Cuts = flatten_sides (sides e.left e.right) n in
    let y : Cuts = placed e.place x in
    ap (λ (z : Cuts). joined z.equalities (flatten_equations (bare_equations es) z.next)) (placed-again e.place x)
    ∙ ap (joined (placed 0 y).equalities) (bare-cut-equations es (placed 0 y).next)
    ∙ unfold placed in sym (placed-joined y.equalities (flatten_equations es y.next))

bare-lists : (ps : List ℕ) (ds : List Definition) (es : List Equation) (n : ℕ)
    → flatten_lists ps (bare_definitions ds) (bare_equations es) n ≡ placed 0 (flatten_lists ps ds es n)
unfolding flatten_lists
bare-lists ps ds es n =
    let x : Cuts = flatten_defs ps ds n in
    ap (λ (y : Cuts). joined y.equalities (flatten_equations (bare_equations es) y.next)) (bare-defs ps ds n)
    ∙ ap (joined (placed 0 x).equalities) (bare-cut-equations es (placed 0 x).next)
    ∙ unfold placed in sym (placed-joined x.equalities (flatten_equations es x.next))

bare-module : (f : FlatModule) → flatten_module_to_3ac (bare f) ≡ bare_cut (flatten_module_to_3ac f)
unfolding flatten_module_to_3ac bare bare_cut placed
bare-module f =
    let x = bare-lists f.provers f.definitions f.equations f.next in
    let k = bare-those (λ v. member v f.provers) f.definitions in
    λ i. record { next = (x i).next; publics = f.publics; provers = f.provers; equalities = (x i).equalities; kept = k i }

bare-passes : (f : FlatModule) → bare_cut (passes f) ≡ passes (bare f)
unfolding passes
bare-passes f =
    let g = classify_defs f in
    let c = copy_propagate g in
    sym (
    ap (λ (m : FlatModule). flatten_module_to_3ac (eliminate_dead_equalities (copy_propagate m))) (bare-classify f)
    ∙ ap (λ (m : FlatModule). flatten_module_to_3ac (eliminate_dead_equalities m)) (bare-copy g)
    ∙ ap flatten_module_to_3ac (bare-eliminate c)
    ∙ bare-module (eliminate_dead_equalities c)
    )

-- ---- the refusals

bare-cuttable : (ds : List Definition) → cuttable_defs (bare_definitions ds) ≡ cuttable_defs ds
unfolding cuttable_defs bare_definitions
bare-cuttable [] = refl
bare-cuttable (d ∷ ds) = ap (λ (b : Bool). cuttable_expr d.right && b) (bare-cuttable ds)

bare-cuttable-equations : (es : List Equation) → cuttable_equations (bare_equations es) ≡ cuttable_equations es
unfolding cuttable_equations bare_equations
bare-cuttable-equations [] = refl
bare-cuttable-equations (e ∷ es) = ap (λ (b : Bool). cuttable_expr e.left && (cuttable_expr e.right && b)) (bare-cuttable-equations es)

bare-counted : (f : FlatModule) → counted (bare f) ≡ bare_definitions (counted f)
unfolding counted
bare-counted f =
    ap (λ (m : FlatModule). those (λ v. not (member v m.provers)) m.definitions) (bare-classify f)
    ∙ unfold bare in bare-those _ (classify_defs f).definitions

bare-unless : (b : Bool) (n : ℕ) (o : Outcome) → bare_outcome (unless b n o) ≡ unless b n (bare_outcome o)
unfolding unless bare_outcome
bare-unless true n o = refl
bare-unless false n o = refl

bare-fitting : (c : ConstraintModule) → bare_outcome (fitting c) ≡ fitting (bare_cut c)
unfolding fitting
bare-fitting c = bare-unless (nat_le c.next IDS) 32 (cut c) ∙ unfold bare_outcome bare_cut in refl

bare-outcome : (f : FlatModule) → bare_outcome (cut_of f) ≡ cut_of (bare f)
unfolding cut_of
bare-outcome f =
    let tests : Bool = cuttable_defs (counted f) && cuttable_equations f.equations in
    let same : cuttable_defs (counted (bare f)) && cuttable_equations (bare f).equations ≡ tests =
    ap₂ (λ (a b : Bool). a && b) (ap cuttable_defs (bare-counted f) ∙ bare-cuttable (counted f)) (unfold bare in bare-cuttable-equations f.equations) in
    bare-unless tests 22 (fitting (passes f))
    ∙ ap (unless tests 22) (bare-fitting (passes f) ∙ ap fitting (bare-passes f))
    ∙ ap (λ (b : Bool). unless b 22 (fitting (passes (bare f)))) (sym same)

pub places-apart : (f : FlatModule) → PlacesApart f
places-apart f = record { passes-are = bare-passes f; cut-is = bare-outcome f }
