-- THE PLACES OF THE EQUALITIES are those of the definitions and equations that they were cut from, in order. Assumes nothing.
use mathlib.Core.Path.{◌≡◌, refl, sym, ap, ap₂, ◌∙◌}
use mathlib.Core.List.{List, [], ◌∷◌, ◌++◌}
use mathlib.Core.Bool.{Bool, true, false, not, cond}
use mathlib.Core.Option.{Option, none, some}
use Prim.Native.Nat.{ℕ, ◌+◌}
use native.Mathlib.Omega.{arith}
use lib.ListN.{length, replicate, length-append}
use Rattle.flat.specs.Trees.{Flat, Definition, Equation, FlatModule}
use Rattle.constraint.specs.declared.Term.{Term}
use Rattle.constraint.specs.Trees.{Equality, at_place}
use Rattle.pass_trees.specs.Passes.{member, keep_if, those, classify_defs, Substitutions, walk, to_expr, copy_propagate_expr, copy_propagate_def}
use Rattle.pass_trees.specs.Passes.{after_def, copy_propagate_defs, copy_propagate_equations, copy_propagate, dead, alive, eliminate_dead_equalities}
use Rattle.pass_trees.specs.Passes.{Cut, push_constraint_def, copied, flatten_expr_to_3ac, Cuts, cuts_of, joined, all_at, placed, flatten_def_to_3ac}
use Rattle.pass_trees.specs.Passes.{flatten_defs, Sides, into, both, sides, flatten_sides, flatten_equations, flatten_lists}
use Rattle.pass_trees.specs.Passes.{flatten_module_to_3ac, passes, counted}
use Rattle.pass_trees.specs.Statements.{operations, equalities_into, equalities_of, places, definition_places, equation_places}
use Rattle.pass_trees.specs.Statements.{own_places, own_equation_places, PlacesInherited}

-- ---- how many equalities a cut has

leaf-none : (t : Term) → operations (to_expr t) ≡ 0
unfolding operations to_expr
leaf-none (Term.Variable v) = refl
leaf-none (Term.Constant c) = refl

leaf-one : (t : Term) → equalities_into (to_expr t) ≡ 1
unfolding equalities_into to_expr
leaf-one (Term.Variable v) = refl
leaf-one (Term.Constant c) = refl

cut-count : (e : Flat) (n : ℕ) → length (flatten_expr_to_3ac none e n).equalities ≡ operations e
unfolding flatten_expr_to_3ac copied push_constraint_def operations
cut-count (Flat.constant c) n = refl
cut-count (Flat.variable v) n = refl
cut-count (Flat.negate a) n = simp length-append (omega (arith, cut-count a n))
cut-count (Flat.infixed o a b) n =
    let x : Cut = flatten_expr_to_3ac none a n in
    simp length-append (omega (arith, cut-count a n, cut-count b x.next))

pub given-count : (t : Term) (e : Flat) (n : ℕ) → length (flatten_expr_to_3ac (some t) e n).equalities ≡ equalities_into e
unfolding flatten_expr_to_3ac copied push_constraint_def operations equalities_into
given-count t (Flat.constant c) n = refl
given-count t (Flat.variable v) n = refl
given-count t (Flat.negate a) n = simp length-append (omega (arith, cut-count a n))
given-count t (Flat.infixed o a b) n =
    let x : Cut = flatten_expr_to_3ac none a n in
    simp length-append (omega (arith, cut-count a n, cut-count b x.next))

pub sides-count : (s : Sides) (n : ℕ) → length (flatten_sides s n).equalities ≡ equalities_of s
unfolding flatten_sides cuts_of joined equalities_of
sides-count (into t e) n = given-count t e n
sides-count (both a b) n =
    let x : Cut = flatten_expr_to_3ac none a n in
    let y : Cut = flatten_expr_to_3ac none b x.next in
    let last = given-count x.term (to_expr y.term) y.next ∙ leaf-one y.term in
    simp length-append (omega (arith, cut-count a n, cut-count b x.next, last))

-- a copy has as many
module _ (k : ℕ) (s : Substitutions) where
  copy-operations : (e : Flat) → operations (copy_propagate_expr k s e) ≡ operations e
  unfolding copy_propagate_expr operations
  copy-operations (Flat.infixed o a b) = ap₂ (λ (x y : ℕ). x + y + 1) (copy-operations a) (copy-operations b)
  copy-operations (Flat.negate a) = ap (λ (x : ℕ). x + 1) (copy-operations a)
  copy-operations (Flat.constant c) = refl
  copy-operations (Flat.variable v) = leaf-none (walk k s (Term.Variable v))

  copy-count : (e : Flat) → equalities_into (copy_propagate_expr k s e) ≡ equalities_into e
  unfolding copy_propagate_expr equalities_into
  copy-count (Flat.infixed o a b) = copy-operations (Flat.infixed o a b)
  copy-count (Flat.negate a) = copy-operations (Flat.negate a)
  copy-count (Flat.constant c) = refl
  copy-count (Flat.variable v) = leaf-one (walk k s (Term.Variable v))

-- ---- their places

places-append : (xs ys : List Equality) → places (xs ++ ys) ≡ places xs ++ places ys
unfolding places
places-append [] ys = refl
places-append (q ∷ xs) ys = ap (λ (l : List ℕ). q.place ∷ l) (places-append xs ys)

places-at : (p : ℕ) (qs : List Equality) (n : ℕ) → length qs ≡ n → places (all_at p qs) ≡ replicate n p
unfolding places all_at at_place
places-at p qs n e = go qs ∙ ap (λ (k : ℕ). replicate k p) e
  where
    go : (qs : List Equality) → places (all_at p qs) ≡ replicate (length qs) p
    go [] = refl
    go (q ∷ qs) = ap (λ (l : List ℕ). p ∷ l) (go qs)

definitions-places : (ps : List ℕ) (ds : List Definition) (n : ℕ)
    → places (flatten_defs ps ds n).equalities ≡ definition_places (those (λ v. not (member v ps)) ds)
unfolding flatten_defs flatten_def_to_3ac cuts_of joined placed places those keep_if definition_places
definitions-places ps [] n = refl
definitions-places ps (d ∷ ds) n =
    let x : Cuts = flatten_def_to_3ac (member d.id ps) d n in
    places-append x.equalities _
    ∙ ap (λ (l : List ℕ). places x.equalities ++ l) (definitions-places ps ds x.next)
    ∙ go (member d.id ps)
  where
    rest : List Definition
    rest = those (λ v. not (member v ps)) ds

    go : (b : Bool) → places (flatten_def_to_3ac b d n).equalities ++ definition_places rest ≡ definition_places (keep_if (not b) d rest)
    go true = refl
    go false =
        let own = given-count (Term.Variable d.id) d.right n in
        ap (λ (l : List ℕ). l ++ definition_places rest) (places-at d.place _ (equalities_into d.right) own)

copies-places : (ps : List ℕ) (k : ℕ) (t : ℕ → Bool) (ds : List Definition) (s : Substitutions)
    → definition_places (those t (copy_propagate_defs ps k s ds)) ≡ definition_places (those t ds)
unfolding copy_propagate_defs copy_propagate_def those keep_if definition_places
copies-places ps k t [] s = refl
copies-places ps k t (d ∷ ds) s = go (t d.id) (copies-places ps k t ds (after_def ps k s d))
  where
    go : (b : Bool) → definition_places (those t (copy_propagate_defs ps k (after_def ps k s d) ds)) ≡ definition_places (those t ds)
        → definition_places (keep_if b (copy_propagate_def k s d) (those t (copy_propagate_defs ps k (after_def ps k s d) ds)))
        ≡ definition_places (keep_if b d (those t ds))
    go true h = ap₂ (λ (n : ℕ) (l : List ℕ). replicate n d.place ++ l) (copy-count k s d.right) h
    go false h = h

equations-places : (es : List Equation) (n : ℕ) → places (flatten_equations (alive es) n).equalities ≡ equation_places es
unfolding alive keep_if flatten_equations joined placed places equation_places
equations-places [] n = refl
equations-places (e ∷ es) n = go (dead e.left e.right) refl n (equations-places es)
  where
    go : (b : Bool) → dead e.left e.right ≡ b → (n : ℕ) → ((m : ℕ) → places (flatten_equations (alive es) m).equalities ≡ equation_places es)
        → places (flatten_equations (keep_if (not b) e (alive es)) n).equalities ≡ equation_places (e ∷ es)
    go true h n ih = rw h (ih n)
    go false h n ih =
        let x : Cuts = flatten_sides (sides e.left e.right) n in
        rw h
        (places-append (all_at e.place x.equalities) _
        ∙ ap₂ (λ (l r : List ℕ). l ++ r) (places-at e.place x.equalities _ (sides-count (sides e.left e.right) n)) (ih x.next))

-- ---- the passes

equalities-places : (f : FlatModule)
    → places (passes f).equalities ≡ definition_places (counted f) ++ equation_places (copy_propagate (classify_defs f)).equations
unfolding passes flatten_module_to_3ac flatten_lists eliminate_dead_equalities copy_propagate counted joined
equalities-places f =
    let g = classify_defs f in
    let steps = length g.definitions in
    let ds = copy_propagate_defs g.provers steps (λ _. none) g.definitions in
    let x : Cuts = flatten_defs g.provers ds g.next in
    places-append x.equalities _
    ∙ ap₂ (λ (l r : List ℕ). l ++ r)
    (definitions-places g.provers ds g.next ∙ copies-places g.provers steps (λ v. not (member v g.provers)) g.definitions (λ _. none))
    (equations-places _ x.next)

copies-own : (ps : List ℕ) (k : ℕ) (t : ℕ → Bool) (ds : List Definition) (s : Substitutions)
    → own_places (those t (copy_propagate_defs ps k s ds)) ≡ own_places (those t ds)
unfolding copy_propagate_defs copy_propagate_def those keep_if own_places
copies-own ps k t [] s = refl
copies-own ps k t (d ∷ ds) s = go (t d.id) (copies-own ps k t ds (after_def ps k s d))
  where
    go : (b : Bool) → own_places (those t (copy_propagate_defs ps k (after_def ps k s d) ds)) ≡ own_places (those t ds)
        → own_places (keep_if b (copy_propagate_def k s d) (those t (copy_propagate_defs ps k (after_def ps k s d) ds))) ≡ own_places (keep_if b d (those t ds))
    go true h = ap (λ (l : List ℕ). d.place ∷ l) h
    go false h = h

kept-places : (f : FlatModule)
    → own_places (passes f).kept ≡ own_places (those (λ v. member v (classify_defs f).provers) (classify_defs f).definitions)
unfolding passes flatten_module_to_3ac eliminate_dead_equalities copy_propagate
kept-places f =
    let g = classify_defs f in
    copies-own g.provers (length g.definitions) (λ v. member v g.provers) g.definitions (λ _. none)

copied-equations : (k : ℕ) (s : Substitutions) (es : List Equation) → own_equation_places (copy_propagate_equations k s es) ≡ own_equation_places es
unfolding copy_propagate_equations own_equation_places
copied-equations k s [] = refl
copied-equations k s (e ∷ es) = ap (λ (l : List ℕ). e.place ∷ l) (copied-equations k s es)

equations-own : (f : FlatModule) → own_equation_places (copy_propagate (classify_defs f)).equations ≡ own_equation_places f.equations
unfolding copy_propagate classify_defs
equations-own f = copied-equations _ _ f.equations

pub places-inherited : (f : FlatModule) → PlacesInherited f
places-inherited f = record { equalities = equalities-places f; equations = equations-own f; kept = kept-places f }
