-- For the proofs of the code: the list functions on a list with one part more (a loop's next turn), a walk's steps, and that the next id never falls.
use Rattle.std.proofs.Common.{◌≡◌, ℕ, zero, suc, ◌+◌, ◌<◌, ◌≤◌, Bool, true, false, List, [], ◌∷◌}
use Rattle.std.proofs.Common.{◌++◌, sym, refl, ap, ◌∙◌, ap₂, append_assoc, le_trans, le_refl, arith}
use mathlib.Core.Option.{Option, none, some}
use Rattle.flat.specs.Trees.{Flat, Definition, Equation}
use Rattle.flat.specs.Rules.{All, Rising}
use Rattle.constraint.specs.declared.Term.{Term}
use Rattle.constraint.specs.Trees.{Equality}
use Rattle.pass_trees.specs.declared.Usage.{Usage}
use Rattle.pass_trees.specs.Passes.{member, keep_if, those, used_in, classify_def, classified, ids_from, Substitutions, follow}
use Rattle.pass_trees.specs.Passes.{walk, copy_propagate_expr, copy_propagate_def, after_def, copy_propagate_defs, after_defs}
use Rattle.pass_trees.specs.Passes.{copy_propagate_equations, alive, push_constraint_def, copied, flatten_expr_to_3ac, Cuts, cuts_of}
use Rattle.pass_trees.specs.Passes.{joined, placed, flatten_def_to_3ac, flatten_defs, Sides, into, both, sides, flatten_sides, flatten_equations}
use Rattle.pass_trees.specs.Statements.{Resolved}
use Rattle.pass_trees.proofs.Lists.{all_keep}

-- lists in two parts
keep_append : {A : Type 0} (b : Bool) (x : A) (xs ys : List A) → keep_if b x (xs ++ ys) ≡ keep_if b x xs ++ ys
unfolding keep_if
keep_append true x xs ys = refl
keep_append false x xs ys = refl

pub those-append : (t : ℕ → Bool) (xs ys : List Definition) → those t (xs ++ ys) ≡ those t xs ++ those t ys
unfolding those
those-append t [] ys = refl
those-append t (d ∷ xs) ys = ap (keep_if (t d.id) d) (those-append t xs ys) ∙ keep_append (t d.id) d (those t xs) (those t ys)

pub alive-append : (xs ys : List Equation) → alive (xs ++ ys) ≡ alive xs ++ alive ys
unfolding alive
alive-append [] ys = refl
alive-append (e ∷ xs) ys = ap (keep_if _ e) (alive-append xs ys) ∙ keep_append _ e (alive xs) (alive ys)

pub used-append : (xs ys : List Equation) (g : ℕ → Usage) → used_in (xs ++ ys) g ≡ used_in ys (used_in xs g)
unfolding used_in
used-append [] ys g = refl
used-append (e ∷ xs) ys g = used-append xs ys _

pub classified-append : (ps : List ℕ) (xs ys : List Definition) (g : ℕ → Usage) → classified ps (xs ++ ys) g ≡ classified ps xs (classified ps ys g)
unfolding classified
classified-append ps [] ys g = refl
classified-append ps (d ∷ xs) ys g = ap (classify_def ps d) (classified-append ps xs ys g)

pub after-append : (ps : List ℕ) (k : ℕ) (xs ys : List Definition) (s : Substitutions)
    → after_defs ps k s (xs ++ ys) ≡ after_defs ps k (after_defs ps k s xs) ys
unfolding after_defs
after-append ps k [] ys s = refl
after-append ps k (d ∷ xs) ys s = after-append ps k xs ys _

pub copies-append : (ps : List ℕ) (k : ℕ) (xs ys : List Definition) (s : Substitutions)
    → copy_propagate_defs ps k s (xs ++ ys) ≡ copy_propagate_defs ps k s xs ++ copy_propagate_defs ps k (after_defs ps k s xs) ys
unfolding copy_propagate_defs after_defs
copies-append ps k [] ys s = refl
copies-append ps k (d ∷ xs) ys s = ap (λ (l : List Definition). copy_propagate_def k s d ∷ l) (copies-append ps k xs ys (after_def ps k s d))

pub copied-equations-append : (k : ℕ) (s : Substitutions) (xs ys : List Equation)
    → copy_propagate_equations k s (xs ++ ys) ≡ copy_propagate_equations k s xs ++ copy_propagate_equations k s ys
unfolding copy_propagate_equations
copied-equations-append k s [] ys = refl
copied-equations-append k s (e ∷ xs) ys =
    ap (λ (l : List Equation). record { left = copy_propagate_expr k s e.left; right = copy_propagate_expr k s e.right; place = e.place } ∷ l)
    (copied-equations-append k s xs ys)

joined-twice : (a b : List Equality) (c : Cuts) → joined (a ++ b) c ≡ joined a (joined b c)
unfolding joined
joined-twice a b c = ap (λ (l : List Equality). record { next = c.next; equalities = l }) (append_assoc a b c.equalities)

pub defs-append : (ps : List ℕ) (xs ys : List Definition) (n : ℕ)
    → flatten_defs ps (xs ++ ys) n ≡ joined (flatten_defs ps xs n).equalities (flatten_defs ps ys (flatten_defs ps xs n).next)
unfolding flatten_defs joined
defs-append ps [] ys n = refl
defs-append ps (d ∷ xs) ys n =
    let x : Cuts = flatten_def_to_3ac (member d.id ps) d n in
    ap (joined x.equalities) (defs-append ps xs ys x.next)
    ∙ sym (joined-twice x.equalities (flatten_defs ps xs x.next).equalities (flatten_defs ps ys (flatten_defs ps xs x.next).next))

pub equations-append : (xs ys : List Equation) (n : ℕ)
    → flatten_equations (xs ++ ys) n ≡ joined (flatten_equations xs n).equalities (flatten_equations ys (flatten_equations xs n).next)
unfolding flatten_equations joined
equations-append [] ys n = refl
equations-append (e ∷ xs) ys n =
    let x : Cuts = placed e.place (flatten_sides (sides e.left e.right) n) in
    ap (joined x.equalities) (equations-append xs ys x.next)
    ∙ sym (joined-twice x.equalities (flatten_equations xs x.next).equalities (flatten_equations ys (flatten_equations xs x.next).next))

-- one id more
pub ids-append : (t : ℕ → Bool) (a k j : ℕ) → ids_from t a (k + j) ≡ ids_from t a k ++ ids_from t (a + k) j
unfolding ids_from
ids-append t a zero j =
    let p : a ≡ a + 0 = omega arith in
    let q : 0 + j ≡ j = omega arith in
    ap₂ (ids_from t) p q
ids-append t a (suc k) j =
    ap (ids_from t a) (let e : suc k + j ≡ suc (k + j) = omega arith in e)
    ∙ ap (keep_if (t a) a) (ids-append t (suc a) k j)
    ∙ keep_append (t a) a (ids_from t (suc a) k) (ids_from t (suc a + k) j)
    ∙ ap (λ (b : ℕ). keep_if (t a) a (ids_from t (suc a) k) ++ ids_from t b j) (let e : suc a + k ≡ a + suc k = omega arith in e)

-- prover ids ascend
ids-above : (t : ℕ → Bool) (a k b : ℕ) → b < a → All (λ w. b < w) (ids_from t a k)
unfolding ids_from
ids-above t a zero b h = tt
ids-above t a (suc k) b h = all_keep (λ w. b < w) (t a) a (ids_from t (suc a) k) h (ids-above t (suc a) k b (omega arith))

pub ids-rise : (t : ℕ → Bool) (a k : ℕ) → Rising (ids_from t a k)
unfolding ids_from keep_if
ids-rise t a zero = tt
ids-rise t a (suc k) = go (ids-rise t (suc a) k) (t a)
  where
    go : Rising (ids_from t (suc a) k) → (b : Bool) → Rising (keep_if b a (ids_from t (suc a) k))
    go ih true = (ids-above t (suc a) k a (omega arith), ih)
    go ih false = ih

-- a walk: one step, and none from a resolved term
pub walk_step : (k : ℕ) (s : Substitutions) (v : ℕ) (t : Term) → s v ≡ some t → walk (suc k) s (Term.Variable v) ≡ walk k s t
unfolding walk follow
walk_step k s v t e = ap (λ (o : Option Term). follow o (Term.Variable v) (walk k s)) e

pub walk-resolved : (k : ℕ) (s : Substitutions) (t : Term) → Resolved s t → walk k s t ≡ t
unfolding walk follow
walk-resolved zero s t h = refl
walk-resolved (suc k) s (Term.Variable v) h = ap (λ (o : Option Term). follow o (Term.Variable v) (walk k s)) h
walk-resolved (suc k) s (Term.Constant c) h = refl

-- the next id never falls: an id past 65,535 anywhere shows at the end
pub expr-grows : (out : Option Term) (e : Flat) (n : ℕ) → n ≤ (flatten_expr_to_3ac out e n).next
unfolding flatten_expr_to_3ac copied push_constraint_def
expr-grows none (Flat.constant c) n = le_refl n
expr-grows (some t) (Flat.constant c) n = le_refl n
expr-grows none (Flat.variable v) n = le_refl n
expr-grows (some t) (Flat.variable v) n = le_refl n
expr-grows out (Flat.negate a) n = let h : n ≤ (flatten_expr_to_3ac none a n).next = expr-grows none a n in omega arith
expr-grows out (Flat.infixed o a b) n =
    let h : n ≤ (flatten_expr_to_3ac none a n).next = expr-grows none a n in
    let k : (flatten_expr_to_3ac none a n).next ≤ (flatten_expr_to_3ac none b (flatten_expr_to_3ac none a n).next).next =
    expr-grows none b (flatten_expr_to_3ac none a n).next in
    omega arith

pub def-grows : (b : Bool) (d : Definition) (n : ℕ) → n ≤ (flatten_def_to_3ac b d n).next
unfolding flatten_def_to_3ac placed cuts_of
def-grows true d n = le_refl n
def-grows false d n = expr-grows _ d.right n

pub defs-grow : (ps : List ℕ) (ds : List Definition) (n : ℕ) → n ≤ (flatten_defs ps ds n).next
unfolding flatten_defs joined
defs-grow ps [] n = le_refl n
defs-grow ps (d ∷ ds) n = le_trans (def-grows (member d.id ps) d n) (defs-grow ps ds _)

pub sides-grow : (s : Sides) (n : ℕ) → n ≤ (flatten_sides s n).next
unfolding flatten_sides joined cuts_of
sides-grow (into t e) n = expr-grows (some t) e n
sides-grow (both a b) n = le_trans (expr-grows none a n) (le_trans (expr-grows none b _) (expr-grows (some _) _ _))

pub equations-grow : (es : List Equation) (n : ℕ) → n ≤ (flatten_equations es n).next
unfolding flatten_equations placed joined
equations-grow [] n = le_refl n
equations-grow (e ∷ es) n = le_trans (sides-grow (sides e.left e.right) n) (equations-grow es _)
