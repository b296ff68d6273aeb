-- Copy propagation and the elimination of dead equalities keep the fulfilling assignments: no rule of the record is needed, ids may be defined twice.
use Rattle.std.proofs.Common.{◌≡◌, ℕ, zero, suc, Bool, true, false, cond, not, eqb, ◌↔◌, List, [], ◌∷◌, ℤ, sym, refl, ap, ◌∙◌, subst, arith, eqb-true}
use mathlib.Core.Option.{Option, none, some}
use Rattle.std.specs.Prelude.{Some}
use Rattle.field.specs.Prime.{P}
use Rattle.field.specs.Element.{elem}
use Rattle.flat.specs.Trees.{Flat, Definition, Equation}
use Rattle.flat.specs.Meaning.{update, Assignment, value, negated, DefinitionHolds, EquationHolds}
use Rattle.flat.specs.Rules.{All, Every}
use Rattle.constraint.specs.declared.Term.{Term}
use Rattle.constraint.specs.Meaning.{InTerm, term_value}
use Rattle.pass_trees.specs.Passes.{member, keep_if, those, Substitutions, follow, walk, to_expr, copy_propagate_expr, substituting}
use Rattle.pass_trees.specs.Passes.{copy_propagate_def, after_def, copy_propagate_defs, after_defs, copy_propagate_equations, dead, alive}
use Rattle.pass_trees.proofs.Lists.{update_all, bool-not, same_number_lem, all_keep}

-- a property of the entries of a substitution
abbrev pub Entries : (ℕ → Term → Type 0) → Substitutions → Type 0
Entries Q s = (v : ℕ) (t : Term) → s v ≡ some t → Q v t

pub none-entries : (Q : ℕ → Term → Type 0) → Entries Q (λ _. none)
none-entries Q v t e = absurd (let z : ◌≡◌ {A = ℕ} 0 1 = cc in omega arith)

update-entries : (Q : ℕ → Term → Type 0) (s : Substitutions) (v : ℕ) (t : Term) → Q v t → Entries Q s → Entries Q (update s v (some t))
update-entries Q s v t h k =
    update_all (λ w o. (u : Term) → o ≡ some u → Q w u) s v (some t) (λ u e. let i : t ≡ u = cc in subst (Q v) i h) k

-- the entry that a definition makes
pub substituting-entries : (Q : ℕ → Term → Type 0) (b : Bool) (v : ℕ) (e : Flat) (s : Substitutions) → ((t : Term) → b ≡ false → e ≡ to_expr t → Q v t)
    → Entries Q s → Entries Q (substituting b v e s)
unfolding substituting to_expr
substituting-entries Q true v e s h k = k
substituting-entries Q false v (Flat.infixed o a b) s h k = k
substituting-entries Q false v (Flat.negate a) s h k = k
substituting-entries Q false v (Flat.constant c) s h k = update-entries Q s v (Term.Constant c) (h (Term.Constant c) refl refl) k
substituting-entries Q false v (Flat.variable w) s h k = go (eqb w v)
  where
    go : (b : Bool) → Entries Q (cond b s (update s v (some (Term.Variable w))))
    go true = k
    go false = update-entries Q s v (Term.Variable w) (h (Term.Variable w) refl refl) k

-- a walk and a copy keep a property that entries keep
module _ (Q : ℕ → Type 0) (s : Substitutions) (h : Entries (λ v t. Q v → InTerm Q t) s) where
  walk-in : (k : ℕ) (t : Term) → InTerm Q t → InTerm Q (walk k s t)
  unfolding walk follow
  walk-in zero t q = q
  walk-in (suc k) (Term.Constant c) q = tt
  walk-in (suc k) (Term.Variable v) q = go (walk-in k) (s v) refl
    where
      go : ((t : Term) → InTerm Q t → InTerm Q (walk k s t)) → (o : Option Term) → s v ≡ o → InTerm Q (follow o (Term.Variable v) (walk k s))
      go ih none e = q
      go ih (some t) e = ih t (h v t e q)

  flat_in : (t : Term) → InTerm Q t → Every Q (to_expr t)
  unfolding to_expr
  flat_in (Term.Variable v) q = q
  flat_in (Term.Constant c) q = tt

  pub copy-in : (k : ℕ) (e : Flat) → Every Q e → Every Q (copy_propagate_expr k s e)
  unfolding copy_propagate_expr
  copy-in k (Flat.infixed o a b) q = (copy-in k a q.0, copy-in k b q.1)
  copy-in k (Flat.negate a) q = copy-in k a q
  copy-in k (Flat.constant c) q = tt
  copy-in k (Flat.variable v) q = flat_in (walk k s (Term.Variable v)) (walk-in k (Term.Variable v) q)

pub flat-value : (σ : Assignment) (t : Term) → value σ (to_expr t) ≡ Some (term_value σ t)
unfolding value to_expr
flat-value σ (Term.Variable v) = refl
flat-value σ (Term.Constant c) = refl

-- entries whose term has the variable's value: a copy has the value of the expression
module _ (σ : Assignment) where
  abbrev pub Sound : Substitutions → Type 0
  Sound = Entries (λ v t. σ v ≡ term_value σ t)

  walk-value : (s : Substitutions) → Sound s → (k : ℕ) (t : Term) → term_value σ (walk k s t) ≡ term_value σ t
  unfolding walk follow
  walk-value s h zero t = refl
  walk-value s h (suc k) (Term.Constant c) = refl
  walk-value s h (suc k) (Term.Variable v) = go (walk-value s h k) (s v) refl
    where
      go : ((t : Term) → term_value σ (walk k s t) ≡ term_value σ t) → (o : Option Term) → s v ≡ o → term_value σ (follow o (Term.Variable v) (walk k s)) ≡ σ v
      go ih none e = refl
      go ih (some t) e = ih t ∙ sym (h v t e)

  pub copy-value : (k : ℕ) (s : Substitutions) → Sound s → (e : Flat) → value σ (copy_propagate_expr k s e) ≡ value σ e
  unfolding copy_propagate_expr value
  copy-value k s h (Flat.infixed o a b) = cc (copy-value k s h a, copy-value k s h b)
  copy-value k s h (Flat.negate a) = ap negated (copy-value k s h a)
  copy-value k s h (Flat.constant c) = refl
  copy-value k s h (Flat.variable v) = flat-value σ (walk k s (Term.Variable v)) ∙ ap Some (walk-value s h k (Term.Variable v))

  -- a definition that holds makes a sound entry
  after-sound : (b : Bool) (k : ℕ) (s : Substitutions) → Sound s → (d : Definition) → (b ≡ false → DefinitionHolds σ d)
      → Sound (substituting b d.id (copy_propagate_expr k s d.right) s)
  after-sound b k s h d holds =
      substituting-entries (λ v t. σ v ≡ term_value σ t) b d.id (copy_propagate_expr k s d.right) s
      (λ t p e.
      let q : Some (term_value σ t) ≡ Some (σ d.id) = sym (flat-value σ t) ∙ ap (value σ) (sym e) ∙ copy-value k s h d.right ∙ holds p in
      cc)
      h

  abbrev pub CountedHold : List ℕ → List Definition → Type 0
  CountedHold ps ds = All (DefinitionHolds σ) (those (λ v. not (member v ps)) ds)

  -- the counted definitions hold just if their copies do, and then the substitutions are sound after them
  pub copies-hold : (ps : List ℕ) (k : ℕ) (ds : List Definition) (s : Substitutions) → Sound s
      → (CountedHold ps ds → CountedHold ps (copy_propagate_defs ps k s ds))
      × (CountedHold ps (copy_propagate_defs ps k s ds) → CountedHold ps ds)
      × (CountedHold ps ds → Sound (after_defs ps k s ds))
  unfolding those copy_propagate_defs copy_propagate_def after_defs after_def keep_if
  copies-hold ps k [] s h = ((λ x. x), (λ x. x), (λ x. h))
  copies-hold ps k (d ∷ ds) s h = go (copies-hold ps k ds) (member d.id ps)
    where
      test : ℕ → Bool
      test v = not (member v ps)

      later : Bool → Substitutions
      later b = substituting b d.id (copy_propagate_expr k s d.right) s

      go : ((s : Substitutions) → Sound s
          → (CountedHold ps ds → CountedHold ps (copy_propagate_defs ps k s ds))
          × (CountedHold ps (copy_propagate_defs ps k s ds) → CountedHold ps ds)
          × (CountedHold ps ds → Sound (after_defs ps k s ds))) → (b : Bool)
          → (All (DefinitionHolds σ) (keep_if (not b) d (those test ds))
          → All (DefinitionHolds σ) (keep_if (not b) (copy_propagate_def k s d) (those test (copy_propagate_defs ps k (later b) ds))))
          × (All (DefinitionHolds σ) (keep_if (not b) (copy_propagate_def k s d) (those test (copy_propagate_defs ps k (later b) ds)))
          → All (DefinitionHolds σ) (keep_if (not b) d (those test ds)))
          × (All (DefinitionHolds σ) (keep_if (not b) d (those test ds)) → Sound (after_defs ps k (later b) ds))
      go ih true = ih (later true) (after-sound true k s h d (λ e. bool-not e))
      go ih false = (
        (λ x. (copy-value k s h d.right ∙ x.0, (ih (later false) (after-sound false k s h d (λ _. x.0))).0 x.1)),
        (λ x.
            let y : DefinitionHolds σ d = sym (copy-value k s h d.right) ∙ x.0 in
            (y, (ih (later false) (after-sound false k s h d (λ _. y))).1 x.1)),
        (λ x. (ih (later false) (after-sound false k s h d (λ _. x.0))).2 x.1),
      )

  pub equations-copied : (k : ℕ) (s : Substitutions) → Sound s → (es : List Equation)
      → All (EquationHolds σ) es ↔ All (EquationHolds σ) (copy_propagate_equations k s es)
  unfolding copy_propagate_equations
  equations-copied k s h [] = ((λ x. x), (λ x. x))
  equations-copied k s h (e ∷ es) =
      let l : value σ (copy_propagate_expr k s e.left) ≡ value σ e.left = copy-value k s h e.left in
      let r : value σ (copy_propagate_expr k s e.right) ≡ value σ e.right = copy-value k s h e.right in
      let ih = equations-copied k s h es in (
        (λ x. ((x.0.0, l ∙ x.0.1, r ∙ x.0.2), ih.0 x.1)),
        (λ x. ((x.0.0, sym l ∙ x.0.1, sym r ∙ x.0.2), ih.1 x.1)),
      )

  -- a dead equality holds
  dead-holds : (a b : Flat) → dead a b ≡ true → (z : ℤ) × (value σ a ≡ Some z) × (value σ b ≡ Some z)
  unfolding dead value
  dead-holds (Flat.constant c) (Flat.constant d) e = (elem P c, refl, ap (λ (z : ℤ). Some (elem P z)) (sym (same_number_lem c d e)))
  dead-holds (Flat.constant c) (Flat.variable w) e = bool-not (sym e)
  dead-holds (Flat.constant c) (Flat.negate b) e = bool-not (sym e)
  dead-holds (Flat.constant c) (Flat.infixed o b d) e = bool-not (sym e)
  dead-holds (Flat.variable v) (Flat.constant d) e = bool-not (sym e)
  dead-holds (Flat.variable v) (Flat.variable w) e = (σ v, refl, ap (λ (u : ℕ). Some (σ u)) (sym (eqb-true v w e)))
  dead-holds (Flat.variable v) (Flat.negate b) e = bool-not (sym e)
  dead-holds (Flat.variable v) (Flat.infixed o b d) e = bool-not (sym e)
  dead-holds (Flat.negate a) b e = bool-not (sym e)
  dead-holds (Flat.infixed o a c) b e = bool-not (sym e)

  pub alive-hold : (es : List Equation) → All (EquationHolds σ) es ↔ All (EquationHolds σ) (alive es)
  unfolding alive keep_if
  alive-hold [] = ((λ x. x), (λ x. x))
  alive-hold (e ∷ es) = go (alive-hold es) (dead e.left e.right) refl
    where
      go : All (EquationHolds σ) es ↔ All (EquationHolds σ) (alive es) → (b : Bool) → dead e.left e.right ≡ b
          → All (EquationHolds σ) (e ∷ es) ↔ All (EquationHolds σ) (keep_if (not b) e (alive es))
      go ih true k = ((λ x. ih.0 x.1), (λ x. (dead-holds e.left e.right k, ih.1 x)))
      go ih false k = ((λ x. (x.0, ih.0 x.1)), (λ x. (x.0, ih.1 x.1)))

-- variables of copies: a property that all variables of the module have
module _ (Q : ℕ → Type 0) where
  abbrev pub EntriesIn : Substitutions → Type 0
  EntriesIn = Entries (λ v t. Q v → InTerm Q t)

  pub unflat : (t : Term) → Every Q (to_expr t) → InTerm Q t
  unfolding to_expr
  unflat (Term.Variable v) h = h
  unflat (Term.Constant c) h = tt

  abbrev pub CountedIn : List ℕ → Definition → Type 0
  CountedIn ps d = member d.id ps ≡ false → Q d.id × Every Q d.right

  pub copies-in : (ps : List ℕ) (k : ℕ) (ds : List Definition) (s : Substitutions) → EntriesIn s → All (CountedIn ps) ds
      → All (CountedIn ps) (copy_propagate_defs ps k s ds) × EntriesIn (after_defs ps k s ds)
  unfolding copy_propagate_defs copy_propagate_def after_defs after_def
  copies-in ps k [] s h q = (tt, h)
  copies-in ps k (d ∷ ds) s h q =
      let i : member d.id ps ≡ false → Every Q (copy_propagate_expr k s d.right) = λ b. copy-in Q s h k d.right (q.0 b).1 in
      let s' : Substitutions = substituting (member d.id ps) d.id (copy_propagate_expr k s d.right) s in
      let h' : EntriesIn s' = substituting-entries (λ v t. Q v → InTerm Q t) (member d.id ps) d.id (copy_propagate_expr k s d.right) s
      (λ t b e _. unflat t (subst (Every Q) e (i b))) h in
      let r = copies-in ps k ds s' h' q.1 in
      (((λ b. ((q.0 b).0, i b)), r.0), r.1)

  pub equations-in : (k : ℕ) (s : Substitutions) → EntriesIn s → (es : List Equation) → All (λ e. Every Q e.left × Every Q e.right) es
      → All (λ e. Every Q e.left × Every Q e.right) (copy_propagate_equations k s es)
  unfolding copy_propagate_equations
  equations-in k s h [] q = tt
  equations-in k s h (e ∷ es) q = ((copy-in Q s h k e.left q.0.0, copy-in Q s h k e.right q.0.1), equations-in k s h es q.1)

pub alive-in : (R : Equation → Type 0) (es : List Equation) → All R es → All R (alive es)
unfolding alive
alive-in R [] h = tt
alive-in R (e ∷ es) h = all_keep R (not (dead e.left e.right)) e (alive es) h.0 (alive-in R es h.1)
