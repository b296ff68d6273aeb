-- Classification: every variable of an equation or of a counted definition is counted itself, or an input.
use Rattle.std.proofs.Common.{◌≡◌, ℕ, zero, suc, ◌+◌, ◌<◌, ◌≤◌, Bool, true, false, not, ◌||◌, eqb}
use Rattle.std.proofs.Common.{List, [], ◌∷◌, sym, refl, ap, ◌∙◌, subst, arith, eq-eqb, ne_eqb}
use native.Mathlib.Decide.{ℕ_discrete}
use borrow.Author.Tests.{not-true}
use Rattle.flat.specs.Trees.{Flat, Definition, Equation, FlatModule, defines}
use Rattle.flat.specs.Meaning.{update}
use Rattle.flat.specs.Rules.{All, Every, Ordered, WellFormed}
use Rattle.pass_trees.specs.declared.Usage.{Usage}
use Rattle.pass_trees.specs.declared.Usage.TheVariants.{Never, Witness, Constraint}
use Rattle.pass_trees.specs.Passes.{member, keep_if, those, most, is_never, is_witness}
use Rattle.pass_trees.specs.Passes.{mark_used, used_in, override, classify_def, classified, usage, ids_from, classify_defs, counted}
use Rattle.pass_trees.specs.Meaning.{Known, Inputs, Given}
use Rattle.pass_trees.proofs.Lists.{bool-not, update_all, update_same, update_other, all_map}
use Rattle.pass_trees.proofs.Lists.{every_map, every-both, both_false, defines-cons, defines-those}

-- marks are never taken back
most-top : (u : Usage) → most u Constraint ≡ Constraint
unfolding most
most-top Never = refl
most-top Witness = refl
most-top Constraint = refl

mark-keeps : (u : Usage) (e : Flat) (g : ℕ → Usage) (v : ℕ) → g v ≡ Constraint → mark_used u e g v ≡ Constraint
unfolding mark_used most
mark-keeps u (Flat.infixed o a b) g v h = mark-keeps u b (mark_used u a g) v (mark-keeps u a g v h)
mark-keeps u (Flat.negate a) g v h = mark-keeps u a g v h
mark-keeps u (Flat.constant c) g v h = h
mark-keeps u (Flat.variable w) g v h =
    update_all (λ x y. g x ≡ Constraint → y ≡ Constraint) g w (most (g w) u) (λ k. ap (λ (x : Usage). most x u) k) (λ x k. k) v h

marks : (e : Flat) (g : ℕ → Usage) → Every (λ v. mark_used Constraint e g v ≡ Constraint) e
unfolding mark_used
marks (Flat.infixed o a b) g = (every_map (mark-keeps Constraint b (mark_used Constraint a g)) a (marks a g), marks b (mark_used Constraint a g))
marks (Flat.negate a) g = marks a g
marks (Flat.constant c) g = tt
marks (Flat.variable w) g = update_same g w _ ∙ most-top (g w)

mark-other : (u : Usage) (e : Flat) (g : ℕ → Usage) (v : ℕ) → Every (λ w. v ≡ w → ⊥) e → mark_used u e g v ≡ g v
unfolding mark_used
mark-other u (Flat.infixed o a b) g v h = mark-other u b _ v h.1 ∙ mark-other u a g v h.0
mark-other u (Flat.negate a) g v h = mark-other u a g v h
mark-other u (Flat.constant c) g v h = refl
mark-other u (Flat.variable w) g v h = update_other g w _ v h

used-keeps : (es : List Equation) (g : ℕ → Usage) (v : ℕ) → g v ≡ Constraint → used_in es g v ≡ Constraint
unfolding used_in
used-keeps [] g v h = h
used-keeps (e ∷ es) g v h = used-keeps es _ v (mark-keeps Constraint e.right _ v (mark-keeps Constraint e.left g v h))

used-marks : (es : List Equation) (g : ℕ → Usage)
    → All (λ e. Every (λ v. used_in es g v ≡ Constraint) e.left × Every (λ v. used_in es g v ≡ Constraint) e.right) es
unfolding used_in
used-marks [] g = tt
used-marks (e ∷ es) g = (
  (
    every_map (λ v h. used-keeps es _ v (mark-keeps Constraint e.right _ v h)) e.left (marks e.left g),
    every_map (used-keeps es _) e.right (marks e.right (mark_used Constraint e.left g)),
  ),
  used-marks es _,
)

-- an id that is defined only if it is no prover variable
abbrev pub Free : List ℕ → List Definition → ℕ → Type 0
Free ps ds v = defines ds v ≡ true → member v ps ≡ false

defines-later : (d : Definition) (ds : List Definition) (v : ℕ) → defines ds v ≡ true → defines (d ∷ ds) v ≡ true
unfolding defines
defines-later d ds v h = go (eqb v d.id)
  where
    go : (b : Bool) → (b || defines ds v) ≡ true
    go true = refl
    go false = h

pub defines-here : (d : Definition) (ds : List Definition) (v : ℕ) → v ≡ d.id → defines (d ∷ ds) v ≡ true
unfolding defines
defines-here d ds v h = ap (λ (b : Bool). b || defines ds v) (eq-eqb v d.id h)

pub all-defined : (ds : List Definition) → All (λ d. defines ds d.id ≡ true) ds
all-defined [] = tt
all-defined (d ∷ ds) = (defines-here d ds d.id refl, all_map (λ e h. defines-later d ds e.id h) ds (all-defined ds))

-- an id that a list defines is no id that it does not
apart : (ds : List Definition) (v w : ℕ) → defines ds v ≡ true → defines ds w ≡ false → v ≡ w → ⊥
apart ds v w h k e = bool-not (sym h ∙ ap (defines ds) e ∙ k)

-- a definition takes the mark only from its own variable, and only where that is a prover variable
step_keeps : (ps : List ℕ) (d : Definition) (ds : List Definition) (g : ℕ → Usage) (v : ℕ) → Free ps (d ∷ ds) v → g v ≡ Constraint
    → classify_def ps d g v ≡ Constraint
unfolding classify_def override
step_keeps ps d ds g v free h = mark-keeps _ d.right _ v (go (ℕ_discrete v d.id))
  where
    go : Dec (v ≡ d.id) → update g d.id (override (member d.id ps) (g d.id)) v ≡ Constraint
    go (yes e) =
        ap (update g d.id _) e
        ∙ update_same g d.id _
        ∙ ap (λ (u : Usage). override (member d.id ps) u) (ap g (sym e) ∙ h)
        ∙ ap (λ (b : Bool). override b Constraint) (ap (λ (x : ℕ). member x ps) (sym e) ∙ free (defines-here d ds v e))
    go (no n) = update_other g d.id _ v n ∙ h

all-keep-marks : (ps : List ℕ) (ds : List Definition) (g : ℕ → Usage) (v : ℕ) → Free ps ds v → g v ≡ Constraint → classified ps ds g v ≡ Constraint
unfolding classified
all-keep-marks ps [] g v free h = h
all-keep-marks ps (d ∷ ds) g v free h =
    step_keeps ps d ds (classified ps ds g) v free (all-keep-marks ps ds g v (λ k. free (defines-later d ds v k)) h)

-- a definition leaves the ids alone that are defined later
step_other : (ps : List ℕ) (d : Definition) (g : ℕ → Usage) (v : ℕ) → (v ≡ d.id → ⊥) → Every (λ w. v ≡ w → ⊥) d.right → classify_def ps d g v ≡ g v
unfolding classify_def
step_other ps d g v n h = mark-other _ d.right _ v h ∙ update_other g d.id _ v n

step-marks : (ps : List ℕ) (d : Definition) (g : ℕ → Usage) → Every (λ w. d.id ≡ w → ⊥) d.right → classify_def ps d g d.id ≡ Constraint
    → Every (λ v. classify_def ps d g v ≡ Constraint) d.right
unfolding classify_def
step-marks ps d g n h =
    let u : Usage = override (member d.id ps) (g d.id) in
    let c : u ≡ Constraint = sym (mark-other u d.right (update g d.id u) d.id n ∙ update_same g d.id u) ∙ h in
    subst (λ (x : Usage). Every (λ v. mark_used x d.right (update g d.id u) v ≡ Constraint) d.right) (sym c) (marks d.right (update g d.id u))

-- a definition of a constraint hands the mark to its variables
closed : (ps : List ℕ) (ds : List Definition) → Ordered ds → (g : ℕ → Usage)
    → All (λ d. classified ps ds g d.id ≡ Constraint → Every (λ v. Free ps ds v → classified ps ds g v ≡ Constraint) d.right) ds
unfolding classified
closed ps [] o g = tt
closed ps (d ∷ ds) o g = (first, all_map (λ e h. later e h.0 h.1) ds (both ds (all-defined ds) (closed ps ds o.2 g)))
  where
    before : ℕ → Usage
    before = classified ps ds g

    after : ℕ → Usage
    after = classify_def ps d before

    both : (xs : List Definition) → All (λ e. defines ds e.id ≡ true) xs
        → All (λ e. before e.id ≡ Constraint → Every (λ v. Free ps ds v → before v ≡ Constraint) e.right) xs
        → All (λ e. (defines ds e.id ≡ true) × (before e.id ≡ Constraint → Every (λ v. Free ps ds v → before v ≡ Constraint) e.right)) xs
    both [] h k = tt
    both (x ∷ xs) h k = ((h.0, k.0), both xs h.1 k.1)

    first : after d.id ≡ Constraint → Every (λ v. Free ps (d ∷ ds) v → after v ≡ Constraint) d.right
    first h =
        every_map (λ v k _. k) d.right
        (step-marks ps d before (every_map (λ w k. apart (d ∷ ds) d.id w (defines-here d ds d.id refl) k) d.right o.1) h)

    later : (e : Definition) → defines ds e.id ≡ true → (before e.id ≡ Constraint → Every (λ v. Free ps ds v → before v ≡ Constraint) e.right)
        → after e.id ≡ Constraint → Every (λ v. Free ps (d ∷ ds) v → after v ≡ Constraint) e.right
    later e here ih h =
        let same : after e.id ≡ before e.id = step_other ps d before e.id (apart ds e.id d.id here o.0)
        (every_map (λ w k. apart ds e.id w here (defines-cons d ds w k).1) d.right o.1) in
        every_map (λ v k free. step_keeps ps d ds before v free (k (λ i. free (defines-later d ds v i)))) e.right (ih (sym same ∙ h))

-- the prover ids after classification
ids-without : (t : ℕ → Bool) (v a k : ℕ) → t v ≡ false → member v (ids_from t a k) ≡ false
unfolding ids_from member keep_if
ids-without t v a zero h = refl
ids-without t v a (suc k) h = go (ids-without t v (suc a) k h) (t a) refl
  where
    go : member v (ids_from t (suc a) k) ≡ false → (b : Bool) → t a ≡ b → member v (keep_if b a (ids_from t (suc a) k)) ≡ false
    go ih true e = ap (λ (b : Bool). b || member v (ids_from t (suc a) k)) (ne_eqb v a (λ i. bool-not (sym e ∙ ap t (sym i) ∙ h))) ∙ ih
    go ih false e = ih

ids-with : (t : ℕ → Bool) (v a k : ℕ) → t v ≡ true → a ≤ v → v < a + k → member v (ids_from t a k) ≡ true
unfolding ids_from member keep_if
ids-with t v a zero h l m = absurd (omega arith)
ids-with t v a (suc k) h l m = go (ids-with t v (suc a) k h) (ℕ_discrete v a) (t a) refl
  where
    rest : List ℕ
    rest = ids_from t (suc a) k

    go : (suc a ≤ v → v < suc a + k → member v rest ≡ true) → Dec (v ≡ a) → (b : Bool) → t a ≡ b → member v (keep_if b a rest) ≡ true
    go ih (yes i) true e = ap (λ (b : Bool). b || member v rest) (eq-eqb v a i)
    go ih (yes i) false e = bool-not (sym h ∙ ap t i ∙ e)
    go ih (no n) true e = ap (λ (b : Bool). b || member v rest) (ne_eqb v a n) ∙ ih (omega arith) (omega arith)
    go ih (no n) false e = ih (omega arith) (omega arith)

-- the definitions that a test leaves
those-without : (t : ℕ → Bool) (ds : List Definition) (v : ℕ) → t v ≡ false → defines (those t ds) v ≡ false
unfolding those keep_if defines
those-without t [] v h = refl
those-without t (d ∷ ds) v h = go (those-without t ds v h) (t d.id) refl
  where
    go : defines (those t ds) v ≡ false → (b : Bool) → t d.id ≡ b → defines (keep_if b d (those t ds)) v ≡ false
    go ih true e = ap (λ (b : Bool). b || defines (those t ds) v) (ne_eqb v d.id (λ i. bool-not (sym e ∙ ap t (sym i) ∙ h))) ∙ ih
    go ih false e = ih

those-with : (t : ℕ → Bool) (ds : List Definition) (v : ℕ) → t v ≡ true → defines ds v ≡ true → defines (those t ds) v ≡ true
unfolding those keep_if defines
those-with t [] v h k = bool-not (sym k)
those-with t (d ∷ ds) v h k = go (those-with t ds v h) (ℕ_discrete v d.id) (t d.id) refl
  where
    go : (defines ds v ≡ true → defines (those t ds) v ≡ true) → Dec (v ≡ d.id) → (b : Bool) → t d.id ≡ b → defines (keep_if b d (those t ds)) v ≡ true
    go ih (yes i) true e = ap (λ (b : Bool). b || defines (those t ds) v) (eq-eqb v d.id i)
    go ih (yes i) false e = bool-not (sym h ∙ ap t i ∙ e)
    go ih (no n) true e =
        ap (λ (b : Bool). b || defines (those t ds) v) (ne_eqb v d.id n) ∙ ih (sym (ap (λ (b : Bool). b || defines ds v) (ne_eqb v d.id n)) ∙ k)
    go ih (no n) false e = ih (sym (ap (λ (b : Bool). b || defines ds v) (ne_eqb v d.id n)) ∙ k)

pub those-all : (Q : Definition → Type 0) (t : ℕ → Bool) (ds : List Definition) → All Q ds → All (λ d. (t d.id ≡ true) × Q d) (those t ds)
unfolding those keep_if
those-all Q t [] h = tt
those-all Q t (d ∷ ds) h = go (those-all Q t ds h.1) (t d.id) refl
  where
    go : All (λ d. (t d.id ≡ true) × Q d) (those t ds) → (b : Bool) → t d.id ≡ b → All (λ d. (t d.id ≡ true) × Q d) (keep_if b d (those t ds))
    go ih true e = ((e, h.0), ih)
    go ih false e = ih

pub those-back : (Q : Definition → Type 0) (t : ℕ → Bool) (ds : List Definition) → All Q (those t ds) → All (λ d. t d.id ≡ true → Q d) ds
unfolding those keep_if
those-back Q t [] h = tt
those-back Q t (d ∷ ds) h = go (those-back Q t ds) (t d.id) h
  where
    go : (All Q (those t ds) → All (λ d. t d.id ≡ true → Q d) ds) → (b : Bool) → All Q (keep_if b d (those t ds))
        → (b ≡ true → Q d) × All (λ d. t d.id ≡ true → Q d) ds
    go ih true k = ((λ _. k.0), ih k.1)
    go ih false k = ((λ e. bool-not (sym e)), ih k)

pub all_both : {A : Type 0} (Q R : A → Type 0) (xs : List A) → All Q xs → All R xs → All (λ x. Q x × R x) xs
all_both Q R [] h k = tt
all_both Q R (x ∷ xs) h k = ((h.0, k.0), all_both Q R xs h.1 k.1)

pub constraint-left : (u : Usage) → not (is_never u) ≡ true → is_witness u ≡ false → u ≡ Constraint
unfolding is_never is_witness
constraint-left Never h k = bool-not (sym h)
constraint-left Witness h k = bool-not k
constraint-left Constraint h k = refl

-- an id of the module that matters: if it is defined, and no prover variable, then by a counted definition
abbrev pub Relevant : FlatModule → ℕ → Type 0
Relevant f v = (v < f.next) × (Free f.provers f.definitions v → usage f v ≡ Constraint)

module _ (f : FlatModule) (w : WellFormed f) where
  abbrev ps : List ℕ
  ps = (classify_defs f).provers

  test : ℕ → Bool
  test v = member v f.provers || is_witness (usage f v)

  prover-with : (v : ℕ) → v < f.next → test v ≡ true → member v ps ≡ true
  unfolding classify_defs test
  prover-with v l h = ids-with test v 0 f.next h (omega arith) (omega arith)

  prover-without : (v : ℕ) → test v ≡ false → member v ps ≡ false
  unfolding classify_defs test
  prover-without v h = ids-without test v 0 f.next h

  pub no-prover : (v : ℕ) → v < f.next → member v (classify_defs f).provers ≡ false → (member v f.provers ≡ false) × (is_witness (usage f v) ≡ false)
  unfolding test
  no-prover v l h = both_false (member v f.provers) (is_witness (usage f v)) (go (test v) refl)
    where
      go : (b : Bool) → test v ≡ b → b ≡ false
      go true e = bool-not (sym (prover-with v l e) ∙ h)
      go false e = refl

  -- a counted definition and its right side
  pub relevant-definitions : All (λ d. member d.id ps ≡ false → Relevant f d.id × Every (Relevant f) d.right) (classify_defs f).definitions
  unfolding classify_defs test usage
  relevant-definitions =
      all_map
      (λ d h n.
      let c : usage f d.id ≡ Constraint = constraint-left (usage f d.id) h.0 (no-prover d.id h.1.0.0 n).1 in
      ((h.1.0.0, λ _. c), every-both (λ v. v < f.next) _ d.right h.1.0.1 (h.1.1 c)))
      (those (λ v. not (is_never (usage f v))) f.definitions)
      (those-all _ (λ v. not (is_never (usage f v))) f.definitions
      (all_both _ _ f.definitions w.definitions-below (closed f.provers f.definitions w.ordered (used_in f.equations (λ _. Never)))))

  pub relevant-equations : All (λ e. Every (Relevant f) e.left × Every (Relevant f) e.right) f.equations
  unfolding usage
  relevant-equations =
      all_map (λ e h. (both e.left h.0.0 h.1.0, both e.right h.0.1 h.1.1)) f.equations
      (all_both _ _ f.equations w.equations-below (used-marks f.equations (λ _. Never)))
    where
      both : (e : Flat) → Every (λ v. v < f.next) e → Every (λ v. used_in f.equations (λ _. Never) v ≡ Constraint) e → Every (Relevant f) e
      both e h k = every-both (λ v. v < f.next) _ e h (every_map (λ v c free. all-keep-marks f.provers f.definitions _ v free c) e k)

  -- of the ids that matter those that are not counted are inputs, and no input is counted
  pub relevant-input : (v : ℕ) → Relevant f v → defines (counted f) v ≡ false → Given f v
  unfolding counted classify_defs is_never is_witness test
  relevant-input v r n = (r.0, λ h. go h (member v f.provers) refl)
    where
      go : defines f.definitions v ≡ true → (b : Bool) → member v f.provers ≡ b → b ≡ true
      go h true e = refl
      go h false e =
          let c : usage f v ≡ Constraint = r.1 (λ _. e) in
          let p : member v ps ≡ false = prover-without v (ap (λ (b : Bool). b || is_witness (usage f v)) e ∙ ap is_witness c) in
          bool-not (sym (those-with _ _ v (ap not p) (those-with _ f.definitions v (ap (λ (u : Usage). not (is_never u)) c) h)) ∙ n)

  pub input-uncounted : (v : ℕ) → Given f v → defines (counted f) v ≡ false
  unfolding counted classify_defs test
  input-uncounted v i = go (defines f.definitions v) refl
    where
      go : (b : Bool) → defines f.definitions v ≡ b → defines (counted f) v ≡ false
      go true e = those-without _ _ v (ap not (prover-with v i.0 (ap (λ (b : Bool). b || is_witness (usage f v)) (i.1 e))))
      go false e = defines-those _ _ v (defines-those _ f.definitions v e)

  pub inputs-given : Inputs f (Given f)
  unfolding counted
  inputs-given =
      record {
        equations = all_map (λ e h. (every_map known e.left h.0, every_map known e.right h.1)) f.equations relevant-equations;
        definitions =
            all_map (λ d h. every_map known d.right (h.1 (not-true _ h.0)).1) (counted f)
            (those-all _ _ (classify_defs f).definitions relevant-definitions);
        only = λ v i. (i.0, input-uncounted v i);
      }
    where
      known : (v : ℕ) → Relevant f v → Known f (Given f) v
      known v r n = relevant-input v r n
