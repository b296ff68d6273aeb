-- The parts of classify_defs together, and what the arrays after it say of its module. Assumes nothing.
use Prim.Native.Nat.{ℕ, zero, suc, ◌+◌, ◌≤◌, ◌<◌}
use mathlib.Core.Path.{◌≡◌, refl, sym, ap, ◌∙◌, fun_ext}
use mathlib.Core.List.{List, [], ◌∷◌, ◌++◌}
use mathlib.Core.Bool.{Bool, true, false, not, ◌&&◌, ◌||◌}
use mathlib.Core.Logic.{⊎_elim}
use native.Mathlib.Omega.{arith}
use lib.ListN.{length, get_or, get_or-eq_default}
use lib.Dec.{eqb, ltb}
use borrow.Author.Tests.{eq-eqb, ne_eqb, lt-ltb, le-ltb}
use Rattle.flat.specs.Trees.{Flat, Definition, Equation}
use Rattle.flat.specs.Meaning.{update}
use Rattle.flat.specs.Rules.{All, Every}
use Rattle.flat.specs.Layout.{next}
use Rattle.flat.specs.Record.{rows, module_of}
use Rattle.flat.specs.Readable.{Readable}
use Rattle.std.proofs.lemmas.Bool.{cases_lt, cases_eq}
use Rattle.flat.proofs.Rows.{length-rows, rows_at}
use Rattle.flat.proofs.Wellformed.{readable-provers, readable-definitions, readable-equations}
use Rattle.pass_trees.specs.declared.Usage.{Usage}
use Rattle.pass_trees.specs.declared.Usage.TheVariants.{Never, Constraint}
use Rattle.pass_trees.specs.Passes.{member, keep_if, those, is_never, is_witness, counted}
use Rattle.pass_trees.specs.Passes.{mark_used, override, classify_def, used_in, classified, usage, ids_from, classify_defs}
use Rattle.pass_trees.proofs.Lists.{update_other}
use Rattle.pass_trees.proofs.Loops.{those-append}
use Rattle.pass_classify.specs.Arrays.{usage_of, marked, Uses, Marks, provers_of, used_of, usages_of, marks_of, Classified}
use Rattle.pass_classify.proofs.Arrays.{table_is}

-- ---- an id among those that pass a test

keep-member : (v : ℕ) (x : Bool) (a : ℕ) (ws : List ℕ) → member v (keep_if x a ws) ≡ ((x && eqb v a) || member v ws)
unfolding member keep_if
keep-member v true a ws = refl
keep-member v false a ws = refl

ids-without : (t : ℕ → Bool) (v a k : ℕ) → ((j : ℕ) → a ≤ j → j < a + k → v ≡ j → ⊥) → member v (ids_from t a k) ≡ false
unfolding ids_from member
ids-without t v a zero h = refl
ids-without t v a (suc k) h =
    keep-member v (t a) a (ids_from t (suc a) k)
    ∙ rw (ne_eqb v a (h a (omega arith) (omega arith)), ids-without t v (suc a) k (λ j l m. h j (omega arith) (omega arith))) (none (t a))
  where
    none : (x : Bool) → ((x && false) || false) ≡ false
    none true = refl
    none false = refl

ids-in : (t : ℕ → Bool) (v a k : ℕ) → a ≤ v → v < a + k → member v (ids_from t a k) ≡ t v
unfolding ids_from
ids-in t v a zero l h = absurd (omega arith)
ids-in t v a (suc k) l h = keep-member v (t a) a (ids_from t (suc a) k) ∙ go (ids-in t v (suc a) k)
  where
    here : (x : Bool) → ((x && true) || false) ≡ x
    here true = refl
    here false = refl

    there : (x y : Bool) → ((x && false) || y) ≡ y
    there true y = refl
    there false y = refl

    go : (suc a ≤ v → v < suc a + k → member v (ids_from t (suc a) k) ≡ t v) → ((t a && eqb v a) || member v (ids_from t (suc a) k)) ≡ t v
    go ih = ⊎_elim
        (λ (e : v ≡ a). rw (eq-eqb v a e, ids-without t v (suc a) k (λ j l m q. omega arith)) (here (t a) ∙ ap t (sym e)))
        (λ (n : v ≡ a → ⊥). rw (ne_eqb v a n, ih (omega arith) (omega arith)) (there (t a) (t v)))
        (cases_eq v a)

-- the ids below n that pass a test
pub ids-member : (t : ℕ → Bool) (v n : ℕ) → member v (ids_from t 0 n) ≡ (ltb v n && t v)
ids-member t v n =
    ⊎_elim (λ (l : v < n). rw (lt-ltb v n l) (ids-in t v 0 n (omega arith) (omega arith)))
    (λ (l : n ≤ v). rw (le-ltb v n l) (ids-without t v 0 n (λ j h m q. omega arith))) (cases_lt v n)

ids-same : (s t : ℕ → Bool) (a k : ℕ) → ((j : ℕ) → a ≤ j → j < a + k → s j ≡ t j) → ids_from s a k ≡ ids_from t a k
unfolding ids_from
ids-same s t a zero h = refl
ids-same s t a (suc k) h = rw (h a (omega arith) (omega arith), ids-same s t (suc a) k (λ j l m. h j (omega arith) (omega arith)))

-- no id of a list lies past a bound of it
past : (ws : List ℕ) (v n : ℕ) → All (λ w. w < n) ws → n ≤ v → member v ws ≡ false
unfolding member
past [] v n h l = refl
past (w ∷ ws) v n h l = rw (ne_eqb v w (λ e. omega (arith, h.0)), past ws v n h.1 l)

-- ---- classify_defs

pub provers-after : {b : List ℕ} → Readable b → (v : ℕ)
    → (member v (module_of b).provers || (ltb v (next b) && is_witness (usage (module_of b) v))) ≡ member v (classify_defs (module_of b)).provers
unfolding classify_defs module_of
provers-after {b} r v =
    ⊎_elim
    (λ (l : v < next b). rw (lt-ltb v (next b) l))
    (λ (l : next b ≤ v). rw (le-ltb v (next b) l, past (module_of b).provers v (next b) (readable-provers r) l))
    (cases_lt v (next b))
    ∙ sym (ids-member (λ w. member w (module_of b).provers || is_witness (usage (module_of b) w)) v (next b))

-- the prover ids that the record gives, marked in a clear array
pub provers-marked : (b : List ℕ) (p : List Bool) {p' : List Bool} → marked p ≡ (λ _. false) → Marks p' (λ v. marked p v || member v (module_of b).provers)
    → marked p' ≡ (λ v. member v (module_of b).provers)
provers-marked b p c x = x.says ∙ ap (λ (f : ℕ → Bool). λ (v : ℕ). f v || member v (module_of b).provers) c

usages-whole : (b : List ℕ) (m : List Usage) {m' m'' : List Usage} → usage_of m ≡ (λ _. Never) → Uses m' (used_in (module_of b).equations (usage_of m))
    → Uses m'' (classified (module_of b).provers (module_of b).definitions (usage_of m')) → usage_of m'' ≡ usage (module_of b)
unfolding usage
usages-whole b m c y z = z.says ∙ ap (classified (module_of b).provers (module_of b).definitions) (y.says ∙ ap (used_in (module_of b).equations) c)

pub classified-whole : {b : List ℕ} (m : List Usage) (p : List Bool) {m' m'' : List Usage} {p' p'' : List Bool} {n : ℕ} → Readable b →
    usage_of m ≡ (λ _. Never) → marked p ≡ (λ _. false) → n ≡ next b →
    Marks p' (λ v. marked p v || member v (module_of b).provers) → Uses m' (used_in (module_of b).equations (usage_of m)) →
    Uses m'' (classified (module_of b).provers (module_of b).definitions (usage_of m')) →
    Marks p'' (λ w. marked p' w || (ltb w n && is_witness (usage_of m'' w))) → Classified b m'' p''
classified-whole {b} m p {m'' = m''} {p'' = p''} {n = n} r k o e x y z w =
    let u = usages-whole b m k y z in
    let q = provers-marked b p o x in
    let proved = λ (v : ℕ).
    ap (λ (f : ℕ → Bool). f v || (ltb v n && is_witness (usage_of m'' v))) q
    ∙ ap (λ (f : ℕ → Usage). member v (module_of b).provers || (ltb v n && is_witness (f v))) u
    ∙ rw e (provers-after r v) in
    record { used = u; proved = w.says ∙ fun_ext proved; usages-long = z.long; provers-long = w.long }

-- ---- no id from the next one on is used

marks-past : (u : Usage) (e : Flat) (f : ℕ → Usage) (v n : ℕ) → Every (λ w. w < n) e → n ≤ v → mark_used u e f v ≡ f v
unfolding mark_used
marks-past u (Flat.infixed o a b) f v n h l = marks-past u b (mark_used u a f) v n h.1 l ∙ marks-past u a f v n h.0 l
marks-past u (Flat.negate a) f v n h l = marks-past u a f v n h l
marks-past u (Flat.constant c) f v n h l = refl
marks-past u (Flat.variable w) f v n h l = update_other f w _ v (λ e. omega arith)

equations-past : (es : List Equation) (f : ℕ → Usage) (v n : ℕ) → All (λ e. Every (λ w. w < n) e.left × Every (λ w. w < n) e.right) es → n ≤ v →
    used_in es f v ≡ f v
unfolding used_in
equations-past [] f v n h l = refl
equations-past (e ∷ es) f v n h l =
    equations-past es _ v n h.1 l ∙ marks-past Constraint e.right _ v n h.0.1 l ∙ marks-past Constraint e.left f v n h.0.0 l

definitions-past : (ps : List ℕ) (ds : List Definition) (f : ℕ → Usage) (v n : ℕ) → All (λ d. (d.id < n) × Every (λ w. w < n) d.right) ds → n ≤ v →
    classified ps ds f v ≡ f v
unfolding classified classify_def
definitions-past ps [] f v n h l = refl
definitions-past ps (d ∷ ds) f v n h l =
    let g : ℕ → Usage = classified ps ds f in
    let u : Usage = override (member d.id ps) (g d.id) in
    marks-past u d.right (update g d.id u) v n h.0.1 l
    ∙ update_other g d.id u v (λ e. omega (arith, h.0.0))
    ∙ definitions-past ps ds f v n h.1 l

pub usage-past : {b : List ℕ} → Readable b → (v : ℕ) → next b ≤ v → usage (module_of b) v ≡ Never
unfolding usage
usage-past {b} r v l = definitions-past _ (module_of b).definitions _ v (next b) (readable-definitions r) l
    ∙ equations-past (module_of b).equations _ v (next b) (readable-equations r) l

prover-past : (b : List ℕ) (v : ℕ) → next b ≤ v → member v (classify_defs (module_of b)).provers ≡ false
unfolding classify_defs module_of
prover-past b v l = ids-without _ v 0 (next b) (λ j h m q. omega arith)

-- ---- what is read from the arrays after classify_defs

-- a table of so many values, at an index
table_at : {A : Type 0} (d : A) (n : ℕ) (f : ℕ → A) (v : ℕ) → v < n → get_or (rows n 0 f) v d ≡ f v
table_at d n f v l = rows_at f n 0 v d l ∙ (let z : 0 + v ≡ v = omega arith in ap f z)

table-past : {A : Type 0} (d : A) (n : ℕ) (f : ℕ → A) (v : ℕ) → n ≤ v → get_or (rows n 0 f) v d ≡ d
table-past d n f v l = get_or-eq_default (rows n 0 f) d {n = v} (omega (arith, length-rows f n 0))

module _ {b : List ℕ} (r : Readable b) where
  usages-say : usage_of (usages_of b) ≡ usage (module_of b)
  unfolding usages_of
  usages-say = fun_ext (λ v. ⊎_elim
      (λ (l : v < 65536). table_at Never 65536 (usage (module_of b)) v l)
      (λ (l : 65536 ≤ v). table-past Never 65536 (usage (module_of b)) v l ∙ sym (usage-past r v (omega (arith, r.next_small))))
      (cases_lt v 65536))

  marks-say : marked (marks_of b) ≡ (λ v. member v (classify_defs (module_of b)).provers)
  unfolding marks_of provers_of
  marks-say = fun_ext (λ v. ⊎_elim
      (λ (l : v < 65536). table_at false 65536 (λ w. member w (provers_of b)) v l)
      (λ (l : 65536 ≤ v). table-past false 65536 (λ w. member w (provers_of b)) v l ∙ sym (prover-past b v (omega (arith, r.next_small))))
      (cases_lt v 65536))

  -- what the passes know of the arrays
  pub classified-of : {m : List Usage} {p : List Bool} → m ≡ usages_of b → p ≡ marks_of b → Classified b m p
  unfolding usages_of marks_of
  classified-of e q = record {
    used = ap usage_of e ∙ usages-say;
    proved = ap marked q ∙ marks-say;
    usages-long = ap length e ∙ length-rows _ 65536 0;
    provers-long = ap length q ∙ length-rows _ 65536 0;
  }

-- ---- the arrays themselves

module _ {b : List ℕ} {m : List Usage} {p : List Bool} (c : Classified b m p) where
  pub usages-are : m ≡ usages_of b
  unfolding usages_of
  usages-are = table_is Never 65536 m (usage (module_of b)) c.usages-long (λ v l. ap (λ (f : ℕ → Usage). f v) c.used)

  pub marks-are : p ≡ marks_of b
  unfolding marks_of provers_of
  marks-are = table_is false 65536 p (λ v. member v (provers_of b)) c.provers-long (λ v l. ap (λ (f : ℕ → Bool). f v) c.proved)

-- ---- what the arrays say of the module after classify_defs

pub used-first : (b : List ℕ) (d : Definition) (ds : List Definition) → used_of b (d ∷ ds) ≡ used_of b (d ∷ []) ++ used_of b ds
unfolding used_of
used-first b d ds = those-append _ (d ∷ []) ds

module _ {b : List ℕ} {usages : List Usage} {provers : List Bool} (c : Classified b usages provers) where
  -- of an id
  pub says-used : (id : ℕ) {t : Bool} → is_never (usage_of usages id) ≡ t → is_never (usage (module_of b) id) ≡ t
  says-used id e = sym (ap (λ (f : ℕ → Usage). is_never (f id)) c.used) ∙ e

  pub says-prover : (id : ℕ) {t : Bool} → marked provers id ≡ t → member id (provers_of b) ≡ t
  unfolding provers_of
  says-prover id e = sym (ap (λ (f : ℕ → Bool). f id) c.proved) ∙ e

  -- its prover ids are the marked ones
  pub classified-provers : (classify_defs (module_of b)).provers ≡ ids_from (marked provers) 0 (next b)
  unfolding classify_defs module_of
  classified-provers = sym (ids-same _ _ 0 (next b) (λ j l h. ap (λ (f : ℕ → Bool). f j) c.proved ∙ ids-in _ j 0 (next b) (omega arith) (omega arith)))

  -- its definitions are the used ones
  pub classified-definitions : (classify_defs (module_of b)).definitions ≡ those (λ v. not (is_never (usage_of usages v))) (module_of b).definitions
  unfolding classify_defs
  classified-definitions = ap (λ (f : ℕ → Usage). those (λ v. not (is_never (f v))) (module_of b).definitions) (sym c.used)

  -- the counted ones are those whose id is not marked
  pub classified-counted : counted (module_of b) ≡ those (λ v. not (marked provers v)) (classify_defs (module_of b)).definitions
  unfolding counted
  classified-counted = ap (λ (f : ℕ → Bool). those (λ v. not (f v)) (classify_defs (module_of b)).definitions) (sym c.proved)
