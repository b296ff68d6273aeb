-- The turns and the ends of the loops. Assumes nothing.
use Prim.Native.Nat.{ℕ, zero, suc, ◌+◌, ◌≤◌, ◌<◌}
use mathlib.Core.Path.{◌≡◌, refl, sym, ap, ◌∙◌, fun_ext}
use mathlib.Core.List.{List, ◌∷◌}
use mathlib.Core.Bool.{Bool, true, false, not, ◌&&◌, ◌||◌, or-false, and-true, and_assoc}
use native.Mathlib.Numerals.{add-one}
use mathlib.Core.Logic.{⊎_elim}
use native.Mathlib.Omega.{arith}
use lib.ListN.{length, set}
use lib.Dec.{eqb, ltb}
use borrow.Author.Tests.{eq-eqb, ne_eqb, lt-ltb, le-ltb}
use Rattle.flat.specs.declared.entries.DefinitionEntry.{DefinitionEntry}
use Rattle.flat.specs.declared.entries.EquationEntry.{EquationEntry}
use Rattle.flat.specs.Meaning.{update}
use Rattle.flat.specs.Trees.{Flat, Definition, Equation}
use Rattle.flat.specs.Layout.{provers, definitions, equations, nodes, provers_offset, definitions_offset, equations_offset}
use Rattle.flat.specs.Layout.{prover_at, definition_entry, equation_entry}
use Rattle.flat.specs.Record.{module_of}
use Rattle.flat.specs.Readable.{Readable}
use Rattle.flat.proofs.Reading.{definition-below, equation-below}
use Rattle.marks.specs.Indices.{every}
use Rattle.std.proofs.lemmas.Bool.{cases_lt, cases_eq}
use Rattle.pass_trees.specs.declared.Usage.{Usage}
use Rattle.pass_trees.specs.declared.Usage.TheVariants.{Constraint}
use Rattle.pass_trees.specs.Passes.{member, keep_if, those, is_never, is_witness, mark_used, used_in, override, classify_def}
use Rattle.pass_trees.specs.Passes.{classified, classify_defs, cuttable_expr, cuttable_defs, cuttable_equations, counted}
use Rattle.pass_trees.proofs.Lists.{update_same, update_other}
use Rattle.pass_classify.specs.Readable.{tree_of}
use Rattle.pass_classify.specs.Arrays.{usage_of, marked, Uses, Marks, provers_of, used_of, counted_of, Classified}
use Rattle.pass_classify.proofs.Arrays.{marked-set}
use Rattle.pass_classify.proofs.Lists.{provers_from, definitions_from, equations_from, provers-none, definitions-none, equations-none}
use Rattle.pass_classify.proofs.Lists.{provers-whole, definitions-whole, equations-whole, provers-more, definitions-more, equations-more}

-- ---- the equations are marked

-- what the equations from index k on make of an array is what all make of the first one
abbrev pub UsedFrom : List ℕ → List Usage → List Usage → ℕ → Type 0
UsedFrom b m₀ m k = used_in (equations_from b k) (usage_of m) ≡ used_in (module_of b).equations (usage_of m₀)

pub used_start : (b : List ℕ) (m : List Usage) → UsedFrom b m m 0
used_start b m = ap (λ (es : List Equation). used_in es (usage_of m)) (sym (equations-whole b))

pub used_turn : (b : List ℕ) {k : ℕ} {entry : EquationEntry} (m₀ m : List Usage) {m' m'' : List Usage} → k < equations b →
    entry ≡ equation_entry b (equations_offset b) k → (entry.left < nodes b) × (entry.right < nodes b) → UsedFrom b m₀ m k →
    Uses m' (mark_used Constraint (tree_of b entry.left) (usage_of m)) → Uses m'' (mark_used Constraint (tree_of b entry.right) (usage_of m')) →
    UsedFrom b m₀ m'' (k + 1)
unfolding used_in
used_turn b {k} {entry} m₀ m h read within i x y =
    ap (used_in (equations_from b (k + 1))) (y.says ∙ ap (mark_used Constraint (tree_of b entry.right)) x.says)
    ∙ sym (ap (λ (es : List Equation). used_in es (usage_of m)) (equations-more b h read within))
    ∙ i

pub used-end : (b : List ℕ) {k : ℕ} (m₀ m : List Usage) → equations b ≤ k → UsedFrom b m₀ m k → length m ≡ 65536 →
    Uses m (used_in (module_of b).equations (usage_of m₀))
unfolding used_in
used-end b {k} m₀ m h i l = record { says = sym (ap (λ (es : List Equation). used_in es (usage_of m)) (equations-none b k h)) ∙ i; long = l }

-- ---- the definitions are marked, the last first

abbrev pub ClassifiedFrom : List ℕ → List Usage → List Usage → ℕ → Type 0
ClassifiedFrom b m₀ m k = usage_of m ≡ classified (module_of b).provers (definitions_from b k) (usage_of m₀)

pub classified-start : (b : List ℕ) {k : ℕ} (m : List Usage) → definitions b ≤ k → ClassifiedFrom b m m k
unfolding classified
classified-start b {k} m h = sym (ap (λ (ds : List Definition). classified (module_of b).provers ds (usage_of m)) (definitions-none b k h))

classify-def : (ps : List ℕ) (f : ℕ → Usage) (id : ℕ) (right : Flat) (place : ℕ) (u : Usage) → u ≡ override (member id ps) (f id)
    → mark_used u right (update f id u) ≡ classify_def ps (record { id = id; right = right; place = place }) f
unfolding classify_def
classify-def ps f id right place u e = ap (λ (x : Usage). mark_used x right (update f id x)) e

pub classified-turn : (b : List ℕ) {k : ℕ} {entry : DefinitionEntry} (u : Usage) (p : List Bool) (m₀ m : List Usage) {m' m'' : List Usage} → k < definitions b →
    entry ≡ definition_entry b (definitions_offset b) k → (entry.id < 65536) × (entry.node < nodes b) →
    marked p ≡ (λ v. member v (module_of b).provers) → ClassifiedFrom b m₀ m (k + 1) →
    u ≡ override (marked p entry.id) (usage_of m entry.id) → Uses m' (update (usage_of m) entry.id u) →
    Uses m'' (mark_used u (tree_of b entry.node) (usage_of m')) → ClassifiedFrom b m₀ m'' k
unfolding classified
classified-turn b {k} {entry} u p m₀ m h read within g i e x y =
    let id : ℕ = entry.id in
    let ps : List ℕ = (module_of b).provers in
    let f : ℕ → Usage = classified ps (definitions_from b (k + 1)) (usage_of m₀) in
    let t : Flat = tree_of b entry.node in
    let a : u ≡ override (member id ps) (f id) =
    e ∙ ap (λ (c : Bool). override c (usage_of m id)) (ap (λ (c : ℕ → Bool). c id) g) ∙ ap (λ (c : ℕ → Usage). override (member id ps) (c id)) i in
    y.says
    ∙ ap (mark_used u t) (x.says ∙ ap (λ (c : ℕ → Usage). update c id u) i)
    ∙ classify-def ps f id t entry.place u a
    ∙ sym (ap (λ (ds : List Definition). classified ps ds (usage_of m₀)) (definitions-more b h read within))

pub classified-end : (b : List ℕ) (m₀ m : List Usage) → ClassifiedFrom b m₀ m 0 → length m ≡ 65536 →
    Uses m (classified (module_of b).provers (module_of b).definitions (usage_of m₀))
classified-end b m₀ m i l =
    record { says = i ∙ ap (λ (ds : List Definition). classified (module_of b).provers ds (usage_of m₀)) (sym (definitions-whole b)); long = l }

-- ---- the prover ids are marked

swap : (x y z : Bool) → (x || y || z) ≡ (y || (x || z))
swap true true z = refl
swap true false z = refl
swap false y z = refl

abbrev pub MarkedFrom : List ℕ → List Bool → List Bool → ℕ → Type 0
MarkedFrom b m₀ m k = (v : ℕ) → (marked m v || member v (provers_from b k)) ≡ (marked m₀ v || member v (module_of b).provers)

pub marked_start : (b : List ℕ) (m : List Bool) → MarkedFrom b m m 0
marked_start b m v = ap (λ (ws : List ℕ). marked m v || member v ws) (sym (provers-whole b))

-- one more is marked
marked-yes : (m : List Bool) (v : ℕ) → v < length m → (w : ℕ) → marked (set m v true) w ≡ (eqb w v || marked m w)
marked-yes m v l w = ap (λ (f : ℕ → Bool). f w) (marked-set m v true l) ∙ ⊎_elim
    (λ (e : w ≡ v). rw (eq-eqb w v e, e) (update_same (marked m) v true))
    (λ (n : w ≡ v → ⊥). rw (ne_eqb w v n) (update_other (marked m) v true w n))
    (cases_eq w v)

pub marked_turn : (b : List ℕ) {k id : ℕ} (m₀ m : List Bool) → k < provers b → id ≡ prover_at b (provers_offset b) k → id < length m →
    MarkedFrom b m₀ m k → MarkedFrom b m₀ (set m id true) (k + 1)
unfolding member
marked_turn b {k} {id} m₀ m h e l i v =
    ap (λ (c : Bool). c || member v (provers_from b (k + 1))) (marked-yes m id l v)
    ∙ swap (eqb v id) (marked m v) (member v (provers_from b (k + 1)))
    ∙ sym (ap (λ (ws : List ℕ). marked m v || member v ws) (provers-more b h e))
    ∙ i v

pub marked-end : (b : List ℕ) {k : ℕ} (m₀ m : List Bool) → provers b ≤ k → MarkedFrom b m₀ m k → length m ≡ 65536 →
    Marks m (λ v. marked m₀ v || member v (module_of b).provers)
unfolding member
marked-end b {k} m₀ m h i l = record {
  says = fun_ext (λ v. sym (ap (λ (ws : List ℕ). marked m v || member v ws) (provers-none b k h) ∙ or-false (marked m v)) ∙ i v);
  long = l;
}

-- ---- the witnesses are marked

-- so many ids have been passed
abbrev pub WitnessesTo : List Usage → List Bool → List Bool → ℕ → Type 0
WitnessesTo u m₀ m n = (w : ℕ) → marked m w ≡ (marked m₀ w || (ltb w n && is_witness (usage_of u w)))

pub witnesses-start : (u : List Usage) (m : List Bool) → WitnessesTo u m m 0
witnesses-start u m w = sym (rw (le-ltb w 0 (omega arith), or-false))

pub witnesses-turn : (u : List Usage) (m₀ m : List Bool) (n : ℕ) {t : Bool} → n < length m → t ≡ (marked m n || is_witness (usage_of u n)) →
    WitnessesTo u m₀ m n → WitnessesTo u m₀ (set m n t) (n + 1)
witnesses-turn u m₀ m n {t} l e i w = ap (λ (f : ℕ → Bool). f w) (marked-set m n t l) ∙ ⊎_elim
    (λ (q : w ≡ n). rw (q, lt-ltb n (n + 1) (omega arith)) (update_same (marked m) n t ∙ e ∙ ap (λ (c : Bool). c || is_witness (usage_of u n)) (before q)))
    (λ (f : w ≡ n → ⊥). update_other (marked m) n t w f ∙ i w ∙ ap (λ (c : Bool). marked m₀ w || (c && is_witness (usage_of u w))) (same f))
    (cases_eq w n)
  where
    before : w ≡ n → marked m n ≡ marked m₀ n
    before q = i n ∙ rw (le-ltb n n (omega arith)) (or-false (marked m₀ n))

    same : (w ≡ n → ⊥) → ltb w n ≡ ltb w (n + 1)
    same f = ⊎_elim
        (λ (l : w < n). lt-ltb w n l ∙ sym (lt-ltb w (n + 1) (omega arith)))
        (λ (l : n ≤ w). let far : n + 1 ≤ w = omega arith in le-ltb w n l ∙ sym (le-ltb w (n + 1) far))
        (cases_lt w n)

pub witnesses-end : (u : List Usage) (m₀ m : List Bool) (n k : ℕ) → k ≡ n → WitnessesTo u m₀ m k → length m ≡ 65536 →
    Marks m (λ w. marked m₀ w || (ltb w n && is_witness (usage_of u w)))
witnesses-end u m₀ m n k e i l = record { says = rw e at (fun_ext i); long = l }

-- ---- no `^` and no inner `=`

-- where each turn tests one index and leaves the rest, every index is tested, and then what is left at the end
every-turns : (n : ℕ) (rest p : ℕ → Bool) → ((k : ℕ) → k < n → rest k ≡ (p k && rest (k + 1))) → rest 0 ≡ (every n p && rest n)
unfolding every
every-turns zero rest p h = refl
every-turns (suc n) rest p h =
    let last = rw add-one at (h n (omega arith)) in
    every-turns n rest p (λ k l. h k (omega arith)) ∙ ap (λ (c : Bool). every n p && c) last ∙ sym (and_assoc (every n p) (p n) (rest (suc n)))

-- so where nothing is left at the end, all of it is tested
every-left : (n : ℕ) (rest p : ℕ → Bool) → ((k : ℕ) → k < n → rest k ≡ (p k && rest (k + 1))) → rest n ≡ true → every n p ≡ rest 0
every-left n rest p h e = sym (every-turns n rest p h ∙ rw (e, and-true))

module _ (b : List ℕ) where
  -- whether the sides of the equation at an index can be cut
  abbrev pub cuttable-at : ℕ → Bool
  cuttable-at k =
      let e = equation_entry b (equations_offset b) k in
      cuttable_expr (tree_of b e.left) && cuttable_expr (tree_of b e.right)

  pub cuttable-read : (k : ℕ) {entry : EquationEntry} {x : Bool} → entry ≡ equation_entry b (equations_offset b) k
      → x ≡ (cuttable_expr (tree_of b entry.left) && cuttable_expr (tree_of b entry.right)) → x ≡ cuttable-at k
  cuttable-read k e f = rw e at f

  pub cuttable-every : Readable b → every (equations b) cuttable-at ≡ cuttable_equations (module_of b).equations
  unfolding cuttable_equations
  cuttable-every r =
      every-left (equations b) (λ k. cuttable_equations (equations_from b k)) cuttable-at
      (λ k l.
      let entry : EquationEntry = equation_entry b (equations_offset b) k in
      ap cuttable_equations (equations-more b l refl (equation-below r k l))
      ∙ sym (and_assoc (cuttable_expr (tree_of b entry.left)) (cuttable_expr (tree_of b entry.right)) (cuttable_equations (equations_from b (k + 1)))))
      (ap cuttable_equations (equations-none b (equations b) (omega arith)))
      ∙ ap cuttable_equations (sym (equations-whole b))

-- ---- of the counted definitions

counted_step : (s t : ℕ → Bool) (d : Definition) (ds : List Definition) (a c : Bool) → t d.id ≡ not a → s d.id ≡ not c
    → cuttable_defs (those s (those t (d ∷ ds))) ≡ ((a || (c || cuttable_expr d.right)) && cuttable_defs (those s (those t ds)))
unfolding those keep_if cuttable_defs
counted_step s t d ds true c e f = rw e
counted_step s t d ds false true e f = rw (e, those, f)
counted_step s t d ds false false e f = rw (e, those, f)

-- where an id is used and not the prover's, only the tree decides
pub counted_cut : (n p : Bool) {x y : Bool} → n ≡ false → p ≡ false → x ≡ y → x ≡ (n || (p || y))
counted_cut n p e f q = rw (e, f) q

module _ (b : List ℕ) (u : List Usage) (m : List Bool) where
  -- whether the definition at an index is not counted, or can be cut
  abbrev pub counted-at : ℕ → Bool
  counted-at k =
      let d = definition_entry b (definitions_offset b) k in
      is_never (usage_of u d.id) || (marked m d.id || cuttable_expr (tree_of b d.node))

  pub counted-read : (k : ℕ) {entry : DefinitionEntry} {x : Bool} → entry ≡ definition_entry b (definitions_offset b) k
      → x ≡ (is_never (usage_of u entry.id) || (marked m entry.id || cuttable_expr (tree_of b entry.node))) → x ≡ counted-at k
  counted-read k e f = rw e at f

  pub counted-every : Readable b → Classified b u m → every (definitions b) counted-at ≡ cuttable_defs (counted (module_of b))
  unfolding counted_of used_of provers_of counted classify_defs those cuttable_defs
  counted-every r w =
      every-left (definitions b) (λ k. cuttable_defs (counted_of b (definitions_from b k))) counted-at
      (λ k l.
      let d = definition-below r k l in
      let entry : DefinitionEntry = definition_entry b (definitions_offset b) k in
      ap (λ (ds : List Definition). cuttable_defs (counted_of b ds)) (definitions-more b l refl (omega (arith, d.0, r.next_small), d.1))
      ∙ counted_step _ _ (record { id = entry.id; right = tree_of b entry.node; place = entry.place }) (definitions_from b (k + 1))
      (is_never (usage_of u entry.id)) (marked m entry.id)
      (ap (λ (c : ℕ → Usage). not (is_never (c entry.id))) (sym w.used)) (ap (λ (c : ℕ → Bool). not (c entry.id)) (sym w.proved)))
      (ap (λ (ds : List Definition). cuttable_defs (counted_of b ds)) (definitions-none b (definitions b) (omega arith)))
      ∙ ap (λ (ds : List Definition). cuttable_defs (counted_of b ds)) (sym (definitions-whole b))
