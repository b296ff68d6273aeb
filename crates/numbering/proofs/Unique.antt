-- THE OUTCOME of numbering is one for every byte string: what `numbering_of` says, and nothing else. Assumes nothing.
use Prim.Native.Nat.{ℕ, zero, suc, ◌+◌, ◌≤◌, ◌<◌}
use mathlib.Core.Path.{◌≡◌, refl, sym, ap, ap₂, ◌∙◌}
use mathlib.Core.List.{List, [], ◌∷◌, ◌++◌, map}
use mathlib.Core.Bool.{Bool, true, false}
use mathlib.Core.Logic.{⊎_elim}
use native.Mathlib.Nat.{mul-one}
use native.Mathlib.Omega.{arith}
use lib.ListN.{length, get_or, replicate, length-replicate, get_or-eq_default}
use lib.Seq.{ext_get_or}
use borrow.Author.Tests.{eq-eqb, ne_eqb}
use Rattle.source.specs.Trees.{Pat, Expr, Module}
use Rattle.marks.specs.Indices.{total, rows, pick, same}
use Rattle.source.specs.Layout.{publics, definitions, expressions, nodes, publics_offset, definitions_offset, expressions_offset, nodes_offset}
use Rattle.source.specs.Layout.{public_at, definition_entry, expression_root}
use Rattle.source.specs.Nodes.{entry_of, pattern_fits, definitions_fit, expressions_fit}
use Rattle.source.specs.Record.{Read, source_of, module_of, tree, definition_at, expression_at}
use Rattle.source.specs.Readable.{Readable}
use Rattle.source.proofs.Accepted.{accepted-readable, accepted-module}
use Rattle.std.specs.Prelude.{Result, Ok, Err}
use Rattle.records.specs.declared.refusals.Refusal.{Refusal}
use Rattle.numbering.specs.declared.Numbering.{Numbering}
use Rattle.numbering.specs.Inputs.{member}
use Rattle.numbering.specs.Numbering.{Ids, Names, Numbered, ◌>>=◌, return, registered, number_variable, number_pattern_variables, number_expr_variables}
use Rattle.numbering.specs.Numbering.{number_def_variables, number_publics, number_definitions, number_expressions, number_module_variables, names_of, numbered}
use Rattle.numbering.specs.Numbers.{bears, numbered_tree, numbered_definition, numbered_expression, numbered_module, NumberedIn}
use Rattle.numbering.specs.Outcome.{Outcome}
use Rattle.numbering.specs.Statements.{All, Distinct, pattern_ids}
use Rattle.numbering.specs.Places.{expr_names, definition_names, expression_names, all_names, indices}
use Rattle.numbering.specs.Places.{places, beside, ids_of, public_ids_of, numbering_for, numbering_of}
use Rattle.numbering.specs.Walks.{no_entries, no_publics, sum_from, definitions_weight, expressions_weight}
use Rattle.std.proofs.lemmas.Bool.{cases_eq, cases_lt}
use Rattle.marks.proofs.Indices.{every-at, and_left, and_right}
use Rattle.numbering.proofs.Lists.{false-true, not-true, all-member}
use Rattle.marks.proofs.Indices.{same-no, same-yes}
use Rattle.numbering.proofs.Sums.{total-same, once}
use Rattle.numbering.proofs.Children.{pattern-item, expression-item}
use Rattle.numbering.proofs.Entire.{walk, lists-weigh}
use Rattle.numbering.proofs.Parts.{table_at, ids_at, Part, Shaped, part_none, part-two, shaped-none, shaped-two, pair_names, Facts, facts}
use Rattle.numbering.proofs.Counts.{count, count-append, Counted, counted}

-- ---- a list beside another

member-here : (j : ℕ) (x : ℕ) (xs : List ℕ) → j ≡ x → member j (x ∷ xs) ≡ true
unfolding member
member-here j x xs e = rw (eq-eqb j x e)

member-there : (j : ℕ) (x : ℕ) (xs : List ℕ) → (j ≡ x → ⊥) → member j (x ∷ xs) ≡ member j xs
unfolding member
member-there j x xs n = rw (ne_eqb j x n)

beside-here : (j p : ℕ) (ps : List ℕ) (i : ℕ) (is : List ℕ) → j ≡ p → beside j (p ∷ ps) (i ∷ is) ≡ i
unfolding beside pick
beside-here j p ps i is e = rw (eq-eqb j p e)

beside-there : (j p : ℕ) (ps : List ℕ) (i : ℕ) (is : List ℕ) → (j ≡ p → ⊥) → beside j (p ∷ ps) (i ∷ is) ≡ beside j ps is
unfolding beside pick
beside-there j p ps i is n = rw (ne_eqb j p n, beside)

beside_none : (j : ℕ) (ps is : List ℕ) → member j ps ≡ false → beside j ps is ≡ 0
unfolding beside
beside_none j [] is m = refl
beside_none j (p ∷ ps) [] m = refl
beside_none j (p ∷ ps) (i ∷ is) m =
    ⊎_elim
    (λ (e : j ≡ p). absurd (false-true (sym m ∙ member-here j p ps e)))
    (λ (n : j ≡ p → ⊥). beside-there j p ps i is n ∙ beside_none j ps is (sym (member-there j p ps n) ∙ m))
    (cases_eq j p)

beside-map : (f : ℕ → ℕ) (j : ℕ) (ps : List ℕ) → member j ps ≡ true → beside j ps (map f ps) ≡ f j
unfolding member
beside-map f j [] m = absurd (false-true m)
beside-map f j (p ∷ ps) m =
    ⊎_elim
    (λ (e : j ≡ p). beside-here j p ps (f p) (map f ps) e ∙ ap f (sym e))
    (λ (n : j ≡ p → ⊥). beside-there j p ps (f p) (map f ps) n ∙ beside-map f j ps (sym (member-there j p ps n) ∙ m))
    (cases_eq j p)

map_same : (f g : ℕ → ℕ) (xs : List ℕ) → ((j : ℕ) → member j xs ≡ true → f j ≡ g j) → map f xs ≡ map g xs
map_same f g [] h = refl
map_same f g (x ∷ xs) h =
    ap₂ (λ (y : ℕ) (l : List ℕ). y ∷ l) (h x (member-here x x xs refl))
    (map_same f g xs (λ j m. h j (⊎_elim (λ (e : j ≡ x). member-here j x xs e) (λ (n : j ≡ x → ⊥). member-there j x xs n ∙ m) (cases_eq j x))))

-- a list of different items, and another as long
beside-all : (ps is : List ℕ) → length is ≡ length ps → Distinct ps → map (λ j. beside j ps is) ps ≡ is
beside-all [] [] l d = refl
beside-all [] (i ∷ is) l d = absurd (omega arith)
beside-all (p ∷ ps) [] l d = absurd (omega arith)
beside-all (p ∷ ps) (i ∷ is) l d =
    ap₂ (λ (y : ℕ) (t : List ℕ). y ∷ t) (beside-here p p ps i is refl)
    (map_same _ _ ps (λ j m. beside-there j p ps i is (λ e. false-true (sym d.0 ∙ ap (λ (x : ℕ). member x ps) (sym e) ∙ m)))
    ∙ beside-all ps is (omega arith) d.1)

-- ---- counts and members

count_none : (j : ℕ) (xs : List ℕ) → member j xs ≡ false → count j xs ≡ 0
unfolding count
count_none j [] m = refl
count_none j (x ∷ xs) m =
    ⊎_elim
    (λ (e : j ≡ x). absurd (false-true (sym m ∙ member-here j x xs e)))
    (λ (n : j ≡ x → ⊥). omega (arith, same-no j x n, count_none j xs (sym (member-there j x xs n) ∙ m)))
    (cases_eq j x)

count-zero : (j : ℕ) (xs : List ℕ) → count j xs ≡ 0 → member j xs ≡ false
unfolding count member
count-zero j [] e = refl
count-zero j (x ∷ xs) e =
    ⊎_elim
    (λ (q : j ≡ x). absurd (omega (arith, same-yes j x q)))
    (λ (n : j ≡ x → ⊥). member-there j x xs n ∙ count-zero j xs (omega (arith, same-no j x n)))
    (cases_eq j x)

all-different : (xs : List ℕ) → ((j : ℕ) → count j xs ≤ 1) → Distinct xs
unfolding count
all-different [] h = tt
all-different (x ∷ xs) h = (count-zero x xs (omega (arith, h x, same-yes x x refl)), all-different xs (λ j. omega (arith, h j)))

all_of : (n j : ℕ) → j < n → total n (same j) ≡ 1
all_of n j l = total-same n _ _ (λ k h. sym (mul-one (same j k))) ∙ once n j (λ _. 1) l

-- ---- lists of so many numbers

length-rows : {A : Type 0} (f : ℕ → A) (n i : ℕ) → length (rows n i f) ≡ n
unfolding rows
length-rows f zero i = refl
length-rows f (suc n) i = ap suc (length-rows f n (suc i))

clear_at : (n j : ℕ) → ◌≡◌ {A = ℕ} (get_or (replicate n 0) j 0) 0
clear_at zero j = refl
clear_at (suc n) zero = refl
clear_at (suc n) (suc j) = clear_at n j

no-entry : (j : ℕ) → get_or no_entries j 0 ≡ 0
unfolding no_entries
no-entry j = clear_at 2048 j

no-public-entry : (j : ℕ) → get_or no_publics j 0 ≡ 0
unfolding no_publics
no-public-entry j = clear_at 64 j

entries-long : length no_entries ≡ 2048
unfolding no_entries
entries-long = length-replicate {A = ℕ} 2048 0

public-entries-long : length no_publics ≡ 64
unfolding no_publics
public-entries-long = length-replicate {A = ℕ} 64 0

numbered-long : (xs : List ℕ) (g : Names) → length (number_publics xs g).0 ≡ length xs
unfolding number_publics ◌>>=◌ return
numbered-long [] g = refl
numbered-long (x ∷ xs) g = ap suc (numbered-long xs (number_variable x [] g).1)

abbrev of_fields : ℕ → List ℕ → List (Pat × Expr) × List Expr → Numbered
of_fields n ps t = record { next = n; publics = ps; definitions = t.0; expressions = t.1 }

-- ---- the names of a record's module

module _ (b : List ℕ) (Q : Readable b) where
  -- the nodes that have a name
  abbrev Own : ℕ → Type 0
  Own j = (j < nodes b) × (bears (entry_of b (nodes_offset b) j) ≡ true)

  F : (k : ℕ) → Facts Own (tree b (nodes_offset b) (nodes b) k) (λ ids. numbered_tree ids b (nodes_offset b) (nodes b) k)
  F k = facts Own b (nodes_offset b) (nodes b) Q.nodes-few (λ j l o. (l, o)) k

  abbrev defs : ℕ → ℕ → List ℕ → List (Pat × Expr)
  defs n i ids = rows n i (numbered_definition ids b (nodes_offset b) (nodes b) (definitions_offset b))

  abbrev exprs : ℕ → ℕ → List ℕ → List Expr
  exprs n i ids = rows n i (numbered_expression ids b (nodes_offset b) (nodes b) (expressions_offset b))

  definitions-part : (n i : ℕ) → Part Own definition_names (defs n i)
  unfolding rows definition_names numbered_definition
  definitions-part zero i = part_none Own definition_names [] refl
  definitions-part (suc n) i =
      part-two Own pair_names definition_names definition_names (λ d ds. d ∷ ds) (λ d ds. refl)
      (part-two Own pattern_ids expr_names pair_names (λ p e. (p, e)) (λ p e. refl) (F _).pattern (F _).expression)
      (definitions-part n (suc i))

  definitions-shape : (n i : ℕ) (l : Ids) (g : Names) →
      Shaped definition_names (defs n i) (number_definitions (rows n i (definition_at b (nodes_offset b) (nodes b) (definitions_offset b))) l g).0.0
  unfolding rows definition_names numbered_definition definition_at number_definitions number_def_variables ◌>>=◌ return
  definitions-shape zero i l g = shaped-none definition_names []
  definitions-shape (suc n) i l g =
      let d = definition_at b (nodes_offset b) (nodes b) (definitions_offset b) i in
      let v = number_expr_variables d.1 l g in
      let w = number_pattern_variables d.0 l v.1 in
      shaped-two pair_names definition_names definition_names (λ d ds. d ∷ ds) (λ d ds. refl)
      (shaped-two pattern_ids expr_names pair_names (λ p e. (p, e)) (λ p e. refl) ((F _).pattern-shape l v.1) ((F _).expression-shape l g))
      (definitions-shape n (suc i) w.0.1 w.1)

  expressions-part : (n i : ℕ) → Part Own expression_names (exprs n i)
  unfolding rows expression_names numbered_expression
  expressions-part zero i = part_none Own expression_names [] refl
  expressions-part (suc n) i = part-two Own expr_names expression_names expression_names (λ e es. e ∷ es) (λ e es. refl) (F _).expression
      (expressions-part n (suc i))

  expressions-shape : (n i : ℕ) (l : Ids) (g : Names) →
      Shaped expression_names (exprs n i) (number_expressions (rows n i (expression_at b (nodes_offset b) (nodes b) (expressions_offset b))) l g).0
  unfolding rows expression_names numbered_expression expression_at number_expressions ◌>>=◌ return
  expressions-shape zero i l g = shaped-none expression_names []
  expressions-shape (suc n) i l g =
      let e = expression_at b (nodes_offset b) (nodes b) (expressions_offset b) i in
      shaped-two expr_names expression_names expression_names (λ e es. e ∷ es) (λ e es. refl) ((F _).expression-shape l g)
      (expressions-shape n (suc i) l (number_expr_variables e l g).1)

  abbrev both_names : List (Pat × Expr) × List Expr → List ℕ
  both_names t = definition_names t.0 ++ expression_names t.1

  abbrev both : List ℕ → List (Pat × Expr) × List Expr
  both ids = (defs (definitions b) 0 ids, exprs (expressions b) 0 ids)

  abbrev M : Numbered
  M = numbered (module_of b)

  module-part : Part Own both_names both
  module-part = part-two Own definition_names expression_names both_names (λ ds es. (ds, es)) (λ ds es. refl) (definitions-part (definitions b) 0)
      (expressions-part (expressions b) 0)

  module-shape : Shaped both_names both (M.definitions, M.expressions)
  unfolding numbered names_of number_module_variables module_of ◌>>=◌ return
  module-shape =
      let g = (number_publics (module_of b).publics (registered (module_of b).names)).1 in
      let d = number_definitions (module_of b).definitions [] g in
      shaped-two definition_names expression_names both_names (λ ds es. (ds, es)) (λ ds es. refl) (definitions-shape (definitions b) 0 [] g)
      (expressions-shape (expressions b) 0 d.0.1 d.1)

  -- ---- each node that has a name stands there once

  module _ (j : ℕ) (o : Own j) where
    C : (k : ℕ) → k < nodes b → Counted b (nodes_offset b) (nodes b) (walk b Q) j o.1 k
    C = counted b (nodes_offset b) (nodes b) (walk b Q) j o.1

    definitions-count : (n i : ℕ) → i + n ≤ definitions b →
        count j (definition_names (defs n i indices)) ≡ definitions_weight b (nodes_offset b) (definitions_offset b) n i (same j)
    unfolding rows definition_names numbered_definition sum_from count definitions_fit
    definitions-count zero i h = refl
    definitions-count (suc n) i h =
        let x : ℕ = (definition_entry b (definitions_offset b) i).pattern in
        let y : ℕ = (definition_entry b (definitions_offset b) i).value in
        let f = every-at (definitions b) i _ Q.definitions-fit (omega arith) in
        let p = pattern-item b (nodes_offset b) (nodes b) (walk b Q) (nodes b) x (and_left _ _ f) in
        let q = expression-item b (nodes_offset b) (nodes b) (walk b Q) (nodes b) y (and_right (pattern_fits b (nodes_offset b) (nodes b) x) _ f) in
        let T = numbered_tree indices b (nodes_offset b) (nodes b) in
        omega (
          arith,
          count-append j (pattern_ids (T x).pattern ++ expr_names (T y).expression) (definition_names (defs n (suc i) indices)),
          count-append j (pattern_ids (T x).pattern) (expr_names (T y).expression),
          (C x p.0).pattern p.1,
          (C y q.0).expression q.1,
          definitions-count n (suc i) (omega arith),
        )

    expressions-count : (n i : ℕ) → i + n ≤ expressions b →
        count j (expression_names (exprs n i indices)) ≡ expressions_weight b (nodes_offset b) (expressions_offset b) n i (same j)
    unfolding rows expression_names numbered_expression sum_from count expressions_fit
    expressions-count zero i h = refl
    expressions-count (suc n) i h =
        let x : ℕ = expression_root b (expressions_offset b) i in
        let p = expression-item b (nodes_offset b) (nodes b) (walk b Q) (nodes b) x (every-at (expressions b) i _ Q.expressions-fit (omega arith)) in
        let T = numbered_tree indices b (nodes_offset b) (nodes b) in
        omega (
          arith,
          count-append j (expr_names (T x).expression) (expression_names (exprs n (suc i) indices)),
          (C x p.0).expression p.1,
          expressions-count n (suc i) (omega arith),
        )

    once-there : count j (places b) ≡ 1
    unfolding places all_names numbered_module
    once-there =
        count-append j (definition_names (defs (definitions b) 0 indices)) (expression_names (exprs (expressions b) 0 indices))
        ∙ ap₂ (λ (x y : ℕ). x + y) (definitions-count (definitions b) 0 (omega arith)) (expressions-count (expressions b) 0 (omega arith))
        ∙ lists-weigh b Q (same j)
        ∙ all_of (nodes b) j o.0

  places-own : All Own (places b)
  unfolding places all_names numbered_module
  places-own = module-part.bearing

  at-most-once : (j : ℕ) → count j (places b) ≤ 1
  at-most-once j = go (member j (places b)) refl
    where
      go : (t : Bool) → member j (places b) ≡ t → count j (places b) ≤ 1
      go true e = omega (arith, once-there j (all-member Own j (places b) places-own e))
      go false e = omega (arith, count_none j (places b) e)

  places-differ : Distinct (places b)
  places-differ = all-different (places b) at-most-once

  -- one that has none stands nowhere
  not_there : (j : ℕ) → (Own j → ⊥) → member j (places b) ≡ false
  not_there j n = not-true (member j (places b)) (λ e. n (all-member Own j (places b) places-own e))

  -- ---- the ids

  names-long : length (all_names M) ≡ length (places b)
  unfolding places all_names numbered_module
  names-long = module-shape.long

  id-at : (j : ℕ) → j < 2048 → get_or (ids_of b) j 0 ≡ beside j (places b) (all_names M)
  unfolding ids_of
  id-at j l = table_at 2048 (λ k. beside k (places b) (all_names M)) j l

  ids-fit : all_names M ≡ ids_at (ids_of b) (places b)
  ids-fit =
      sym (map_same _ _ (places b) (λ j m. id-at j (omega (arith, (all-member Own j (places b) places-own m).0, Q.nodes-few)))
      ∙ beside-all (places b) (all_names M) names-long places-differ)

  lists-are : (M.definitions, M.expressions) ≡ both (ids_of b)
  unfolding places all_names numbered_module
  lists-are = module-shape.same (ids_of b) ids-fit

  ids-long : length (ids_of b) ≡ 2048
  unfolding ids_of
  ids-long = length-rows _ 2048 0

  no-id : (j : ℕ) → (Own j → ⊥) → get_or (ids_of b) j 0 ≡ 0
  no-id j n = ⊎_elim
      (λ (l : j < 2048). id-at j l ∙ beside_none j (places b) (all_names M) (not_there j n))
      (λ (l : 2048 ≤ j). get_or-eq_default (ids_of b) 0 (omega (arith, ids-long)))
      (cases_lt j 2048)

  -- ---- the publics

  publics-long : length M.publics ≡ publics b
  unfolding numbered number_module_variables module_of ◌>>=◌ return
  publics-long = numbered-long (rows (publics b) 0 (public_at b (publics_offset b))) _ ∙ length-rows _ (publics b) 0

  public-at : (k : ℕ) → k < 64 → get_or (public_ids_of b) k 0 ≡ get_or M.publics k 0
  unfolding public_ids_of
  public-at k l = table_at 64 (λ i. get_or M.publics i 0) k l

  publics-are : M.publics ≡ rows (publics b) 0 (λ k. get_or (public_ids_of b) k 0)
  publics-are = ext_get_or 0 M.publics _ (publics-long ∙ sym (length-rows _ (publics b) 0))
      (λ k l. let h : k < publics b = omega (arith, publics-long) in sym
      (table_at (publics b) (λ i. get_or (public_ids_of b) i 0) k h ∙ public-at k (omega (arith, Q.publics-few))))

  public-ids-long : length (public_ids_of b) ≡ 64
  unfolding public_ids_of
  public-ids-long = length-rows _ 64 0

  no-public : (k : ℕ) → publics b ≤ k → get_or (public_ids_of b) k 0 ≡ 0
  no-public k l = ⊎_elim
      (λ (h : k < 64). public-at k h ∙ get_or-eq_default M.publics 0 (omega (arith, publics-long)))
      (λ (h : 64 ≤ k). get_or-eq_default (public_ids_of b) 0 (omega (arith, public-ids-long)))
      (cases_lt k 64)

  -- ---- what NumberedIn says of them

  pub numbered-in : NumberedIn b no_entries no_publics M.next (ids_of b) (public_ids_of b)
  unfolding numbered_module
  numbered-in = record {
    numbers = ap₂ (of_fields M.next) publics-are lists-are;
    ids-unnamed = λ j z. no-id j (λ o. false-true (sym z ∙ o.1)) ∙ sym (no-entry j);
    ids-behind = λ j l. no-id j (λ o. omega (arith, o.0)) ∙ sym (no-entry j);
    public-behind = λ j l. no-public j l ∙ sym (no-public-entry j);
    ids-long = ids-long ∙ sym entries-long;
    public-long = public-ids-long ∙ sym public-entries-long;
  }

  -- ---- and it says it of no others

  module _ {next : ℕ} (ids public : List ℕ) (N : NumberedIn b no_entries no_publics next ids public) where
    pub next-is : next ≡ M.next
    unfolding numbered_module
    next-is = sym (ap (λ (n : Numbered). n.next) N.numbers)

    names-are : all_names M ≡ ids_at ids (places b)
    unfolding all_names numbered_module places
    names-are = ap all_names N.numbers ∙ module-part.labelled ids

    there : (j : ℕ) → j < 2048 → member j (places b) ≡ true → get_or ids j 0 ≡ get_or (ids_of b) j 0
    there j l m = sym (id-at j l ∙ ap (beside j (places b)) names-are ∙ beside-map (λ k. get_or ids k 0) j (places b) m)

    nowhere : (j : ℕ) → member j (places b) ≡ false → Own j → ⊥
    nowhere j m o = omega (arith, once-there j o, count_none j (places b) m)

    unchanged : (j : ℕ) → (Own j → ⊥) → get_or ids j 0 ≡ 0
    unchanged j n = go (bears (entry_of b (nodes_offset b) j)) refl
      where
        go : (t : Bool) → bears (entry_of b (nodes_offset b) j) ≡ t → get_or ids j 0 ≡ 0
        go true e = ⊎_elim (λ (l : j < nodes b). absurd (n (l, e))) (λ (l : nodes b ≤ j). N.ids-behind j l ∙ no-entry j) (cases_lt j (nodes b))
        go false e = N.ids-unnamed j e ∙ no-entry j

    pub ids-are : ids ≡ ids_of b
    ids-are = ext_get_or 0 ids (ids_of b) (long ∙ sym ids-long) (λ j l. at j (omega (arith, long)))
      where
        long : length ids ≡ 2048
        long = N.ids-long ∙ entries-long

        at : (j : ℕ) → j < 2048 → get_or ids j 0 ≡ get_or (ids_of b) j 0
        at j l = go (member j (places b)) refl
          where
            go : (t : Bool) → member j (places b) ≡ t → get_or ids j 0 ≡ get_or (ids_of b) j 0
            go true m = there j l m
            go false m = unchanged j (nowhere j m) ∙ sym (no-id j (nowhere j m))

    public-named : (k : ℕ) → k < publics b → get_or public k 0 ≡ get_or M.publics k 0
    unfolding numbered_module
    public-named k l = sym (ap (λ (n : Numbered). get_or n.publics k 0) N.numbers ∙ table_at (publics b) (λ i. get_or public i 0) k l)

    pub public-is : public ≡ public_ids_of b
    public-is = ext_get_or 0 public (public_ids_of b) (long ∙ sym public-ids-long) (λ k l. at k (omega (arith, long)))
      where
        long : length public ≡ 64
        long = N.public-long ∙ public-entries-long

        at : (k : ℕ) → k < 64 → get_or public k 0 ≡ get_or (public_ids_of b) k 0
        at k l = ⊎_elim
            (λ (h : k < publics b). public-named k h ∙ sym (public-at k l))
            (λ (h : publics b ≤ k). N.public-behind k h ∙ no-public-entry k ∙ sym (no-public k h))
            (cases_lt k (publics b))

-- ---- for every byte string

abbrev HasOutcome : List ℕ → Numbering → Type 0
HasOutcome b x = Outcome b no_entries no_publics x.answer x.ids x.publics

-- there is one
pub outcome-exists : (b : List ℕ) → HasOutcome b (numbering_of b)
unfolding numbering_of numbering_for Outcome
outcome-exists b = go (source_of b) refl
  where
    accepted : (m : Module) → m ≡ module_of b → source_of b ≡ Read.module-of m → HasOutcome b (numbering_for b (Read.module-of m))
    accepted m q e = rw q (e ∙ ap Read.module-of q, numbered-in b (accepted-readable b m e))

    go : (r : Read) → source_of b ≡ r → HasOutcome b (numbering_for b r)
    go (Read.module-of m) e = accepted m (accepted-module b m e) e
    go (Read.refused r) e = (e, (refl, refl))

-- and no other
pub outcome-unique : (b : List ℕ) (x : Numbering) → HasOutcome b x → x ≡ numbering_of b
unfolding numbering_of numbering_for Outcome
outcome-unique b x h = go x.answer x.ids x.publics h
  where
    of_parts : Result ℕ Refusal → List ℕ → List ℕ → Numbering
    of_parts a ids public = record { answer = a; ids = ids; publics = public }

    go : (a : Result ℕ Refusal) (ids public : List ℕ) → Outcome b no_entries no_publics a ids public → of_parts a ids public ≡ numbering_for b (source_of b)
    go (Ok n) ids public h =
        let Q = accepted-readable b (module_of b) h.0 in
        ap₂ (λ (m : ℕ) (t : List ℕ × List ℕ). of_parts (Ok m) t.0 t.1) (next-is b Q ids public h.1)
        (ap₂ (λ (s t : List ℕ). (s, t)) (ids-are b Q ids public h.1) (public-is b Q ids public h.1))
        ∙ sym (ap (numbering_for b) h.0)
    go (Err r) ids public h = ap₂ (of_parts (Err r)) h.1.0 h.1.1 ∙ sym (ap (numbering_for b) h.0)
