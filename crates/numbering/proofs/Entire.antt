-- All of numbering: what its parts leave is the numbered module. Assumes nothing.
use Prim.Native.Nat.{ℕ, zero, suc, ◌+◌, ◌*◌, ◌≤◌, ◌<◌}
use mathlib.Core.Path.{◌≡◌, refl, sym, ap, ap₂, ◌∙◌}
use mathlib.Core.List.{List, []}
use mathlib.Core.Bool.{true}
use native.Mathlib.Omega.{arith}
use lib.ListN.{length, get_or}
use borrow.Author.Tests.{eqb-true}
use Rattle.std.proofs.lemmas.List.{append-nil, get_or-replicate}
use Rattle.source.specs.declared.Layout.{Layout}
use Rattle.source.specs.Trees.{Pat, Expr}
use Rattle.marks.specs.Indices.{total, rows, same}
use Rattle.source.specs.Layout.{names, publics, definitions, expressions, nodes}
use Rattle.source.specs.Layout.{publics_offset, definitions_offset, expressions_offset, nodes_offset, text_offset, layout_of}
use Rattle.source.specs.Layout.{definition_entry, expression_root, NAME-WORDS, DEFINITION-WORDS}
use Rattle.source.specs.Names.{names_fit, name_of}
use Rattle.source.specs.Nodes.{pattern_fits, publics_fit, definitions_fit, expressions_fit}
use Rattle.source.specs.Uses.{by_nodes, by_definitions, by_expressions}
use Rattle.source.specs.Record.{Read, module_of, used_once}
use Rattle.source.specs.Readable.{Readable}
use Rattle.std.specs.Prelude.{Err, None}
use Rattle.records.specs.declared.refusals.Refusal.{Refusal}
use Rattle.source_check.specs.Answer.{checked}
use Rattle.numbering.specs.Numbering.{Names, Numbered, ◌>>=◌, return, found, named, fresh_text, iter_text}
use Rattle.numbering.specs.Numbering.{fold_text, registered, number_module_variables, names_of, numbered}
use Rattle.numbering.specs.Numbers.{NumberedIn, numbered_module, numbered_definition, numbered_expression}
use Rattle.numbering.specs.Walks.{depth, weight, each, coded, Holds, names as both, no_row, Room}
use Rattle.numbering.specs.Walks.{Walkable, ReadyDefinitions, ReadyExpressions, sum_from, definitions_weight}
use Rattle.numbering.specs.Walks.{expressions_weight, Published, Registered, DefinitionsWalk, ExpressionsWalk}
use Rattle.numbering.specs.declared.rows.Scopes.{Scopes}
use Rattle.marks.proofs.Indices.{every-at, and_left, and_right}
use Rattle.marks.proofs.Indices.{same-no}
use Rattle.numbering.proofs.Sums.{total-same, total-sum, total-zero, total-add, one_at_most, used-by}
use Rattle.numbering.proofs.Weights.{roots-weigh}
use Rattle.numbering.proofs.Children.{pattern-item, expression-item}
use Rattle.numbering.proofs.Held.{held-same}
use Rattle.numbering.proofs.Scopes.{Parts, room-first, room-second, earlier, later}
use Rattle.records.specs.SourceRecord.{HEADER}

-- ---- rows at the start

pub no-row-holds : Holds no_row []
unfolding no_row found coded
no-row-holds x l = get_or-replicate 512 x None None l

-- the three texts
pub three-registered : (b : List ℕ) (text count : ℕ) {s₀ s₁ s₂ s₃ : Scopes} → Registered b fresh_text text count 0 s₀ s₁
    → Registered b iter_text text count 2 s₁ s₂ → Registered b fold_text text count 5 s₂ s₃ → Holds s₀.globals []
    → Holds s₃.globals (registered (rows count 0 (name_of b text))).globals
unfolding registered
three-registered b text count r s t h =
    let q = t.holds _ (s.holds _ (r.holds [] h)) in
    let e = append-nil (named fresh_text 0 0 (rows count 0 (name_of b text))) in
    rw e at q

abbrev numbers_of : ℕ → List ℕ → List (Pat × Expr) → List Expr → Numbered
numbers_of n ps ds es = record { next = n; publics = ps; definitions = ds; expressions = es }

-- ---- sums over lists

total-front : (n : ℕ) (f : ℕ → ℕ) → total (suc n) f ≡ f 0 + total n (λ k. f (suc k))
unfolding total
total-front zero f = omega arith
total-front (suc n) f =
    ap (λ (x : ℕ). x + f (suc n)) (total-front n f)
    ∙ (let z : f 0 + total n (λ k. f (suc k)) + f (suc n) ≡ f 0 + (total n (λ k. f (suc k)) + f (suc n)) = omega arith in z)

sum-total : (n i : ℕ) (f : ℕ → ℕ) → sum_from n i f ≡ total n (λ j. f (i + j))
unfolding sum_from total
sum-total zero i f = refl
sum-total (suc n) i f =
    ap (λ (x : ℕ). f i + x) (sum-total n (suc i) f)
    ∙ sym
    (total-front n (λ j. f (i + j))
    ∙ ap₂ (λ (x y : ℕ). x + y)
    (let z : i + 0 ≡ i = omega arith in ap f z)
    (total-same n _ _ (λ k l. let z : i + suc k ≡ suc i + k = omega arith in ap f z)))

sum-all : (n : ℕ) (f : ℕ → ℕ) → sum_from n 0 f ≡ total n f
sum-all n f = sum-total n 0 f ∙ total-same n _ _ (λ k l. let z : 0 + k ≡ k = omega arith in ap f z)

total-each : (n : ℕ) → total n each ≡ n
unfolding total each
total-each zero = refl
total-each (suc n) = omega (arith, total-each n)

module _ (b : List ℕ) (Q : Readable b) where
  pub walk : Walkable b (nodes_offset b) (nodes b)
  walk = record { count = names b; fit = Q.nodes-fit; few-names = Q.names-few; few-nodes = Q.nodes-few }

  pattern-root : (j : ℕ) → j < definitions b → (definition_entry b (definitions_offset b) j).pattern < nodes b
  unfolding definitions_fit
  pattern-root j l =
      let fits = and_left _ _ (every-at (definitions b) j _ Q.definitions-fit l) in
      (pattern-item b (nodes_offset b) (nodes b) walk (nodes b) (definition_entry b (definitions_offset b) j).pattern fits).0

  value-root : (j : ℕ) → j < definitions b → (definition_entry b (definitions_offset b) j).value < nodes b
  unfolding definitions_fit
  value-root j l =
      let d = definition_entry b (definitions_offset b) j in
      let fits = and_right (pattern_fits b (nodes_offset b) (nodes b) d.pattern) _ (every-at (definitions b) j _ Q.definitions-fit l) in
      (expression-item b (nodes_offset b) (nodes b) walk (nodes b) d.value fits).0

  expression-root : (j : ℕ) → j < expressions b → expression_root b (expressions_offset b) j < nodes b
  unfolding expressions_fit
  expression-root j l =
      let fits = every-at (expressions b) j _ Q.expressions-fit l in
      (expression-item b (nodes_offset b) (nodes b) walk (nodes b) (expression_root b (expressions_offset b) j) fits).0

  used : (c : ℕ) → c < nodes b
      → by_nodes b (nodes_offset b) (nodes b) c + (by_definitions b (definitions_offset b) (definitions b) c
      + by_expressions b (expressions_offset b) (expressions b) c) ≡ 1
  unfolding used_once
  used c l = eqb-true _ 1 (every-at (nodes b) c _ Q.used-once l)

  definitions-weigh : (own : ℕ → ℕ)
      → total (nodes b) (λ c. by_definitions b (definitions_offset b) (definitions b) c * weight b (nodes_offset b) own c)
      ≡ definitions_weight b (nodes_offset b) (definitions_offset b) (definitions b) 0 own
  unfolding by_definitions
  definitions-weigh own =
      let w : ℕ → ℕ = weight b (nodes_offset b) own in
      let n = nodes b in
      let d = definitions b in
      let p : ℕ → ℕ = λ j. (definition_entry b (definitions_offset b) j).pattern in
      let v : ℕ → ℕ = λ j. (definition_entry b (definitions_offset b) j).value in
      total-same n _ _ (λ c l. ap (λ (x : ℕ). x * w c) (total-sum d (λ j. same (p j) c) (λ j. same (v j) c)))
      ∙ total-add n (λ c. total d (λ j. same (p j) c)) (λ c. total d (λ j. same (v j) c)) w
      ∙ ap₂ (λ (x y : ℕ). x + y) (used-by n d p w pattern-root) (used-by n d v w value-root)
      ∙ sym (total-sum d (λ j. w (p j)) (λ j. w (v j)))
      ∙ sym (sum-all d (λ j. w (p j) + w (v j)))

  expressions-weigh : (own : ℕ → ℕ)
      → total (nodes b) (λ c. by_expressions b (expressions_offset b) (expressions b) c * weight b (nodes_offset b) own c)
      ≡ expressions_weight b (nodes_offset b) (expressions_offset b) (expressions b) 0 own
  unfolding by_expressions
  expressions-weigh own =
      let w : ℕ → ℕ = weight b (nodes_offset b) own in
      let r : ℕ → ℕ = λ j. expression_root b (expressions_offset b) j in
      used-by (nodes b) (expressions b) r w expression-root ∙ sym (sum-all (expressions b) (λ j. w (r j)))

  -- THE LISTS WEIGH as much as all nodes
  pub lists-weigh : (own : ℕ → ℕ)
      → definitions_weight b (nodes_offset b) (definitions_offset b) (definitions b) 0 own
      + expressions_weight b (nodes_offset b) (expressions_offset b) (expressions b) 0 own
      ≡ total (nodes b) own
  lists-weigh own =
      sym (ap₂ (λ (x y : ℕ). x + y) (definitions-weigh own) (expressions-weigh own))
      ∙ sym (total-add (nodes b) (by_definitions b (definitions_offset b) (definitions b)) (by_expressions b (expressions_offset b) (expressions b))
      (weight b (nodes_offset b) own))
      ∙ roots-weigh b (nodes_offset b) (names b) (nodes b) Q.nodes-fit own
      (λ c. by_definitions b (definitions_offset b) (definitions b) c + by_expressions b (expressions_offset b) (expressions b) c) used

  lists-parts : Parts (total (nodes b)) (definitions_weight b (nodes_offset b) (definitions_offset b) (definitions b) 0)
      (expressions_weight b (nodes_offset b) (expressions_offset b) (expressions b) 0)
  lists-parts = record { hold = λ own. omega (arith, lists-weigh own) }

  room : (next : ℕ) → next ≤ 73 → Room (total (nodes b)) next 0
  room next l = record {
    met-once = one_at_most (nodes b);
    entries = omega (arith, total-each (nodes b), Q.nodes-few);
    ids = omega (arith, total-each (nodes b), Q.nodes-few);
  }

  pub definitions-ready : (next : ℕ) → next ≤ 73 → ReadyDefinitions b (nodes_offset b) (nodes b) (definitions_offset b) (definitions b) 0 next 0
  definitions-ready next l = record { walk = walk; room = room-first lists-parts (room next l) }

  pub expressions-ready : (next next' : ℕ) → next ≤ 73 → next' ≤ next + definitions_weight b (nodes_offset b) (definitions_offset b) (definitions b) 0 each
      → ReadyExpressions b (nodes_offset b) (nodes b) (expressions_offset b) (expressions b) 0 next' 0
  expressions-ready next next' l q = record { walk = walk; room = room-second lists-parts (room next l) q refl }

  none-behind : (j : ℕ) → nodes b ≤ j → total (nodes b) (same j) ≡ 0
  none-behind j l = total-same (nodes b) _ _ (λ k m. same-no j k (λ e. omega arith)) ∙ total-zero (nodes b)

  pub entire : {s s₁ s₂ s₃ : Scopes} {public public₁ : List ℕ} → Published b (publics_offset b) (publics b) 0 s public s₁ public₁
      → DefinitionsWalk b (nodes_offset b) (nodes b) (definitions_offset b) (definitions b) 0 s₁ s₂
      → ExpressionsWalk b (nodes_offset b) (nodes b) (expressions_offset b) (expressions b) 0 s₂ s₃ → s.next ≡ 9
      → Holds s.locals [] → Holds s.globals (registered (rows (names b) 0 (name_of b (text_offset b)))).globals
      → length s₃.ids ≡ length s.ids → length public₁ ≡ length public → NumberedIn b s.ids public s₃.next s₃.ids public₁
  unfolding numbered names_of number_module_variables numbered_module module_of ◌>>=◌ return registered
  entire {s} {s₁} {s₂} {s₃} {public} {public₁} p d x e hl hg li lp =
      let g = registered (rows (names b) 0 (name_of b (text_offset b))) in
      let pn = p.numbers g hl hg (sym e) in
      let once = (room 0 (omega arith)).met-once in
      let dn = d.numbers [] (both pn.0 s₁.next) s₃.ids (held-same [] p.rest.same_locals hl) pn.1.1 refl
      (earlier s₂.ids s₃.ids s₃.ids lists-parts once x.elsewhere (λ j l. refl)) in
      let xn = x.numbers dn.0 (both dn.1.0 s₂.next) s₃.ids dn.1.1.1.0 dn.1.1.1.1 refl (later s₃.ids s₃.ids lists-parts (λ j l. refl)) in
      let same-id = λ (j : ℕ). ap (λ (t : List ℕ). get_or t j 0) p.rest.same_ids in
      let run : number_module_variables (module_of b) g ≡ (
        (
          rows (publics b) 0 (λ k. get_or public₁ k 0),
          rows (definitions b) 0 (numbered_definition s₃.ids b (nodes_offset b) (nodes b) (definitions_offset b)),
          rows (expressions b) 0 (numbered_expression s₃.ids b (nodes_offset b) (nodes b) (expressions_offset b)),
        ),
        both xn.0 s₃.next,
      ) = rw (pn.1.0, dn.1.1.0, xn.1.0) in
      record {
        numbers = ap (λ (t : (List ℕ × List (Pat × Expr) × List Expr) × Names). numbers_of t.1.next t.0.0 t.0.1 t.0.2) run;
        ids-unnamed = λ j z. x.unnamed j z ∙ d.unnamed j z ∙ same-id j;
        ids-behind = λ j l.
            x.elsewhere j (omega (arith, none-behind j l, lists-weigh (same j)))
            ∙ d.elsewhere j (omega (arith, none-behind j l, lists-weigh (same j))) ∙ same-id j;
        public-behind = λ j l. p.behind j (omega arith);
        ids-long = li;
        public-long = lp;
      }

-- the same by a layout in a local
module _ (b : List ℕ) (Q : Readable b) (l : Layout) (e : l ≡ layout_of b) where
  pub publics-asked : ((4 * (l.publics_at + l.publics) ≤ length b) × (publics_fit b l.names l.publics_at l.publics ≡ true))
      × (l.publics ≤ 64)
  unfolding layout_of
  publics-asked = rw e ((omega (arith, Q.long), Q.publics-fit), Q.publics-few)

  pub nodes-asked : (4 * (l.nodes_at + 4 * l.nodes) ≤ length b) × (l.nodes ≤ 2048)
  unfolding layout_of
  nodes-asked = rw e (Q.long, Q.nodes-few)

  pub definitions-asked : (s : Scopes) → s.next ≤ 9 + l.publics → depth s ≡ 0 →
      let list = l.definitions_at in
      ((4 * (list + DEFINITION-WORDS * l.definitions) ≤ length b) × (definitions_fit b l.nodes_at l.nodes list l.definitions ≡ true))
      × ReadyDefinitions b l.nodes_at l.nodes list l.definitions 0 s.next (depth s)
  unfolding layout_of
  definitions-asked s =
      rw e (λ q t. ((omega (arith, Q.long), Q.definitions-fit), rw t (definitions-ready b Q s.next (omega (arith, Q.publics-few)))))

  pub expressions-asked : {s s₁ : Scopes} → s.next ≤ 9 + l.publics → depth s ≡ 0 → DefinitionsWalk b l.nodes_at l.nodes l.definitions_at l.definitions 0 s s₁
      → ((4 * (l.expressions_at + l.expressions) ≤ length b) × (expressions_fit b l.nodes_at l.nodes l.expressions_at l.expressions ≡ true))
      × ReadyExpressions b l.nodes_at l.nodes l.expressions_at l.expressions 0 s₁.next (depth s₁)
  unfolding layout_of
  expressions-asked {s} {s₁} =
      rw e (λ q t d.
      let r : depth s₁ ≡ 0 = d.same_top ∙ t in
      ((omega (arith, Q.long), Q.expressions-fit), rw r (expressions-ready b Q s.next s₁.next (omega (arith, Q.publics-few)) d.few)))

  pub names-asked : ((names_fit b l.text_at l.names ≡ true) × (4 * (HEADER + NAME-WORDS * l.names) ≤ length b)) × (l.names ≤ 512)
  unfolding layout_of
  names-asked = rw e ((Q.names-fit, omega (arith, Q.long)), Q.names-few)

  pub entire-at : {s s₁ s₂ s₃ : Scopes} {public public₁ : List ℕ} → Published b l.publics_at l.publics 0 s public s₁ public₁
      → DefinitionsWalk b l.nodes_at l.nodes l.definitions_at l.definitions 0 s₁ s₂
      → ExpressionsWalk b l.nodes_at l.nodes l.expressions_at l.expressions 0 s₂ s₃ → s.next ≡ 9
      → Holds s.locals [] → Holds s.globals (registered (rows l.names 0 (name_of b l.text_at))).globals
      → length s₃.ids ≡ length s.ids → length public₁ ≡ length public → NumberedIn b s.ids public s₃.next s₃.ids public₁
  unfolding layout_of
  entire-at = rw e (λ p d x q hl hg li lp. entire b Q p d x q hl hg li lp)

-- a refused record
pub refused-is : (t : Read) {r : Refusal} → Err r ≡ checked t → t ≡ Read.refused r
unfolding checked
refused-is (Read.module-of m) e = let z : ◌≡◌ {A = ℕ} 0 1 = cc in absurd (omega arith)
refused-is (Read.refused s) {r} e = let z : r ≡ s = cc in ap Read.refused (sym z)
