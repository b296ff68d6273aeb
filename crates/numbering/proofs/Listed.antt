-- The ways of the walks over a module's definitions and expressions. Assumes nothing.
use Prim.Native.Nat.{ℕ, suc, ◌+◌, ◌-◌, ◌≤◌, ◌<◌}
use mathlib.Core.Path.{◌≡◌, refl, sym, ap, ◌∙◌}
use mathlib.Core.List.{List, [], ◌∷◌}
use mathlib.Core.Bool.{Bool, true}
use native.Mathlib.Numerals.{add-one}
use native.Mathlib.Omega.{arith}
use Rattle.marks.specs.Indices.{rows, same}
use Rattle.source.specs.Nodes.{is_expression, is_pattern, pattern_fits, definitions_fit, expressions_fit}
use Rattle.source.specs.Record.{definition_at, expression_at}
use Rattle.source.specs.Layout.{definition_entry, expression_root}
use Rattle.numbering.specs.Numbering.{Ids, Names, Naming, ◌>>=◌, return, number_def_variables, number_definitions, number_expressions}
use Rattle.numbering.specs.Numbers.{numbered_definition, numbered_expression}
use Rattle.numbering.specs.Walks.{names, depth, weight, each, Ready, ReadyTwo, ReadyDefinitions}
use Rattle.arrayvec.specs.ArrayVec.{ArrayVec, array_vec_len}
use Rattle.numbering.specs.declared.rows.Scopes.{Scopes}
use Rattle.numbering.specs.declared.rows.Undo.{Undo}
use Rattle.numbering.specs.Walks.{ReadyExpressions, Defined, sum_from, definitions_weight, expressions_weight}
use Rattle.numbering.specs.Walks.{PatternWalk, ExpressionWalk, DefinitionWalk, DefinitionsWalk, ExpressionsWalk}
use Rattle.marks.proofs.Indices.{every-at, and_left, and_right}
use Rattle.numbering.proofs.Children.{pattern-item, expression-item}
use Rattle.numbering.proofs.Held.{held-same}
use Rattle.numbering.proofs.Scopes.{Weight, Parts, room-first, room-second, both-else, earlier, later, walked_none, walked-two}

-- ---- lists from an index on

pub sum_step : (n i : ℕ) (f : ℕ → ℕ) → i < n → sum_from (n - i) i f ≡ f i + sum_from (n - (i + 1)) (i + 1) f
unfolding sum_from
sum_step n i f l =
    let e : n - i ≡ suc (n - (i + 1)) = omega arith in
    ap (λ (m : ℕ). sum_from m i f) e ∙ ap (λ (j : ℕ). f i + sum_from (n - (i + 1)) j f) (sym (add-one i))

pub rows_step : {A : Type 0} (n i : ℕ) (f : ℕ → A) → i < n → rows (n - i) i f ≡ f i ∷ rows (n - (i + 1)) (i + 1) f
unfolding rows
rows_step n i f l =
    let e : n - i ≡ suc (n - (i + 1)) = omega arith in
    ap (λ (m : ℕ). rows m i f) e ∙ ap (λ (j : ℕ). f i ∷ rows (n - (i + 1)) j f) (sym (add-one i))

pub rows_none : {A : Type 0} (n i : ℕ) (f : ℕ → A) → n ≤ i → rows (n - i) i f ≡ []
unfolding rows
rows_none n i f l = let e : n - i ≡ 0 = omega arith in ap (λ (m : ℕ). rows m i f) e

-- ---- one definition
module _ {b : List ℕ} {at n p v : ℕ} {s : Scopes} (R : ReadyTwo b at n is_pattern p v s) where
  def-parts : Parts (λ own. weight b at own p + weight b at own v) (λ own. weight b at own v) (λ own. weight b at own p)
  def-parts = record { hold = λ own. omega arith }

  pub def-way : {s₁ s₂ : Scopes} (undo : ArrayVec Undo) → array_vec_len undo ≡ depth s → ExpressionWalk b at n v s s₁ → PatternWalk b at n p s₁ s₂
      → DefinitionWalk b at n p v s (record s₂ { undo = undo })
  unfolding number_def_variables ◌>>=◌ return
  def-way {s₁} {s₂} undo e u w = record {
    more = omega (arith, u.more, w.more);
    few = omega (arith, u.few, w.few);
    same_top = e;
    elsewhere = both-else s.ids s₁.ids s₂.ids def-parts u.elsewhere w.elsewhere;
    unnamed = λ j z. w.unnamed j z ∙ u.unnamed j z;
    numbers = λ l g final h k q₀ a.
        let q = u.numbers l g final h k q₀ (earlier s₁.ids s₂.ids final def-parts R.room.met-once w.elsewhere a) in
        let z =
        w.numbers l (names q.0 s₁.next) final (held-same l u.same_locals h) refl (later s₂.ids final def-parts a) in
        (z.0, (q.0, (rw (q.1.0, z.1.0), (z.1.1, held-same q.0 w.same_globals q.1.1))));
  }

-- one, then others
pub defined-two : {A B C : Type 0} {named : ℕ → Bool} {w u v : Weight} {f : Ids → Naming (A × Ids)} {one : List ℕ → A} {g : Ids → Naming (B × Ids)}
    {two : List ℕ → B} {s s₁ s₂ : Scopes} (both : Ids → Naming (C × Ids)) (value : List ℕ → C) (make : A → B → C)
    → Parts w u v → ((j : ℕ) → w (same j) ≤ 1)
    → ((l : Ids) (h : Names) (a : A) (l₁ : Ids) (h₁ : Names) (b : B) (l₂ : Ids) (h₂ : Names) → f l h ≡ ((a, l₁), h₁)
    → g l₁ h₁ ≡ ((b, l₂), h₂) → both l h ≡ ((make a b, l₂), h₂)) → ((t : List ℕ) → value t ≡ make (one t) (two t))
    → Defined named u f one s s₁ → Defined named v g two s₁ s₂ → Defined named w both value s s₂
defined-two {s = s} {s₁ = s₁} {s₂ = s₂} both value make p once is val r q = record {
  more = omega (arith, r.more, q.more);
  few = omega (arith, p.hold each, r.few, q.few);
  same_top = q.same_top ∙ r.same_top;
  elsewhere = both-else s.ids s₁.ids s₂.ids p r.elsewhere q.elsewhere;
  unnamed = λ j z. q.unnamed j z ∙ r.unnamed j z;
  numbers = λ l g final h k e a.
      let y = r.numbers l g final h k e (earlier s₁.ids s₂.ids final p once q.elsewhere a) in
      let z = q.numbers y.0 (names y.1.0 s₁.next) final y.1.1.1.0 y.1.1.1.1 refl (later s₂.ids final p a) in
      (z.0, (z.1.0, (rw (val final) (is l g _ _ _ _ _ _ y.1.1.0 z.1.1.0), z.1.1.1)));
}

pub defined-none : {A : Type 0} {named : ℕ → Bool} {w : Weight} {f : Ids → Naming (A × Ids)} {value : List ℕ → A} {s : Scopes}
    → ((l : Ids) (g : Names) (final : List ℕ) → f l g ≡ ((value final, l), g)) → Defined named w f value s s
defined-none is = record {
  more = omega arith;
  few = omega arith;
  same_top = refl;
  elsewhere = λ j l. refl;
  unnamed = λ j l. refl;
  numbers = λ l g final h k e a. (l, (g.globals, (rw (← e) (is l g final), (h, k))));
}

-- ---- all definitions
module _ (b : List ℕ) (at n list count : ℕ) where
  -- the weight of definition k
  abbrev entry_weight : (ℕ → ℕ) → ℕ → ℕ
  entry_weight own k = weight b at own (definition_entry b list k).pattern + weight b at own (definition_entry b list k).value

  step-parts : (i : ℕ) → i < count →
      Parts (definitions_weight b at list (count - i) i) (λ own. entry_weight own i) (definitions_weight b at list (count - (i + 1)) (i + 1))
  step-parts i l = record { hold = λ own. omega (arith, sum_step count i (entry_weight own) l) }

  pub definitions-first : (i : ℕ) {p v : ℕ} (s : Scopes) → p ≡ (definition_entry b list i).pattern → v ≡ (definition_entry b list i).value →
      definitions_fit b at n list count ≡ true → i < count → ReadyDefinitions b at n list (count - i) i s.next (depth s) → ReadyTwo b at n is_pattern p v s
  unfolding definitions_fit
  definitions-first i s ep ev f l R =
      let w = every-at count i _ f l in
      let x = pattern-item b at n R.walk n (definition_entry b list i).pattern (and_left _ _ w) in
      let y = expression-item b at n R.walk n (definition_entry b list i).value (and_right (pattern_fits b at n (definition_entry b list i).pattern) _ w) in
      rw (ep, ev) (record {
        walk = R.walk;
        first_below = x.0;
        second_below = y.0;
        first-sorted = x.1;
        second-sorted = y.1;
        room = room-first (step-parts i l) R.room;
      })

  pub definitions-rest : (i : ℕ) {p v : ℕ} {s s₁ : Scopes} → p ≡ (definition_entry b list i).pattern → v ≡ (definition_entry b list i).value → i < count →
      ReadyDefinitions b at n list (count - i) i s.next (depth s) → DefinitionWalk b at n p v s s₁ →
      ReadyDefinitions b at n list (count - (i + 1)) (i + 1) s₁.next (depth s₁)
  definitions-rest i {s = s} {s₁ = s₁} ep ev l R u = record { walk = R.walk; room = room-second (step-parts i l) R.room (rw (ep, ev) at u.few) u.same_top }

  pub definitions-step : (i : ℕ) {p v : ℕ} {s s₁ s₂ : Scopes} → p ≡ (definition_entry b list i).pattern → v ≡ (definition_entry b list i).value →
      i < count → ReadyDefinitions b at n list (count - i) i s.next (depth s) → DefinitionWalk b at n p v s s₁ →
      DefinitionsWalk b at n list (count - (i + 1)) (i + 1) s₁ s₂ → DefinitionsWalk b at n list (count - i) i s s₂
  unfolding number_definitions ◌>>=◌ return definition_at numbered_definition
  definitions-step i {s = s} {s₁ = s₁} ep ev l R u w =
      let d = definition_entry b list i in
      let r : DefinitionWalk b at n d.pattern d.value s s₁ = rw (ep, ev) at u in
      defined-two _ _ (λ d ds. d ∷ ds) (step-parts i l) R.room.met-once
      (λ m g a m₁ g₁ c m₂ g₂ q t. rw (rows_step count i (definition_at b at n list) l, q, t))
      (λ t. rows_step count i (numbered_definition t b at n list) l)
      r w

  pub definitions-end : (i : ℕ) {s : Scopes} → count ≤ i → DefinitionsWalk b at n list (count - i) i s s
  unfolding number_definitions return
  definitions-end i l =
      defined-none (λ t g final. rw (rows_none count i (definition_at b at n list) l, rows_none count i (numbered_definition final b at n list) l))

  -- the loop starts with all
  pub definitions-start : {s s₂ : Scopes} → DefinitionsWalk b at n list (count - 0) 0 s s₂ → DefinitionsWalk b at n list count 0 s s₂
  definitions-start w = let e : count - 0 ≡ count = omega arith in rw e at w

  pub definitions-all : {next top : ℕ} → ReadyDefinitions b at n list count 0 next top → ReadyDefinitions b at n list (count - 0) 0 next top
  definitions-all w = let e : count - 0 ≡ count = omega arith in rw e w

  -- ---- all expressions
  turn-parts : (i : ℕ) → i < count →
      Parts (expressions_weight b at list (count - i) i) (λ own. weight b at own (expression_root b list i))
      (expressions_weight b at list (count - (i + 1)) (i + 1))
  turn-parts i l = record { hold = λ own. omega (arith, sum_step count i (λ k. weight b at own (expression_root b list k)) l) }

  pub expressions-first : (i : ℕ) {e : ℕ} (s : Scopes) → e ≡ expression_root b list i → expressions_fit b at n list count ≡ true → i < count →
      ReadyExpressions b at n list (count - i) i s.next (depth s) → Ready b at n is_expression e s
  unfolding expressions_fit
  expressions-first i s ee f l R =
      let x = expression-item b at n R.walk n (expression_root b list i) (every-at count i _ f l) in
      rw ee (record { walk = R.walk; below = x.0; sorted = x.1; room = room-first (turn-parts i l) R.room })

  pub expressions-rest : (i : ℕ) {e : ℕ} {s s₁ : Scopes} → e ≡ expression_root b list i → i < count →
      ReadyExpressions b at n list (count - i) i s.next (depth s) → ExpressionWalk b at n e s s₁ →
      ReadyExpressions b at n list (count - (i + 1)) (i + 1) s₁.next (depth s₁)
  expressions-rest i {s = s} {s₁ = s₁} ee l R u = record { walk = R.walk; room = room-second (turn-parts i l) R.room (rw ee at u.few) u.same_top }

  pub expressions-step : (i : ℕ) {e : ℕ} {s s₁ s₂ : Scopes} → e ≡ expression_root b list i →
      i < count → ReadyExpressions b at n list (count - i) i s.next (depth s) → ExpressionWalk b at n e s s₁ →
      ExpressionsWalk b at n list (count - (i + 1)) (i + 1) s₁ s₂ → ExpressionsWalk b at n list (count - i) i s s₂
  unfolding number_expressions ◌>>=◌ return expression_at numbered_expression
  expressions-step i {s = s} {s₁ = s₁} ee l R u w =
      let r : ExpressionWalk b at n (expression_root b list i) s s₁ = rw ee at u in
      walked-two _ _ (λ d ds. d ∷ ds) (turn-parts i l) R.room
      (λ m g a g₁ c g₂ q t. rw (rows_step count i (expression_at b at n list) l, q, t))
      (λ t. rows_step count i (numbered_expression t b at n list) l)
      r w

  pub expressions-end : (i : ℕ) {s : Scopes} → count ≤ i → ExpressionsWalk b at n list (count - i) i s s
  unfolding number_expressions return
  expressions-end i l =
      walked_none (λ t g final. rw (rows_none count i (expression_at b at n list) l, rows_none count i (numbered_expression final b at n list) l))

  pub expressions-start : {s s₂ : Scopes} → ExpressionsWalk b at n list (count - 0) 0 s s₂ → ExpressionsWalk b at n list count 0 s s₂
  expressions-start w = let e : count - 0 ≡ count = omega arith in rw e at w

  pub expressions-all : {next top : ℕ} → ReadyExpressions b at n list count 0 next top → ReadyExpressions b at n list (count - 0) 0 next top
  expressions-all w = let e : count - 0 ≡ count = omega arith in rw e w
