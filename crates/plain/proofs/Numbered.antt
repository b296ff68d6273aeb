-- Numbering of a plain module: it stays plain, its ids are in scope and rise, and it means the same, by ids instead of names.
use mathlib.Core.Path.{◌≡◌, refl, sym, ap, ap₂, fun_ext, ◌∙◌}
use mathlib.Core.Bool.{Bool, true, false, cond, ◌&&◌, ◌||◌}
use mathlib.Core.List.{List, [], ◌∷◌, ◌++◌}
use mathlib.Core.Option.{Option, none, some}
use Prim.Native.Nat.{ℕ, suc, ◌<◌}
use native.Mathlib.Nat.{le_refl}
use native.Mathlib.Omega.{arith}
use lib.IntN.{ℤ}
use lib.Dec.{eqb}
use borrow.Author.Tests.{eqb-true, eqb-false}
use Rattle.field.specs.Operations.{Answer}
use Rattle.std.specs.Prelude.{Some}
use Rattle.field.specs.declared.InfixOp.{InfixOp}
use Rattle.field.specs.declared.InfixOp.TheVariants.{Divide, DivideZ, Multiply, Add, Subtract, Equal, Exponentiate, IntDivide, Modulo}
use Rattle.source.specs.Trees.{Pat, unit_p, nil_p, as_p, product_p, cons_p, variable_p, constant_p, Expr, unit, nil, sequence, product}
use Rattle.source.specs.Trees.{cons, binary, negate, application, constant, variable, function, intrinsic, letting, matching}
use Rattle.flat.specs.Meaning.{on_values, negated}
use Rattle.numbering.specs.Numbering.{Ids, found, Names, ◌>>=◌, return, generate_id, chosen, number_variable, number_pattern_variables}
use Rattle.numbering.specs.Numbering.{number_expr_variables, number_def_variables, number_definitions, number_expressions}
use Rattle.numbering.specs.Inputs.{member, binding, free_variables, free_in_definitions, defining, free_in_expressions}
use Rattle.numbering.specs.Statements.{pattern_ids, binders, definition_binders, expression_binders, All, Pointwise}
use Rattle.numbering.proofs.Lists.{all_append, all_split, Rises}
use Rattle.numbering.proofs.Names.{entry_case, Well}
use Rattle.numbering.proofs.Facts.{has, Scope, scope-up, pattern-step, expr-step}
use Rattle.plain.specs.Plain.{is_arithmetic, is_free, is_plain_name, is_plain_pattern, is_plain_expr}
use Rattle.plain.specs.Plain.{is_equal, is_plain_equation, are_plain_definitions, are_plain_equations}
use Rattle.plain.specs.Meaning.{Table, write, through, value_of, sides_of, sides, DefinitionsValued, EquationsValued}
use Rattle.plain.specs.Meaning
use Rattle.plain.proofs.Values.{false-true, writing, update_same, update_other}
use Rattle.plain.proofs.Terms.{Scoped, s_constant, s_bound, s_free, s_negate, s_binary, s_let}
use Rattle.plain.proofs.Modules.{ScopedDefinitions, no_definition, definition, ScopedEquations, no_equation, equation}
use Rattle.plain.proofs.Order.{Spans, spans_constant, spans_variable, spans_negate, spans_binary, spans_let}
use Rattle.plain.proofs.OrderModules.{SpansDefinitions, spans_none, spans_definition, SpansEquations, spans_end, spans_equation}

-- the plain forms; W holds of every variable
pub data Plainly (W : ℕ → Type 0) : Expr → Type 0 where
  p_constant : {n : ℤ} → Plainly W (constant n)
  p_variable : {x : ℕ} → W x → Plainly W (variable x)
  p_negate : {a : Expr} → Plainly W a → Plainly W (negate a)
  p_binary : {o : InfixOp} {a b : Expr} → is_arithmetic o ≡ true → Plainly W a → Plainly W b → Plainly W (binary o a b)
  p_let : {x : ℕ} {v b : Expr} → Plainly W v → Plainly W b → Plainly W (letting (variable_p x) v b)

pub data PlainDefinitions (W : ℕ → Type 0) : List (Pat × Expr) → Type 0 where
  p_none : PlainDefinitions W []
  p_definition : {x : ℕ} {v : Expr} {ds : List (Pat × Expr)} → Plainly W v → PlainDefinitions W ds → PlainDefinitions W ((variable_p x, v) ∷ ds)

pub data PlainEquations (W : ℕ → Type 0) : List Expr → Type 0 where
  p_end : PlainEquations W []
  p_equation : {a b : Expr} {es : List Expr} → Plainly W a → Plainly W b → PlainEquations W es → PlainEquations W (binary Equal a b ∷ es)

-- what the tests say
pub both_true : (a b : Bool) → (a && b) ≡ true → (a ≡ true) × (b ≡ true)
both_true true b h = (refl, h)
both_true false b h = absurd (false-true h)

module _ (R : Ids) where
  abbrev pub Named : ℕ → Type 0
  Named x = found x R ≡ none

  free-name : (o : Option ℕ) → is_free o ≡ true → o ≡ none
  unfolding is_free
  free-name none h = refl
  free-name (some i) h = absurd (false-true h)

  pub plain-expr : (e : Expr) → is_plain_expr R e ≡ true → Plainly Named e
  unfolding is_plain_expr is_plain_name is_plain_pattern
  plain-expr (constant n) h = p_constant
  plain-expr (variable x) h = p_variable (free-name (found x R) h)
  plain-expr (negate a) h = p_negate (plain-expr a h)
  plain-expr (binary o a b) h =
      let k = both_true (is_arithmetic o) _ h in
      let l = both_true (is_plain_expr R a) (is_plain_expr R b) k.1 in
      p_binary k.0 (plain-expr a l.0) (plain-expr b l.1)
  plain-expr (letting (variable_p x) v b) h =
      let l = both_true (is_plain_expr R v) (is_plain_expr R b) (both_true (is_plain_pattern R (variable_p x)) _ h).1 in
      p_let (plain-expr v l.0) (plain-expr b l.1)
  plain-expr (letting unit_p v b) h = absurd (false-true h)
  plain-expr (letting nil_p v b) h = absurd (false-true h)
  plain-expr (letting (as_p p x) v b) h = absurd (false-true h)
  plain-expr (letting (product_p p q) v b) h = absurd (false-true h)
  plain-expr (letting (cons_p p q) v b) h = absurd (false-true h)
  plain-expr (letting (constant_p n) v b) h = absurd (false-true h)
  plain-expr unit h = absurd (false-true h)
  plain-expr nil h = absurd (false-true h)
  plain-expr (sequence is) h = absurd (false-true h)
  plain-expr (product a b) h = absurd (false-true h)
  plain-expr (cons a b) h = absurd (false-true h)
  plain-expr (application a b) h = absurd (false-true h)
  plain-expr (function ps b env) h = absurd (false-true h)
  plain-expr (intrinsic w k ps env) h = absurd (false-true h)
  plain-expr (matching v arms) h = absurd (false-true h)

  plain-definition : (p : Pat) (v : Expr) (ds : List (Pat × Expr)) → is_plain_pattern R p ≡ true → Plainly Named v → PlainDefinitions Named ds
      → PlainDefinitions Named ((p, v) ∷ ds)
  unfolding is_plain_pattern
  plain-definition (variable_p x) v ds h p q = p_definition p q
  plain-definition unit_p v ds h p q = absurd (false-true h)
  plain-definition nil_p v ds h p q = absurd (false-true h)
  plain-definition (as_p p' x) v ds h p q = absurd (false-true h)
  plain-definition (product_p p' q') v ds h p q = absurd (false-true h)
  plain-definition (cons_p p' q') v ds h p q = absurd (false-true h)
  plain-definition (constant_p n) v ds h p q = absurd (false-true h)

  pub plain-definitions : (ds : List (Pat × Expr)) → are_plain_definitions R ds ≡ true → PlainDefinitions Named ds
  unfolding are_plain_definitions
  plain-definitions [] h = p_none
  plain-definitions (d ∷ ds) h =
      let k = both_true (is_plain_pattern R d.0) _ h in
      let l = both_true (is_plain_expr R d.1) (are_plain_definitions R ds) k.1 in
      plain-definition d.0 d.1 ds k.0 (plain-expr d.1 l.0) (plain-definitions ds l.1)

  plain-equation : (o : InfixOp) (a b : Expr) (es : List Expr) → is_equal o ≡ true → Plainly Named a → Plainly Named b → PlainEquations Named es
      → PlainEquations Named (binary o a b ∷ es)
  unfolding is_equal
  plain-equation Equal a b es h p q r = p_equation p q r
  plain-equation Divide a b es h p q r = absurd (false-true h)
  plain-equation DivideZ a b es h p q r = absurd (false-true h)
  plain-equation Multiply a b es h p q r = absurd (false-true h)
  plain-equation Add a b es h p q r = absurd (false-true h)
  plain-equation Subtract a b es h p q r = absurd (false-true h)
  plain-equation Exponentiate a b es h p q r = absurd (false-true h)
  plain-equation IntDivide a b es h p q r = absurd (false-true h)
  plain-equation Modulo a b es h p q r = absurd (false-true h)

  plain-item : (e : Expr) (es : List Expr) → is_plain_equation R e ≡ true → PlainEquations Named es → PlainEquations Named (e ∷ es)
  unfolding is_plain_equation
  plain-item (binary o a b) es h r =
      let k = both_true (is_equal o) _ h in
      let l = both_true (is_plain_expr R a) (is_plain_expr R b) k.1 in
      plain-equation o a b es k.0 (plain-expr a l.0) (plain-expr b l.1) r
  plain-item unit es h r = absurd (false-true h)
  plain-item nil es h r = absurd (false-true h)
  plain-item (sequence is) es h r = absurd (false-true h)
  plain-item (product a b) es h r = absurd (false-true h)
  plain-item (cons a b) es h r = absurd (false-true h)
  plain-item (negate a) es h r = absurd (false-true h)
  plain-item (application a b) es h r = absurd (false-true h)
  plain-item (constant n) es h r = absurd (false-true h)
  plain-item (variable x) es h r = absurd (false-true h)
  plain-item (function ps b env) es h r = absurd (false-true h)
  plain-item (intrinsic w k ps env) es h r = absurd (false-true h)
  plain-item (letting p v b) es h r = absurd (false-true h)
  plain-item (matching v arms) es h r = absurd (false-true h)

  pub plain-equations : (es : List Expr) → are_plain_equations R es ≡ true → PlainEquations Named es
  unfolding are_plain_equations
  plain-equations [] h = p_end
  plain-equations (e ∷ es) h =
      let k = both_true (is_plain_equation R e) (are_plain_equations R es) h in
      plain-item e es k.0 (plain-equations es k.1)

-- lists taken apart
pub rises-split : (lo : ℕ) (xs ys : List ℕ) (hi : ℕ) → Rises lo (xs ++ ys) hi → (mid : ℕ) × Rises lo xs mid × Rises mid ys hi
rises-split lo [] ys hi h = (lo, le_refl lo, h)
rises-split lo (x ∷ xs) ys hi h = let k = rises-split (suc x) xs ys hi h.1 in (k.0, (h.0, k.1), k.2)

pub pointwise-split : (R S : ℕ → ℕ → Type 0) (xs us ys vs : List ℕ) → Pointwise S xs ys → Pointwise R (xs ++ us) (ys ++ vs)
    → Pointwise R xs ys × Pointwise R us vs
pointwise-split R S [] us [] vs a h = (tt, h)
pointwise-split R S [] us (y ∷ ys) vs a h = absurd a
pointwise-split R S (x ∷ xs) us [] vs a h = absurd a
pointwise-split R S (x ∷ xs) us (y ∷ ys) vs a h = let k = pointwise-split R S xs us ys vs a.1 h.1 in ((h.0, k.0), k.1)

-- the free variables of a plain expression are such variables
free_one : (W : ℕ → Type 0) (x : ℕ) (c : Bool) → W x → All W (cond c [] (x ∷ []))
free_one W x true v = tt
free_one W x false v = (v, tt)

free-named : {W : ℕ → Type 0} {e : Expr} (Γ : List ℕ) → Plainly W e → All W (free_variables Γ e)
unfolding free_variables binding
free-named Γ p_constant = tt
free-named {W} Γ (p_variable {x = x} v) = free_one W x (member x Γ) v
free-named Γ (p_negate p) = free-named Γ p
free-named {W} Γ (p_binary {a = a} {b = b} h p q) = all_append W (free_variables Γ a) (free_variables Γ b) (free-named Γ p) (free-named Γ q)
free-named {W} Γ (p_let {x = x} {v = v} {b = b} p q) = all_append W (free_variables Γ v) (free_variables (x ∷ Γ) b) (free-named Γ p) (free-named (x ∷ Γ) q)

pub free-definitions : {W : ℕ → Type 0} {ds : List (Pat × Expr)} (Γ : List ℕ) → PlainDefinitions W ds → All W (free_in_definitions Γ ds)
unfolding free_in_definitions binding
free-definitions Γ p_none = tt
free-definitions {W} Γ (p_definition {x = x} {v = v} {ds = ds} p more) =
    all_append W (free_variables Γ v) (free_in_definitions (x ∷ Γ) ds) (free-named Γ p) (free-definitions (x ∷ Γ) more)

pub free-equations : {W : ℕ → Type 0} {es : List Expr} (Γ : List ℕ) → PlainEquations W es → All W (free_in_expressions Γ es)
unfolding free_in_expressions free_variables
free-equations Γ p_end = tt
free-equations {W} Γ (p_equation {a = a} {b = b} {es = es} p q more) =
    all_append W (free_variables Γ a ++ free_variables Γ b) (free_in_expressions Γ es)
    (all_append W (free_variables Γ a) (free_variables Γ b) (free-named Γ p) (free-named Γ q)) (free-equations Γ more)

-- numbering keeps the forms
abbrev pub Any : ℕ → Type 0
Any x = Unit {0}

numbered-expr : {W : ℕ → Type 0} {e : Expr} → Plainly W e → (locals : Ids) (g : Names) → Plainly Any (number_expr_variables e locals g).0
unfolding number_expr_variables number_pattern_variables generate_id ◌>>=◌ return
numbered-expr p_constant locals g = p_constant
numbered-expr (p_variable v) locals g = p_variable tt
numbered-expr (p_negate p) locals g = p_negate (numbered-expr p locals g)
numbered-expr (p_binary h p q) locals g = p_binary h (numbered-expr p locals g) (numbered-expr q locals _)
numbered-expr (p_let p q) locals g = p_let (numbered-expr p locals g) (numbered-expr q _ _)

pub numbered-definitions : {W : ℕ → Type 0} {ds : List (Pat × Expr)} → PlainDefinitions W ds → (locals : Ids) (g : Names)
    → PlainDefinitions Any (number_definitions ds locals g).0.0
unfolding number_definitions number_def_variables number_pattern_variables generate_id ◌>>=◌ return
numbered-definitions p_none locals g = p_none
numbered-definitions (p_definition p more) locals g = p_definition (numbered-expr p locals g) (numbered-definitions more _ _)

pub numbered-equations : {W : ℕ → Type 0} {es : List Expr} → PlainEquations W es → (locals : Ids) (g : Names)
    → PlainEquations Any (number_expressions es locals g).0
unfolding number_expressions number_expr_variables ◌>>=◌ return
numbered-equations p_end locals g = p_end
numbered-equations (p_equation p q more) locals g = p_equation (numbered-expr p locals g) (numbered-expr q locals _) (numbered-equations more locals _)

-- scopes: free variables are inputs, binders are binders
module _ (B : ℕ → Bool) (k : ℕ) (I : ℕ → Type 0) (inputs : (i : ℕ) → I i → (B i ≡ false) × (i < k)) where
  abbrev Bound : ℕ → Type 0
  Bound i = B i ≡ true

  variable-scoped : (Γ : List ℕ) (x : ℕ) (c : Bool) → member x Γ ≡ c → All I (cond c [] (x ∷ [])) → Scoped B k Γ (variable x)
  variable-scoped Γ x true e h = s_bound e
  variable-scoped Γ x false e h = let w = inputs x h.0 in s_free w.0 w.1

  expr-scoped : {e : Expr} (Γ : List ℕ) → Plainly Any e → All I (free_variables Γ e) → All Bound (binders e) → Scoped B k Γ e
  unfolding free_variables binders binding pattern_ids
  expr-scoped Γ p_constant f b = s_constant
  expr-scoped Γ (p_variable {x = x} v) f b = variable-scoped Γ x (member x Γ) refl f
  expr-scoped Γ (p_negate p) f b = s_negate (expr-scoped Γ p f b)
  expr-scoped Γ (p_binary {a = c} {b = d} h p q) f b =
      let u = all_split I (free_variables Γ c) (free_variables Γ d) f in
      let w = all_split Bound (binders c) (binders d) b in
      s_binary h (expr-scoped Γ p u.0 w.0) (expr-scoped Γ q u.1 w.1)
  expr-scoped Γ (p_let {x = x} {v = c} {b = d} p q) f b =
      let u = all_split I (free_variables Γ c) (free_variables (x ∷ Γ) d) f in
      let w = all_split Bound (binders c) (x ∷ binders d) b in
      s_let w.1.0 (expr-scoped Γ p u.0 w.0) (expr-scoped (x ∷ Γ) q u.1 w.1.1)

  pub definitions-scoped : {ds : List (Pat × Expr)} (Γ : List ℕ) → PlainDefinitions Any ds → All I (free_in_definitions Γ ds)
      → All Bound (definition_binders ds)
      → ScopedDefinitions B k Γ ds (defining ds Γ)
  unfolding free_in_definitions definition_binders defining binding pattern_ids
  definitions-scoped Γ p_none f b = no_definition
  definitions-scoped Γ (p_definition {x = x} {v = c} {ds = ds} p more) f b =
      let u = all_split I (free_variables Γ c) (free_in_definitions (x ∷ Γ) ds) f in
      let w = all_split Bound (binders c) (x ∷ definition_binders ds) b in
      definition w.1.0 (expr-scoped Γ p u.0 w.0) (definitions-scoped (x ∷ Γ) more u.1 w.1.1)

  pub equations-scoped : {es : List Expr} (Γ : List ℕ) → PlainEquations Any es → All I (free_in_expressions Γ es) → All Bound (expression_binders es)
      → ScopedEquations B k Γ es
  unfolding free_in_expressions expression_binders free_variables binders
  equations-scoped Γ p_end f b = no_equation
  equations-scoped Γ (p_equation {a = c} {b = d} {es = es} p q more) f b =
      let u = all_split I (free_variables Γ c ++ free_variables Γ d) (free_in_expressions Γ es) f in
      let w = all_split Bound (binders c ++ binders d) (expression_binders es) b in
      let u' = all_split I (free_variables Γ c) (free_variables Γ d) u.0 in
      let w' = all_split Bound (binders c) (binders d) w.0 in
      equation (expr-scoped Γ p u'.0 w'.0) (expr-scoped Γ q u'.1 w'.1) (equations-scoped Γ more u.1 w.1)

-- binders rise
expr-spans : {e : Expr} (lo hi : ℕ) → Plainly Any e → Rises lo (binders e) hi → Spans lo e hi
unfolding binders pattern_ids
expr-spans lo hi p_constant r = spans_constant r
expr-spans lo hi (p_variable v) r = spans_variable r
expr-spans lo hi (p_negate p) r = spans_negate (expr-spans lo hi p r)
expr-spans lo hi (p_binary {a = c} {b = d} h p q) r =
    let w = rises-split lo (binders c) (binders d) hi r in
    spans_binary (expr-spans lo w.0 p w.1) (expr-spans w.0 hi q w.2)
expr-spans lo hi (p_let {x = x} {v = c} {b = d} p q) r =
    let w = rises-split lo (binders c) (x ∷ binders d) hi r in
    spans_let (expr-spans lo w.0 p w.1) w.2.0 (expr-spans (suc x) hi q w.2.1)

pub definitions-spans : {ds : List (Pat × Expr)} (lo hi : ℕ) → PlainDefinitions Any ds → Rises lo (definition_binders ds) hi → SpansDefinitions lo ds hi
unfolding definition_binders pattern_ids
definitions-spans lo hi p_none r = spans_none r
definitions-spans lo hi (p_definition {x = x} {v = c} {ds = ds} p more) r =
    let w = rises-split lo (binders c) (x ∷ definition_binders ds) hi r in
    spans_definition (expr-spans lo w.0 p w.1) w.2.0 (definitions-spans (suc x) hi more w.2.1)

pub equations-spans : {es : List Expr} (lo hi : ℕ) → PlainEquations Any es → Rises lo (expression_binders es) hi → SpansEquations lo es hi
unfolding expression_binders binders
equations-spans lo hi p_end r = spans_end r
equations-spans lo hi (p_equation {a = c} {b = d} {es = es} p q more) r =
    let w = rises-split lo (binders c ++ binders d) (expression_binders es) hi r in
    let w' = rises-split lo (binders c) (binders d) w.0 w.1 in
    spans_equation (expr-spans lo w'.0 p w'.1) (expr-spans w'.0 w.0 q w'.2) (equations-spans w.0 hi more w.2)

-- the tables T by names and τ by ids, which started as T₀ and τ₀: they agree on what is bound, and are as they were on what is not
pub record Means (Γ Δ : List ℕ) (locals : Ids) (T τ T₀ τ₀ : Table) : Type 0 where
  pub local : (x i : ℕ) → found x locals ≡ some i → τ i ≡ T x
  pub names : (x : ℕ) → member x Γ ≡ false → T x ≡ T₀ x
  pub ids : (i : ℕ) → member i Δ ≡ false → τ i ≡ τ₀ i

-- one name joins
module _ {Γ Δ : List ℕ} {locals : Ids} {g : Names} {T τ T₀ τ₀ : Table} (x : ℕ) (v w : Answer) (same : v ≡ w) (s : Scope Γ Δ locals g)
    (m : Means Γ Δ locals T τ T₀ τ₀) where
  unbound : (y z : ℕ) (l : List ℕ) (t t₀ : Table) (o : Answer) → (member y l ≡ false → t y ≡ t₀ y) → member y (z ∷ l) ≡ false → writing z o t y ≡ t₀ y
  unfolding member
  unbound y z l t t₀ o f h = go (eqb y z) refl h
    where
      go : (c : Bool) → eqb y z ≡ c → (c || member y l) ≡ false → writing z o t y ≡ t₀ y
      go true e h = absurd (false-true (sym h))
      go false e h = update_other t z o y (eqb-false y z e) ∙ f h

  means-join : Means (x ∷ Γ) (g.next ∷ Δ) ((x, g.next) ∷ locals) (writing x w T) (writing g.next v τ) T₀ τ₀
  unfolding found
  means-join = record {
    local = λ y i e. entry_case (eqb y x) _ _ i e
        (λ c q. ap (writing g.next v τ) (sym q) ∙ update_same τ g.next v ∙ same ∙ sym (ap (writing x w T) (eqb-true y x c) ∙ update_same T x w))
        (λ c q.
        update_other τ g.next v i (λ z. omega (arith, (s.bound i (s.here y i q)).0)) ∙ m.local y i q ∙ sym (update_other T x w y (eqb-false y x c)));
    names = λ y h. unbound y x Γ T T₀ w (m.names y) h;
    ids = λ i h. unbound i g.next Δ τ τ₀ v (m.ids i) h;
  }

abbrev pub Agreed : Table → Table → ℕ → ℕ → Type 0
Agreed T τ x i = τ i ≡ T x

-- a variable
variable-means : (x : ℕ) {Γ Δ : List ℕ} {locals : Ids} {g : Names} {T τ T₀ τ₀ : Table} → Scope Γ Δ locals g → Means Γ Δ locals T τ T₀ τ₀ → (o q : Option ℕ)
    → found x locals ≡ o → Pointwise (Agreed T₀ τ₀) (cond (member x Γ) [] (x ∷ [])) (cond (member (chosen x o q g).0 Δ) [] ((chosen x o q g).0 ∷ []))
    → τ (chosen x o q g).0 ≡ T x
unfolding chosen
variable-means x s m (some i) q e h = m.local x i e
variable-means x {Γ} {Δ} {locals} {g} {T} {τ} {T₀} {τ₀} s m none (some i) e h = go (member x Γ) (member i Δ) (s.names x ∙ ap has e) refl refl h
  where
    go : (c d : Bool) → member x Γ ≡ false → member x Γ ≡ c → member i Δ ≡ d → Pointwise (Agreed T₀ τ₀) (cond c [] (x ∷ [])) (cond d [] (i ∷ [])) → τ i ≡ T x
    go true d n p q h = absurd (false-true (sym n ∙ p))
    go false true n p q h = absurd h
    go false false n p q h = m.ids i q ∙ h.0 ∙ sym (m.names x n)
variable-means x {Γ} {Δ} {locals} {g} {T} {τ} {T₀} {τ₀} s m none none e h = go (member x Γ) (member g.next Δ) (s.names x ∙ ap has e) refl refl h
  where
    go : (c d : Bool) → member x Γ ≡ false → member x Γ ≡ c → member g.next Δ ≡ d
        → Pointwise (Agreed T₀ τ₀) (cond c [] (x ∷ [])) (cond d [] (g.next ∷ [])) → τ g.next ≡ T x
    go true d n p q h = absurd (false-true (sym n ∙ p))
    go false true n p q h = absurd h
    go false false n p q h = m.ids g.next q ∙ h.0 ∙ sym (m.names x n)

-- a value, by ids and by names
expr-means : {W : ℕ → Type 0} {e : Expr} → Plainly W e → (Γ Δ : List ℕ) (locals : Ids) (g : Names) (T τ T₀ τ₀ : Table) → Well g → Scope Γ Δ locals g
    → Means Γ Δ locals T τ T₀ τ₀ → Pointwise (Agreed T₀ τ₀) (free_variables Γ e) (free_variables Δ (number_expr_variables e locals g).0)
    → value_of τ (number_expr_variables e locals g).0 ≡ value_of T e
unfolding number_expr_variables number_variable number_pattern_variables generate_id ◌>>=◌ return free_variables binding value_of write
expr-means p_constant Γ Δ locals g T τ T₀ τ₀ w s m h = refl
expr-means (p_variable {x = x} v) Γ Δ locals g T τ T₀ τ₀ w s m h = variable-means x s m (found x locals) (found x g.globals) refl h
expr-means (p_negate p) Γ Δ locals g T τ T₀ τ₀ w s m h = ap negated (expr-means p Γ Δ locals g T τ T₀ τ₀ w s m h)
expr-means (p_binary {o = o} {a = a} {b = b} ar p q) Γ Δ locals g T τ T₀ τ₀ w s m h =
    let r = expr-step a Γ Δ locals g w s in
    let k = pointwise-split (Agreed T₀ τ₀) _ (free_variables Γ a) (free_variables Γ b) _ _ r.free h in
    ap₂ (on_values o) (expr-means p Γ Δ locals g T τ T₀ τ₀ w s m k.0)
    (expr-means q Γ Δ locals _ T τ T₀ τ₀ r.grown.well (scope-up r.grown.extends s) m k.1)
expr-means (p_let {x = x} {v = a} {b = b} p q) Γ Δ locals g T τ T₀ τ₀ w s m h =
    let r = expr-step a Γ Δ locals g w s in
    let s₁ = scope-up r.grown.extends s in
    let n = pattern-step (variable_p x) Γ Δ locals _ r.grown.well s₁ in
    let k = pointwise-split (Agreed T₀ τ₀) _ (free_variables Γ a) (free_variables (x ∷ Γ) b) _ _ r.free h in
    ap₂ through (expr-means p Γ Δ locals g T τ T₀ τ₀ w s m k.0)
    (fun_ext (λ z.
    expr-means q (x ∷ Γ) _ _ _ (writing x (Some z) T) _ T₀ τ₀ n.step.grown.well n.scope (means-join x (Some z) (Some z) refl s₁ m) k.1))

-- definitions, in order: they mean the same, and behind them the tables agree
pub record DefinitionsMean (ds : List (Pat × Expr)) (Γ Δ : List ℕ) (locals : Ids) (g : Names) (T τ T₀ τ₀ : Table) : Type 0 where
  pub means : Means (defining ds Γ) (defining (number_definitions ds locals g).0.0 Δ) (number_definitions ds locals g).0.1 (Meaning.defined T ds)
      (Meaning.defined τ (number_definitions ds locals g).0.0) T₀ τ₀
  pub valued : DefinitionsValued T ds → DefinitionsValued τ (number_definitions ds locals g).0.0

pub definitions-mean : {W : ℕ → Type 0} {ds : List (Pat × Expr)} → PlainDefinitions W ds
    → (Γ Δ : List ℕ) (locals : Ids) (g : Names) (T τ T₀ τ₀ : Table) → Well g → Scope Γ Δ locals g → Means Γ Δ locals T τ T₀ τ₀
    → Pointwise (Agreed T₀ τ₀) (free_in_definitions Γ ds) (free_in_definitions Δ (number_definitions ds locals g).0.0)
    → DefinitionsMean ds Γ Δ locals g T τ T₀ τ₀
unfolding number_definitions number_def_variables number_pattern_variables generate_id ◌>>=◌ return free_in_definitions defining binding Meaning.defined write
definitions-mean p_none Γ Δ locals g T τ T₀ τ₀ w s m h = record { means = m; valued = λ x. x }
definitions-mean (p_definition {x = x} {v = a} {ds = ds} p more) Γ Δ locals g T τ T₀ τ₀ w s m h =
    let r = expr-step a Γ Δ locals g w s in
    let s₁ = scope-up r.grown.extends s in
    let n = pattern-step (variable_p x) Γ Δ locals _ r.grown.well s₁ in
    let k = pointwise-split (Agreed T₀ τ₀) _ (free_variables Γ a) (free_in_definitions (x ∷ Γ) ds) _ _ r.free h in
    let same = expr-means p Γ Δ locals g T τ T₀ τ₀ w s m k.0 in
    let rest = definitions-mean more (x ∷ Γ) _ _ _ (writing x (value_of T a) T) _ T₀ τ₀ n.step.grown.well n.scope
    (means-join x (value_of τ (number_expr_variables a locals g).0) (value_of T a) same s₁ m) k.1 in
    record { means = rest.means; valued = λ q. ((q.0.0, (same ∙ q.0.1)), rest.valued q.1) }

pub record EquationsMean (es : List Expr) (locals : Ids) (g : Names) (T τ : Table) : Type 0 where
  pub means : sides τ (number_expressions es locals g).0 ≡ sides T es
  pub valued : EquationsValued T es → EquationsValued τ (number_expressions es locals g).0

pub equations-mean : {W : ℕ → Type 0} {es : List Expr} → PlainEquations W es
    → (Γ Δ : List ℕ) (locals : Ids) (g : Names) (T τ T₀ τ₀ : Table) → Well g → Scope Γ Δ locals g → Means Γ Δ locals T τ T₀ τ₀
    → Pointwise (Agreed T₀ τ₀) (free_in_expressions Γ es) (free_in_expressions Δ (number_expressions es locals g).0) → EquationsMean es locals g T τ
unfolding number_expressions number_expr_variables ◌>>=◌ return free_in_expressions free_variables sides sides_of
equations-mean p_end Γ Δ locals g T τ T₀ τ₀ w s m h = record { means = refl; valued = λ x. x }
equations-mean (p_equation {a = a} {b = b} {es = es} p q more) Γ Δ locals g T τ T₀ τ₀ w s m h =
    let ra = expr-step a Γ Δ locals g w s in
    let sa = scope-up ra.grown.extends s in
    let rb = expr-step b Γ Δ locals _ ra.grown.well sa in
    let sb = scope-up rb.grown.extends sa in
    let re = expr-step (binary Equal a b) Γ Δ locals g w s in
    let k = pointwise-split (Agreed T₀ τ₀) _ (free_variables Γ a ++ free_variables Γ b) (free_in_expressions Γ es) _ _ re.free h in
    let l = pointwise-split (Agreed T₀ τ₀) _ (free_variables Γ a) (free_variables Γ b) _ _ ra.free k.0 in
    let one = expr-means p Γ Δ locals g T τ T₀ τ₀ w s m l.0 in
    let two = expr-means q Γ Δ locals _ T τ T₀ τ₀ ra.grown.well sa m l.1 in
    let rest = equations-mean more Γ Δ locals _ T τ T₀ τ₀ rb.grown.well sb m k.1 in
    record {
      means = ap₂ (λ (s : Answer × Answer) (ss : List (Answer × Answer)). s ∷ ss) (λ i. (one i, two i)) rest.means;
      valued = λ x. ((x.0.0, (one ∙ x.0.1)), (x.1.0, (two ∙ x.1.1)), rest.valued x.2);
    }
