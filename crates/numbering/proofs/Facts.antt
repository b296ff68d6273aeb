-- What numbering promises: every id is below the next one, each binder has an id of its own, each input has its id in all its uses.
use mathlib.Core.Path.{◌≡◌, refl, sym, ap, ◌∙◌}
use mathlib.Core.Bool.{Bool, true, false, cond, ◌||◌}
use mathlib.Core.List.{List, [], ◌∷◌, ◌++◌}
use mathlib.Core.Option.{Option, none, some}
use Prim.Native.Nat.{ℕ, suc, ◌+◌, ◌<◌, ◌≤◌}
use native.Mathlib.Nat.{le_refl, le_trans}
use native.Mathlib.Omega.{arith}
use lib.Dec.{eqb}
use lib.ListN.{length}
use borrow.Author.Tests.{eq-eqb, eqb-true}
use Rattle.source.specs.Trees.{Pat, unit_p, nil_p, as_p, product_p, cons_p, variable_p, constant_p, Expr, unit, nil, sequence, product, cons, binary, negate}
use Rattle.source.specs.Trees.{application, constant, variable, function, intrinsic, letting, matching, Items, last, ◌then◌, Arms, no_arm, arm, Module}
use Rattle.numbering.specs.Numbering.{Ids, found, Names, ◌>>=◌, return, generate_id, chosen, number_variable, number_pattern_variables}
use Rattle.numbering.specs.Numbering.{number_parameters, number_expr_variables, number_items, number_arms, number_def_variables, number_publics}
use Rattle.numbering.specs.Numbering.{number_definitions, number_expressions, number_module_variables, registered, names_of, numbered}
use Rattle.numbering.specs.Sizes.{pat_size, pat_sizes, size, items_size, arms_size, definitions_size, expressions_size, module_size}
use Rattle.numbering.specs.Inputs.{member, binding, bindings, free_variables, free_in_items, free_in_arms, free_in_definitions}
use Rattle.numbering.specs.Inputs.{defining, free_in_expressions, free_in_module, inputs, input_ids, input_id}
use Rattle.numbering.specs.Statements.{pattern_ids, parameter_ids, binders, item_binders, arm_binders, definition_binders}
use Rattle.numbering.specs.Statements.{expression_binders, all_binders, variables, item_variables, arm_variables}
use Rattle.numbering.specs.Statements.{definition_variables, expression_variables, all_variables, All, Pointwise, WellNumbered}
use Rattle.numbering.proofs.Lists.{false-true, not-true, all_append, all_map, all-member, pointwise-append}
use Rattle.numbering.proofs.Lists.{pointwise-map, Rises, rises-append, rises-up, rises-all, rises-distinct}
use Rattle.numbering.proofs.Names.{name_of, some_is, none-some, entry_case, found-head, falling-bounded, falling-unnamed, falling-named, Well}
use Rattle.numbering.proofs.Names.{Extends, Grown, extends-trans, grown-refl, grown-trans, drawn, drawn-grows, chosen-grows, registered-well}

-- an id that a pattern has: below the next one, and no input's
abbrev pub Binder : Names → ℕ → Type 0
Binder g i = (i < g.next) × (name_of i g.globals ≡ none)

pub binder-up : {g h : Names} → Extends g h → (i : ℕ) → Binder g i → Binder h i
binder-up e i b = (le_trans b.0 e.next, e.stays i b.0 ∙ b.1)

abbrev pub has : Option ℕ → Bool
has none = false
has (some i) = true

-- the names Γ and the ids Δ are bound, as the locals say
pub record Scope (Γ Δ : List ℕ) (locals : Ids) (g : Names) : Type 0 where
  pub names : (x : ℕ) → member x Γ ≡ has (found x locals)
  pub here : (x i : ℕ) → found x locals ≡ some i → member i Δ ≡ true
  pub bound : (i : ℕ) → member i Δ ≡ true → Binder g i

pub scope-up : {Γ Δ : List ℕ} {locals : Ids} {g h : Names} → Extends g h → Scope Γ Δ locals g → Scope Γ Δ locals h
scope-up e s = record { names = s.names; here = s.here; bound = λ i m. binder-up e i (s.bound i m) }

-- from g to h: the ids bs were drawn for patterns, variables have the ids us, and the free variables xs have the ids is
pub record Step (g h : Names) (bs us xs is : List ℕ) : Type 0 where
  pub grown : Grown g h
  pub rises : Rises g.next bs h.next
  pub binders : All (Binder h) bs
  pub uses : All (λ i. i < h.next) us
  pub free : Pointwise (λ x i. found x h.globals ≡ some i) xs is

pub nothing : (g : Names) → Well g → Step g g [] [] [] []
nothing g w = record { grown = grown-refl g w; rises = le_refl _; binders = tt; uses = tt; free = tt }

pub and_then : {g h k : Names} {bs us xs is bs' us' xs' is' : List ℕ} → Step g h bs us xs is → Step h k bs' us' xs' is'
    → Step g k (bs ++ bs') (us ++ us') (xs ++ xs') (is ++ is')
and_then {g} {h} {k} {bs} {us} {xs} {is} {bs'} {us'} {xs'} {is'} a b =
    let e = b.grown.extends in
    record {
      grown = grown-trans a.grown b.grown;
      rises = rises-append g.next bs h.next bs' k.next a.rises b.rises;
      binders = all_append _ bs bs' (all_map (binder-up e) bs a.binders) b.binders;
      uses = all_append _ us us' (all_map (λ i l. le_trans l e.next) us a.uses) b.uses;
      free = pointwise-append _ xs xs' is is' (pointwise-map (λ x i f. e.old x i f) xs is a.free) b.free;
    }

-- a variable
variable-step : (x : ℕ) (Γ Δ : List ℕ) (locals : Ids) (g : Names) → Well g → Scope Γ Δ locals g → (o q : Option ℕ) → found x locals ≡ o →
    found x g.globals ≡ q →
    Step g (chosen x o q g).1 [] ((chosen x o q g).0 ∷ []) (cond (member x Γ) [] (x ∷ [])) (cond (member (chosen x o q g).0 Δ) [] ((chosen x o q g).0 ∷ []))
unfolding chosen
variable-step x Γ Δ locals g w s (some i) q e f = record {
  grown = grown-refl g w;
  rises = le_refl _;
  binders = tt;
  uses = ((s.bound i (s.here x i e)).0, tt);
  free = both (member x Γ) (member i Δ) (s.names x ∙ ap has e) (s.here x i e);
}
  where
    both : (c d : Bool) → c ≡ true → d ≡ true → Pointwise (λ x i. found x g.globals ≡ some i) (cond c [] (x ∷ [])) (cond d [] (i ∷ []))
    both true true p q = tt
    both true false p q = absurd (false-true q)
    both false d p q = absurd (false-true p)
variable-step x Γ Δ locals g w s none (some i) e f = record {
  grown = grown-refl g w;
  rises = le_refl _;
  binders = tt;
  uses = (falling-bounded _ _ w.falling x i f, tt);
  free =
      neither (member x Γ) (member i Δ) (s.names x ∙ ap has e)
      (not-true (member i Δ) (λ m. none-some x (sym (s.bound i m).1 ∙ falling-named _ _ w.falling x i f)));
}
  where
    neither : (c d : Bool) → c ≡ false → d ≡ false → Pointwise (λ x i. found x g.globals ≡ some i) (cond c [] (x ∷ [])) (cond d [] (i ∷ []))
    neither true d p q = absurd (false-true (sym p))
    neither false true p q = absurd (false-true (sym q))
    neither false false p q = (f, tt)
variable-step x Γ Δ locals g w s none none e f = record {
  grown = chosen-grows x g w none none f;
  rises = omega arith;
  binders = tt;
  uses = (omega arith, tt);
  free = neither (member x Γ) (member g.next Δ) (s.names x ∙ ap has e) (not-true (member g.next Δ) (λ m. omega (arith, (s.bound g.next m).0)));
}
  where
    neither : (c d : Bool) → c ≡ false → d ≡ false
        → Pointwise (λ y i. found y ((x, g.next) ∷ g.globals) ≡ some i) (cond c [] (x ∷ [])) (cond d [] (g.next ∷ []))
    neither true d p q = absurd (false-true (sym p))
    neither false true p q = absurd (false-true (sym q))
    neither false false p q = (found-head x g.next g.globals, tt)

-- a pattern: the ids it draws, and the scope of its body
pub record PatternStep (Γ Δ : List ℕ) (locals : Ids) (g h : Names) (is : List ℕ) : Type 0 where
  pub step : Step g h is [] [] []
  pub scope : Scope Γ Δ locals h

-- one name joins
joined : (x : ℕ) (Γ Δ : List ℕ) (locals : Ids) (g : Names) → Well g → Scope Γ Δ locals g
    → PatternStep (x ∷ Γ) (g.next ∷ Δ) ((x, g.next) ∷ locals) g (drawn g) (g.next ∷ [])
unfolding member found
joined x Γ Δ locals g w s = record {
  step = record {
    grown = drawn-grows g w;
    rises = (le_refl _, le_refl _);
    binders = ((omega arith, falling-unnamed _ _ w.falling g.next (le_refl _)), tt);
    uses = tt;
    free = tt;
  };
  scope = record {
    names = λ y. named y (eqb y x) (s.names y);
    here = λ y i e.
        entry_case (eqb y x) _ _ i e (λ c q. ap (λ (b : Bool). b || member i Δ) (eq-eqb i g.next (sym q)))
        (λ c q. or_right (eqb i g.next) (s.here y i q));
    bound = λ i m. is_bound i (eqb i g.next) refl m;
  };
}
  where
    named : (y : ℕ) (c : Bool) → member y Γ ≡ has (found y locals) → (c || member y Γ) ≡ has (cond c (some g.next) (found y locals))
    named y true h = refl
    named y false h = h

    or_right : (c : Bool) {d : Bool} → d ≡ true → (c || d) ≡ true
    or_right true h = refl
    or_right false h = h

    is_bound : (i : ℕ) (c : Bool) → eqb i g.next ≡ c → (c || member i Δ) ≡ true → Binder (drawn g) i
    is_bound i true e m = let q : i ≡ g.next = eqb-true i g.next e in (omega arith, falling-unnamed _ _ w.falling i (omega arith))
    is_bound i false e m = let b = s.bound i m in (omega (arith, b.0), b.1)

-- two patterns, one after the other
both-patterns : {Γ Δ Γ' Δ' : List ℕ} {locals locals' : Ids} {g h k : Names} {is js : List ℕ} → PatternStep Γ Δ locals g h is → PatternStep Γ' Δ' locals' h k js
    → PatternStep Γ' Δ' locals' g k (is ++ js)
both-patterns a b = record { step = and_then a.step b.step; scope = b.scope }

pub pattern-step : (p : Pat) (Γ Δ : List ℕ) (locals : Ids) (g : Names) → Well g → Scope Γ Δ locals g
    → PatternStep (binding p Γ) (binding (number_pattern_variables p locals g).0.0 Δ) (number_pattern_variables p locals g).0.1 g
    (number_pattern_variables p locals g).1 (pattern_ids (number_pattern_variables p locals g).0.0)
unfolding number_pattern_variables generate_id ◌>>=◌ return binding pattern_ids
pattern-step (as_p p x) Γ Δ locals g w s = let a = pattern-step p Γ Δ locals g w s in both-patterns a (joined x _ _ _ _ a.step.grown.well a.scope)
pattern-step (product_p p q) Γ Δ locals g w s =
    let a = pattern-step p Γ Δ locals g w s in
    both-patterns a (pattern-step q _ _ _ _ a.step.grown.well a.scope)
pattern-step (cons_p p q) Γ Δ locals g w s =
    let a = pattern-step p Γ Δ locals g w s in
    both-patterns a (pattern-step q _ _ _ _ a.step.grown.well a.scope)
pattern-step (variable_p x) Γ Δ locals g w s = joined x Γ Δ locals g w s
pattern-step (constant_p n) Γ Δ locals g w s = record { step = nothing g w; scope = s }
pattern-step unit_p Γ Δ locals g w s = record { step = nothing g w; scope = s }
pattern-step nil_p Γ Δ locals g w s = record { step = nothing g w; scope = s }

pub parameters-step : (ps : List Pat) (Γ Δ : List ℕ) (locals : Ids) (g : Names) → Well g → Scope Γ Δ locals g
    → PatternStep (bindings ps Γ) (bindings (number_parameters ps locals g).0.0 Δ) (number_parameters ps locals g).0.1 g (number_parameters ps locals g).1
    (parameter_ids (number_parameters ps locals g).0.0)
unfolding number_parameters ◌>>=◌ return bindings parameter_ids
parameters-step [] Γ Δ locals g w s = record { step = nothing g w; scope = s }
parameters-step (p ∷ ps) Γ Δ locals g w s =
    let a = pattern-step p Γ Δ locals g w s in
    both-patterns a (parameters-step ps _ _ _ _ a.step.grown.well a.scope)

-- an expression
mutual
  unfolding number_expr_variables number_items number_arms number_variable ◌>>=◌ return binders item_binders arm_binders variables item_variables arm_variables
      free_variables free_in_items free_in_arms

  pub expr-step : (e : Expr) (Γ Δ : List ℕ) (locals : Ids) (g : Names) → Well g → Scope Γ Δ locals g
      → Step g (number_expr_variables e locals g).1 (binders (number_expr_variables e locals g).0) (variables (number_expr_variables e locals g).0)
      (free_variables Γ e) (free_variables Δ (number_expr_variables e locals g).0)
  expr-step (sequence is) Γ Δ locals g w s = items-step is Γ Δ locals g w s
  expr-step (intrinsic k n ps env) Γ Δ locals g w s = (parameters-step ps Γ Δ locals g w s).step
  expr-step (binary o a b) Γ Δ locals g w s =
      let r = expr-step a Γ Δ locals g w s in
      and_then r (expr-step b Γ Δ locals _ r.grown.well (scope-up r.grown.extends s))
  expr-step (application a b) Γ Δ locals g w s =
      let r = expr-step a Γ Δ locals g w s in
      and_then r (expr-step b Γ Δ locals _ r.grown.well (scope-up r.grown.extends s))
  expr-step (product a b) Γ Δ locals g w s =
      let r = expr-step a Γ Δ locals g w s in
      and_then r (expr-step b Γ Δ locals _ r.grown.well (scope-up r.grown.extends s))
  expr-step (cons a b) Γ Δ locals g w s =
      let r = expr-step a Γ Δ locals g w s in
      and_then r (expr-step b Γ Δ locals _ r.grown.well (scope-up r.grown.extends s))
  expr-step (negate a) Γ Δ locals g w s = expr-step a Γ Δ locals g w s
  expr-step (constant n) Γ Δ locals g w s = nothing g w
  expr-step unit Γ Δ locals g w s = nothing g w
  expr-step nil Γ Δ locals g w s = nothing g w
  expr-step (variable x) Γ Δ locals g w s = variable-step x Γ Δ locals g w s (found x locals) (found x g.globals) refl refl
  expr-step (function ps b env) Γ Δ locals g w s =
      let r = parameters-step ps Γ Δ locals g w s in
      and_then r.step (expr-step b _ _ _ _ r.step.grown.well r.scope)
  expr-step (letting p v b) Γ Δ locals g w s =
      let r = expr-step v Γ Δ locals g w s in
      let q = pattern-step p Γ Δ locals _ r.grown.well (scope-up r.grown.extends s) in
      and_then r (and_then q.step (expr-step b _ _ _ _ q.step.grown.well q.scope))
  expr-step (matching v arms) Γ Δ locals g w s =
      let r = expr-step v Γ Δ locals g w s in
      and_then r (arms_step arms Γ Δ locals _ r.grown.well (scope-up r.grown.extends s))

  pub items-step : (is : Items) (Γ Δ : List ℕ) (locals : Ids) (g : Names) → Well g → Scope Γ Δ locals g
      → Step g (number_items is locals g).1 (item_binders (number_items is locals g).0) (item_variables (number_items is locals g).0) (free_in_items Γ is)
      (free_in_items Δ (number_items is locals g).0)
  items-step (last e) Γ Δ locals g w s = expr-step e Γ Δ locals g w s
  items-step (e then is) Γ Δ locals g w s =
      let r = expr-step e Γ Δ locals g w s in
      and_then r (items-step is Γ Δ locals _ r.grown.well (scope-up r.grown.extends s))

  pub arms_step : (arms : Arms) (Γ Δ : List ℕ) (locals : Ids) (g : Names) → Well g → Scope Γ Δ locals g
      → Step g (number_arms arms locals g).1 (arm_binders (number_arms arms locals g).0) (arm_variables (number_arms arms locals g).0) (free_in_arms Γ arms)
      (free_in_arms Δ (number_arms arms locals g).0)
  arms_step no_arm Γ Δ locals g w s = nothing g w
  arms_step (arm p e arms) Γ Δ locals g w s =
      let q = pattern-step p Γ Δ locals g w s in
      let r = expr-step e _ _ _ _ q.step.grown.well q.scope in
      and_then q.step (and_then r (arms_step arms Γ Δ locals _ r.grown.well (scope-up (extends-trans q.step.grown.extends r.grown.extends) s)))

-- the definitions, in order
pub record DefinitionsStep (Γ Δ : List ℕ) (locals : Ids) (g h : Names) (bs us xs is : List ℕ) : Type 0 where
  pub step : Step g h bs us xs is
  pub scope : Scope Γ Δ locals h

pub definitions-step : (ds : List (Pat × Expr)) (Γ Δ : List ℕ) (locals : Ids) (g : Names) → Well g → Scope Γ Δ locals g →
    DefinitionsStep (defining ds Γ) (defining (number_definitions ds locals g).0.0 Δ) (number_definitions ds locals g).0.1 g
    (number_definitions ds locals g).1
    (definition_binders (number_definitions ds locals g).0.0) (definition_variables (number_definitions ds locals g).0.0) (free_in_definitions Γ ds)
    (free_in_definitions Δ (number_definitions ds locals g).0.0)
unfolding number_definitions number_def_variables ◌>>=◌ return definition_binders definition_variables free_in_definitions defining
definitions-step [] Γ Δ locals g w s = record { step = nothing g w; scope = s }
definitions-step (d ∷ ds) Γ Δ locals g w s =
    let r = expr-step d.1 Γ Δ locals g w s in
    let q = pattern-step d.0 Γ Δ locals _ r.grown.well (scope-up r.grown.extends s) in
    let t = definitions-step ds _ _ _ _ q.step.grown.well q.scope in
    record { step = and_then r (and_then q.step t.step); scope = t.scope }

pub expressions-step : (es : List Expr) (Γ Δ : List ℕ) (locals : Ids) (g : Names) → Well g → Scope Γ Δ locals g
    → Step g (number_expressions es locals g).1 (expression_binders (number_expressions es locals g).0)
    (expression_variables (number_expressions es locals g).0)
    (free_in_expressions Γ es) (free_in_expressions Δ (number_expressions es locals g).0)
unfolding number_expressions ◌>>=◌ return expression_binders expression_variables free_in_expressions
expressions-step [] Γ Δ locals g w s = nothing g w
expressions-step (e ∷ es) Γ Δ locals g w s =
    let r = expr-step e Γ Δ locals g w s in
    and_then r (expressions-step es Γ Δ locals _ r.grown.well (scope-up r.grown.extends s))

-- nothing is bound
pub empty-scope : (g : Names) → Scope [] [] [] g
unfolding member found
empty-scope g = record { names = λ x. refl; here = λ x i e. absurd (none-some i e); bound = λ i m. absurd (false-true m) }

-- the publics are free variables
pub publics-step : (xs : List ℕ) (g : Names) → Well g → Step g (number_publics xs g).1 [] (number_publics xs g).0 xs (number_publics xs g).0
unfolding number_publics number_variable ◌>>=◌ return member found
publics-step [] g w = nothing g w
publics-step (x ∷ xs) g w =
    let r = variable-step x [] [] [] g w (empty-scope g) none (found x g.globals) refl refl in
    and_then r (publics-step xs _ r.grown.well)

-- the whole module
pub record ModuleStep (m : Module) : Type 0 where
  pub publics : Step (registered m.names) (names_of m) [] (numbered m).publics m.publics (numbered m).publics
  pub rest : Step (registered m.names) (names_of m) (all_binders (numbered m)) (all_variables (numbered m)) (inputs m) (input_ids (numbered m))

-- a step seen from before and from behind
before : {g h k : Names} {bs us xs is : List ℕ} → Grown g h → Step h k bs us xs is → Step g k bs us xs is
before {g} {h} {k} {bs} a b = record {
  grown = grown-trans a b.grown;
  rises = rises-append g.next [] h.next bs k.next a.extends.next b.rises;
  binders = b.binders;
  uses = b.uses;
  free = b.free;
}

behind : {g h k : Names} {bs us xs is : List ℕ} → Step g h bs us xs is → Grown h k → Step g k bs us xs is
behind {g} {h} {k} {bs} {us} {xs} {is} a b =
    let e = b.extends in
    record {
      grown = grown-trans a.grown b;
      rises = rises-up g.next bs h.next k.next e.next a.rises;
      binders = all_map (binder-up e) bs a.binders;
      uses = all_map (λ i l. le_trans l e.next) us a.uses;
      free = pointwise-map (λ x i f. e.old x i f) xs is a.free;
    }

pub module-step : (m : Module) → ModuleStep m
unfolding numbered names_of number_module_variables ◌>>=◌ return all_binders all_variables inputs input_ids free_in_module
module-step m =
    let g = registered m.names in
    let p = publics-step m.publics g (registered-well m.names) in
    let d = definitions-step m.definitions [] [] [] _ p.grown.well (empty-scope _) in
    let e = expressions-step m.expressions _ _ _ _ d.step.grown.well d.scope in
    record { publics = behind p (grown-trans d.step.grown e.grown); rest = before p.grown (and_then d.step e) }

-- how many ids are drawn
variable-draws : (x : ℕ) (g : Names) (o q : Option ℕ) → (chosen x o q g).1.next ≤ suc g.next
unfolding chosen
variable-draws x g (some i) q = omega arith
variable-draws x g none (some i) = omega arith
variable-draws x g none none = le_refl _

pattern-draws : (p : Pat) (locals : Ids) (g : Names) → (number_pattern_variables p locals g).1.next ≤ pat_size p + g.next
unfolding number_pattern_variables generate_id ◌>>=◌ return pat_size
pattern-draws (as_p p x) locals g = omega (arith, pattern-draws p locals g)
pattern-draws (product_p p q) locals g =
    omega (arith, pattern-draws p locals g, pattern-draws q (number_pattern_variables p locals g).0.1 (number_pattern_variables p locals g).1)
pattern-draws (cons_p p q) locals g =
    omega (arith, pattern-draws p locals g, pattern-draws q (number_pattern_variables p locals g).0.1 (number_pattern_variables p locals g).1)
pattern-draws (variable_p x) locals g = omega arith
pattern-draws (constant_p n) locals g = omega arith
pattern-draws unit_p locals g = omega arith
pattern-draws nil_p locals g = omega arith

parameters-draw : (ps : List Pat) (locals : Ids) (g : Names) → (number_parameters ps locals g).1.next ≤ pat_sizes ps + g.next
unfolding number_parameters ◌>>=◌ return pat_sizes
parameters-draw [] locals g = omega arith
parameters-draw (p ∷ ps) locals g =
    omega (arith, pattern-draws p locals g, parameters-draw ps (number_pattern_variables p locals g).0.1 (number_pattern_variables p locals g).1)

mutual
  unfolding number_expr_variables number_items number_arms number_variable ◌>>=◌ return size items_size arms_size

  expr-draws : (e : Expr) (locals : Ids) (g : Names) → (number_expr_variables e locals g).1.next ≤ size e + g.next
  expr-draws (sequence is) locals g = omega (arith, items-draw is locals g)
  expr-draws (intrinsic w k ps env) locals g = omega (arith, parameters-draw ps locals g)
  expr-draws (binary o a b) locals g = omega (arith, expr-draws a locals g, expr-draws b locals (number_expr_variables a locals g).1)
  expr-draws (application a b) locals g = omega (arith, expr-draws a locals g, expr-draws b locals (number_expr_variables a locals g).1)
  expr-draws (product a b) locals g = omega (arith, expr-draws a locals g, expr-draws b locals (number_expr_variables a locals g).1)
  expr-draws (cons a b) locals g = omega (arith, expr-draws a locals g, expr-draws b locals (number_expr_variables a locals g).1)
  expr-draws (negate a) locals g = omega (arith, expr-draws a locals g)
  expr-draws (constant n) locals g = omega arith
  expr-draws unit locals g = omega arith
  expr-draws nil locals g = omega arith
  expr-draws (variable x) locals g = omega (arith, variable-draws x g (found x locals) (found x g.globals))
  expr-draws (function ps b env) locals g =
      omega (arith, parameters-draw ps locals g, expr-draws b (number_parameters ps locals g).0.1 (number_parameters ps locals g).1)
  expr-draws (letting p v b) locals g =
      let one = (number_expr_variables v locals g).1 in
      let two = number_pattern_variables p locals one in
      omega (arith, expr-draws v locals g, pattern-draws p locals one, expr-draws b two.0.1 two.1)
  expr-draws (matching v arms) locals g = omega (arith, expr-draws v locals g, arms-draw arms locals (number_expr_variables v locals g).1)

  items-draw : (is : Items) (locals : Ids) (g : Names) → (number_items is locals g).1.next ≤ items_size is + g.next
  items-draw (last e) locals g = expr-draws e locals g
  items-draw (e then is) locals g = omega (arith, expr-draws e locals g, items-draw is locals (number_expr_variables e locals g).1)

  arms-draw : (arms : Arms) (locals : Ids) (g : Names) → (number_arms arms locals g).1.next ≤ arms_size arms + g.next
  arms-draw no_arm locals g = omega arith
  arms-draw (arm p e arms) locals g =
      let one = number_pattern_variables p locals g in
      let two = (number_expr_variables e one.0.1 one.1).1 in
      omega (arith, pattern-draws p locals g, expr-draws e one.0.1 one.1, arms-draw arms locals two)

publics-draw : (xs : List ℕ) (g : Names) → (number_publics xs g).1.next ≤ length xs + g.next
unfolding number_publics number_variable ◌>>=◌ return
publics-draw [] g = omega arith
publics-draw (x ∷ xs) g =
    omega (arith, variable-draws x g (found x []) (found x g.globals), publics-draw xs (chosen x (found x []) (found x g.globals) g).1)

definitions-draw : (ds : List (Pat × Expr)) (locals : Ids) (g : Names) → (number_definitions ds locals g).1.next ≤ definitions_size ds + g.next
unfolding number_definitions number_def_variables ◌>>=◌ return definitions_size
definitions-draw [] locals g = omega arith
definitions-draw (d ∷ ds) locals g =
    let one = (number_expr_variables d.1 locals g).1 in
    let two = number_pattern_variables d.0 locals one in
    omega (arith, expr-draws d.1 locals g, pattern-draws d.0 locals one, definitions-draw ds two.0.1 two.1)

expressions-draw : (es : List Expr) (locals : Ids) (g : Names) → (number_expressions es locals g).1.next ≤ expressions_size es + g.next
unfolding number_expressions ◌>>=◌ return expressions_size
expressions-draw [] locals g = omega arith
expressions-draw (e ∷ es) locals g = omega (arith, expr-draws e locals g, expressions-draw es locals (number_expr_variables e locals g).1)

next_low : (m : Module) → (names_of m).next ≤ 9 + length m.publics + module_size m
unfolding names_of number_module_variables ◌>>=◌ return module_size registered
next_low m =
    let g = registered m.names in
    let one = (number_publics m.publics g).1 in
    let two = number_definitions m.definitions [] one in
    omega (arith, publics-draw m.publics g, definitions-draw m.definitions [] one, expressions-draw m.expressions two.0.1 two.1)

pub well-numbered : (m : Module) → WellNumbered m
unfolding input_id numbered registered
well-numbered m =
    let s = module-step m in
    let w = s.rest.grown.well in
    record {
      publics-below = s.publics.uses;
      binders-below = all_map (λ i b. b.0) (all_binders (numbered m)) s.rest.binders;
      variables-below = s.rest.uses;
      binders-distinct = rises-distinct _ (all_binders (numbered m)) _ s.rest.rises;
      binders-above = all_map (λ i h. h.0) (all_binders (numbered m)) (rises-all 9 (all_binders (numbered m)) (names_of m).next s.rest.rises);
      no-binder = λ x i e.
          not-true (member i (all_binders (numbered m)))
          (λ h. none-some x (sym (all-member _ i (all_binders (numbered m)) s.rest.binders h).1 ∙ falling-named _ _ w.falling x i e));
      next_low = next_low m;
      inputs-numbered = s.rest.free;
      publics-numbered = s.publics.free;
      ids-differ = λ x y i e f. some_is x y (sym (falling-named _ _ w.falling x i e) ∙ falling-named _ _ w.falling y i f);
    }
