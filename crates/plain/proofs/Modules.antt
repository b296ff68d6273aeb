-- Evaluation of a plain numbered module: the flat equations' sides have the values of the source equations' sides.
use mathlib.Core.Path.{◌≡◌, refl, sym, ap, ap₂, subst, ◌∙◌}
use mathlib.Core.Bool.{Bool, true, false}
use mathlib.Core.List.{List, [], ◌∷◌, ◌++◌, reverse, reverse_aux, append-nil}
use mathlib.Core.Option.{Option, none, some}
use Prim.Native.Nat.{ℕ, zero, suc, ◌<◌, ◌≤◌}
use native.Mathlib.Nat.{le_refl, le_trans}
use native.Mathlib.Omega.{arith}
use lib.IntN.{ℤ}
use lib.Dec.{eqb}
use borrow.Author.Tests.{ne_eqb}
use Rattle.field.specs.Operations.{Answer, HasValue}
use Rattle.std.specs.Prelude.{Some}
use Rattle.field.specs.declared.InfixOp.TheVariants.{Equal}
use Rattle.source.specs.Trees.{Pat, variable_p, Expr, unit, binary, Env, empty}
use Rattle.flat.specs.Trees.{Flat, Definition, Equation, FlatModule}
use Rattle.flat.specs.Rules.{Every}
use Rattle.flat.specs.Meaning.{update, Assignment, Elements, on_values, negated, value, or_zero, worked_out}
use Rattle.numbering.specs.Numbering.{Numbered}
use Rattle.numbering.specs.Inputs.{member}
use Rattle.eval_trees.specs.Environments.{look_up, insert, extended}
use Rattle.eval_trees.specs.Forms.{flat_of, opposed}
use Rattle.eval_trees.specs.State.{State, Outcome, refused, gives, Run, ◌>>◌, refuse, Done, get, set_bindings, make}
use Rattle.eval_trees.specs.Flatten.{flatten_equals, equates}
use Rattle.eval_trees.specs.Evaluation.{evaluate, step, evaluate_infix, evaluate_binding, evaluate_def, evaluate_defs}
use Rattle.eval_trees.specs.Evaluation.{evaluate_exprs, evaluate_module, begin, flat, refusal, finished, evaluated_by}
use Rattle.eval_trees.proofs.Runs.{refused-gives, bind-case, then-case, bind-known, return_back, past, got, make_same, Equated, equation-back, set_back}
use Rattle.eval_trees.proofs.Environments.{insert-same, insert-other}
use Rattle.plain.specs.Meaning.{Table, write, value_of, sides_of, sides, DefinitionsValued, EquationsValued}
use Rattle.plain.specs.Meaning
use Rattle.plain.proofs.Values.{false-true, writing, table, some-path, none-some, flat-value}
use Rattle.plain.proofs.Terms.{run, RunValued, now, Term, of_constant, of_variable, of_negate, Scoped, term_up, Core, Grew, Unbound}
use Rattle.plain.proofs.Terms.{SameBindings, Agree, grew_trans, bindings-trans, unbound-same, kept-value, agree-grew, agree-kept}
use Rattle.plain.proofs.Lets.{Binds, binding-result, joined, key}

-- definitions in order, each in the scope of those before; Δ is the scope behind them
pub data ScopedDefinitions (B : ℕ → Bool) (k : ℕ) : List ℕ → List (Pat × Expr) → List ℕ → Type 0 where
  no_definition : {Γ : List ℕ} → ScopedDefinitions B k Γ [] Γ
  definition : {Γ Δ : List ℕ} {x : ℕ} {v : Expr} {ds : List (Pat × Expr)} → B x ≡ true → Scoped B k Γ v → ScopedDefinitions B k (x ∷ Γ) ds Δ
      → ScopedDefinitions B k Γ ((variable_p x, v) ∷ ds) Δ

pub data ScopedEquations (B : ℕ → Bool) (k : ℕ) (Γ : List ℕ) : List Expr → Type 0 where
  no_equation : ScopedEquations B k Γ []
  equation : {a b : Expr} {es : List Expr} → Scoped B k Γ a → Scoped B k Γ b → ScopedEquations B k Γ es → ScopedEquations B k Γ (binary Equal a b ∷ es)

-- the values of both sides of each flat equation
unfoldable pub flat_sides : Assignment → List Equation → List (Answer × Answer)
flat_sides σ [] = []
flat_sides σ (e ∷ es) = (value σ e.left, value σ e.right) ∷ flat_sides σ es

module _ (B : ℕ → Bool) (N : ℕ) (beyond : (x : ℕ) → N ≤ x → B x ≡ false) (t : Assignment) (elements : Elements t) where
  -- behind the definitions
  pub record Behind (k : ℕ) (Δ : List ℕ) (τ : Table) (s u : State) : Type 0 where
    pub grew : Grew B N t s u
    pub core : Core B N t u
    pub unbound : Unbound B N t u
    pub agree : Agree B N t k Δ τ u

  one-defined : {k : ℕ} {Γ : List ℕ} {τ : Table} (x : ℕ) (v : Expr) (s s1 s2 : State) (env : Env) (z : ℤ) (y : Done) → B x ≡ true
      → k ≤ s.next → Unbound B N t s → Agree B N t k Γ τ s → value_of τ v ≡ Some z → Binds B N beyond t elements s s1 x z env
      → set_bindings (extended env s1.bindings) s1 ≡ gives y s2 → Behind k (x ∷ Γ) (writing x (value_of τ v) τ) s s2
  unfolding extended
  one-defined {k} {Γ} {τ} x v s s1 s2 env z y bx h f a val b e =
      let w = set_back _ s1 y s2 e in
      let bind : s2.bindings ≡ insert x b.term_of s1.bindings = w.bindings ∙ ap (λ (v : Env). extended v s1.bindings) b.new_is in
      let ge : Grew B N t s1 s2 =
      record { next = omega (arith, w.next); equations = w.equations; kept = λ i _ _. ap (λ (ds : List Definition). run t ds i) w.definitions } in
      let g : Grew B N t s s2 = grew_trans B N t b.grew ge in
      let others : (i : ℕ) → (i ≡ x → ⊥) → look_up i s2.bindings ≡ look_up i s.bindings =
      λ i n. ap (look_up i) bind ∙ insert-other x i b.term_of s1.bindings n ∙ b.bindings.at i in
      record {
        grew = g;
        core = record {
          provers = w.provers ∙ b.core.provers;
          above = omega (arith, b.core.above, w.next);
          valued = subst (λ (ds : List Definition). RunValued t ds) (sym w.definitions) b.core.valued;
        };
        unbound = record { free = λ i n. others i (λ q. false-true (sym n ∙ ap B q ∙ bx)) ∙ f.free i n };
        agree =
            subst (λ (o : Answer). Agree B N t k (x ∷ Γ) (writing x o τ) s2) (sym val)
            (joined B N beyond t elements x b.term_of z bx h g (ap (look_up x) bind ∙ insert-same x b.term_of s1.bindings) others
            (term_up ge.next b.term) (kept-value B N t ge b.term b.value) a);
      }

  definitions-result : {k : ℕ} {Γ Δ : List ℕ} {ds : List (Pat × Expr)} (l : ℕ) (τ : Table) (s u : State) (y : Done) → ScopedDefinitions B k Γ ds Δ
      → evaluate_defs l ds s ≡ gives y u → k ≤ s.next → Core B N t s → Unbound B N t s → Agree B N t k Γ τ s → DefinitionsValued τ ds
      → Behind k Δ (Meaning.defined τ ds) s u
  unfolding evaluate_defs evaluate_def Meaning.defined write
  definitions-result {k} {Γ} l τ s u y no_definition e h c f a w =
      let g = return_back tt y s u e in
      subst (λ (u : State). Behind k Γ τ s u) g.state
      (record { grew = record { next = le_refl _; equations = refl; kept = λ _ _ _. refl }; core = c; unbound = f; agree = a })
  definitions-result {k} {Γ} {Δ} l τ s u y (definition {x = x} {v = v} {ds = ds} bx p more) e h c f a w =
      then-case (evaluate_def l (variable_p x, v)) _ s y u e λ o s2 whole e2.
      bind-case (evaluate_binding (evaluate l) (variable_p x) v empty) _ s o s2 whole λ env s1 first e1.
      let second = bind-known get (λ s. set_bindings (extended env s.bindings)) s1 s1 s1 o s2 (got s1) e1 in
      let b = binding-result B N beyond t elements (evaluate l) (key B N beyond t elements l) Γ k τ x v s s1 env w.0.0 bx p first h c f a w.0.1 in
      let one = one-defined x v s s1 s2 env w.0.0 o bx h f a w.0.1 b second in
      let rest =
      definitions-result l (writing x (value_of τ v) τ) s2 u y more e2 (le_trans h one.grew.next) one.core one.unbound one.agree w.1 in
      record { grew = grew_trans B N t one.grew rest.grew; core = rest.core; unbound = rest.unbound; agree = rest.agree }

  -- the flat expression of a term: its ids are free, and what they mean stays
  abbrev Free : ℕ → ℕ → Type 0
  Free n v = (B v ≡ false) × (v < n)

  opposed-free : (n : ℕ) (o : Option Flat) (f : Flat) → ((g : Flat) → o ≡ some g → Every (Free n) g) → opposed o ≡ some f → Every (Free n) f
  unfolding opposed
  opposed-free n none f h e = absurd (none-some f e)
  opposed-free n (some g) f h e = subst (Every (Free n)) (some-path _ f e) (h g refl)

  term-free : {n : ℕ} {e : Expr} (f : Flat) → Term B n e → flat_of e ≡ some f → Every (Free n) f
  unfolding flat_of
  term-free {n} f (of_constant c) h = subst (Every (Free n)) (some-path _ f h) tt
  term-free {n} f (of_variable b l) h = subst (Every (Free n)) (some-path _ f h) (b, l)
  term-free {n} f (of_negate {a = a} nc m) h = opposed-free n (flat_of a) f (λ g. term-free g m) h

  abbrev Keeping : State → State → Type 0
  Keeping s u = (x : ℕ) → B x ≡ false → x < s.next → run t u.definitions x ≡ run t s.definitions x

  free_up : (n m : ℕ) → n ≤ m → (f : Flat) → Every (Free n) f → Every (Free m) f
  free_up n m l (Flat.infixed o a b) h = (free_up n m l a h.0, free_up n m l b h.1)
  free_up n m l (Flat.negate a) h = free_up n m l a h
  free_up n m l (Flat.constant c) h = tt
  free_up n m l (Flat.variable v) h = (h.0, le_trans h.1 l)

  free-value : (s u : State) → Keeping s u → (f : Flat) → Every (Free s.next) f → value (run t u.definitions) f ≡ value (run t s.definitions) f
  unfolding value
  free-value s u g (Flat.infixed o a b) h = ap₂ (on_values o) (free-value s u g a h.0) (free-value s u g b h.1)
  free-value s u g (Flat.negate a) h = ap negated (free-value s u g a h)
  free-value s u g (Flat.constant c) h = refl
  free-value s u g (Flat.variable v) h = ap Some (g v h.0 h.1)

  -- the equations pushed, the newest first, with the values of their sides
  abbrev Matched : State → List Equation → List (Answer × Answer) → Type 0
  Matched u [] [] = Unit {0}
  Matched u [] (p ∷ ps) = ⊥
  Matched u (e ∷ es) [] = ⊥
  Matched u (e ∷ es) (p ∷ ps) =
      Every (Free u.next) e.left
      × Every (Free u.next) e.right
      × (value (run t u.definitions) e.left ≡ p.0)
      × (value (run t u.definitions) e.right ≡ p.1)
      × Matched u es ps

  matched-kept : (s u : State) → s.next ≤ u.next → Keeping s u → (es : List Equation) (ps : List (Answer × Answer)) → Matched s es ps → Matched u es ps
  matched-kept s u n g [] [] m = tt
  matched-kept s u n g [] (p ∷ ps) m = m
  matched-kept s u n g (e ∷ es) [] m = m
  matched-kept s u n g (e ∷ es) (p ∷ ps) m = (
    free_up _ _ n e.left m.0,
    free_up _ _ n e.right m.1,
    free-value s u g e.left m.0 ∙ m.2,
    free-value s u g e.right m.1 ∙ m.3,
    matched-kept s u n g es ps m.4,
  )

  matched-sides : (u : State) (es : List Equation) (ps : List (Answer × Answer)) → Matched u es ps → flat_sides (run t u.definitions) es ≡ ps
  unfolding flat_sides
  matched-sides u [] [] m = refl
  matched-sides u [] (p ∷ ps) m = absurd m
  matched-sides u (e ∷ es) [] m = absurd m
  matched-sides u (e ∷ es) (p ∷ ps) m =
      ap₂ (λ (q : Answer × Answer) (qs : List (Answer × Answer)). q ∷ qs) (λ i. (m.2 i, m.3 i)) (matched-sides u es ps m.4)

  -- an equation of terms is pushed
  equates-term : {n : ℕ} {a : Expr} (b : Expr) (s : State) → Term B n a → flatten_equals a b s ≡ equates a b s
  unfolding flatten_equals
  equates-term b s (of_constant c) = refl
  equates-term b s (of_variable f l) = refl
  equates-term b s (of_negate nc a) = refl

  equated-by : {a b : Expr} {s s1 u : State} → Equated a b s s1 → u.next ≡ s1.next → u.bindings ≡ s1.bindings → u.provers ≡ s1.provers
      → u.definitions ≡ s1.definitions → u.equations ≡ s1.equations → Equated a b s u
  equated-by q n b p d e = record {
    left-tree = q.left-tree;
    right-tree = q.right-tree;
    left_is = q.left_is;
    right_is = q.right_is;
    next = n ∙ q.next;
    bindings = b ∙ q.bindings;
    provers = p ∙ q.provers;
    definitions = d ∙ q.definitions;
    equations = e ∙ q.equations;
  }

  equate-back : (a b : Expr) (s : State) (y : Done) (u : State) → equates a b s ≡ gives y u → Equated a b s u
  unfolding equates
  equate-back a b s y u e =
      then-case (make 1) _ s y u (past _ 16 _ s y u e) λ o s1 first e1.
      let m = make_same 1 s o s1 first in
      let q = equation-back a b s1 y u e1 in
      record {
        left-tree = q.left-tree;
        right-tree = q.right-tree;
        left_is = q.left_is;
        right_is = q.right_is;
        next = q.next ∙ m.next;
        bindings = q.bindings ∙ m.bindings;
        provers = q.provers ∙ m.provers;
        definitions = q.definitions ∙ m.definitions;
        equations = q.equations ∙ ap (λ (l : List Equation). record { left = q.left-tree; right = q.right-tree; place = 0 } ∷ l) m.equations;
      }

  pub equal-back : (ev : Expr → Run Expr) {n : ℕ} (a b : Expr) (s u : State) (v : Expr) → Term B n a
      → evaluate_infix ev Equal a b s ≡ gives v u → Equated a b s u
  unfolding evaluate_infix
  equal-back ev a b s u v ta e =
      then-case (flatten_equals a b) _ s v u e λ o s1 first e1.
      then-case (make 1) _ s1 v u e1 λ o' s2 second e2.
      let q = equate-back a b s o s1 (sym (equates-term b s ta) ∙ first) in
      let m = make_same 1 s1 o' s2 second in
      let w = return_back unit v s2 u e2 in
      subst (λ (u : State). Equated a b s u) w.state (equated-by q m.next m.bindings m.provers m.definitions m.equations)

  -- behind some equations; ps are the values of their sides, the newest first
  pub record Evaluated (k : ℕ) (Γ : List ℕ) (τ : Table) (ps : List (Answer × Answer)) (s u : State) : Type 0 where
    pub next : s.next ≤ u.next
    pub core : Core B N t u
    pub unbound : Unbound B N t u
    pub agree : Agree B N t k Γ τ u
    pub matched : Matched u u.equations ps

  pushed-equation : {k : ℕ} {Γ : List ℕ} {τ : Table} (s s2 u : State) (a b : Expr) (x y : Answer) (ps : List (Answer × Answer)) → k ≤ s.next → Grew B N t s s2
      → SameBindings B N t s s2 → Core B N t s2 → Unbound B N t s → Agree B N t k Γ τ s → Term B s2.next a → Term B s2.next b → value_of (now t s2) a ≡ x
      → value_of (now t s2) b ≡ y → Equated a b s2 u → Matched s s.equations ps → Evaluated k Γ τ ((x, y) ∷ ps) s u
  pushed-equation {k} {Γ} {τ} s s2 u a b x y ps h g sb c f ag ta tb va vb q m =
      let n : s.next ≤ u.next = omega (arith, g.next, q.next) in
      let n2 : s2.next ≤ u.next = omega (arith, q.next) in
      let same : Keeping s2 u = λ i _ _. ap (λ (ds : List Definition). run t ds i) q.definitions in
      let kept : Keeping s u = λ i b l. ap (λ (ds : List Definition). run t ds i) q.definitions ∙ g.kept i b l in
      let bi : SameBindings B N t s u = record { at = λ i. ap (look_up i) q.bindings ∙ sb.at i } in
      let fa = term-free q.left-tree ta q.left_is in
      let fb = term-free q.right-tree tb q.right_is in
      record {
        next = n;
        core = record {
          provers = q.provers ∙ c.provers;
          above = omega (arith, c.above, q.next);
          valued = subst (λ (ds : List Definition). RunValued t ds) (sym q.definitions) c.valued;
        };
        unbound = unbound-same B N t bi f;
        agree = agree-kept B N t h n kept bi ag;
        matched =
            subst (λ (es : List Equation). Matched u es ((x, y) ∷ ps))
            (sym (q.equations ∙ ap (λ (l : List Equation). record { left = q.left-tree; right = q.right-tree; place = 0 } ∷ l) g.equations)) (
              free_up _ _ n2 q.left-tree fa,
              free_up _ _ n2 q.right-tree fb,
              free-value s2 u same q.left-tree fa ∙ flat-value _ a q.left-tree q.left_is ∙ va,
              free-value s2 u same q.right-tree fb ∙ flat-value _ b q.right-tree q.right_is ∙ vb,
              matched-kept s u n kept s.equations ps m,
            );
      }

  equation-result : {k : ℕ} {Γ : List ℕ} (l : ℕ) (τ : Table) (a b : Expr) (s u : State) (v : Expr) (ps : List (Answer × Answer)) → Scoped B k Γ a
      → Scoped B k Γ b → evaluate l (binary Equal a b) s ≡ gives v u → k ≤ s.next → Core B N t s → Unbound B N t s → Agree B N t k Γ τ s
      → HasValue (value_of τ a) → HasValue (value_of τ b) → Matched s s.equations ps → Evaluated k Γ τ ((value_of τ a, value_of τ b) ∷ ps) s u
  unfolding evaluate step refuse
  equation-result zero τ a b s u v ps p q e h c f ag va vb m = absurd (refused-gives 19 v u e)
  equation-result {k} {Γ} (suc l) τ a b s u v ps p q e h c f ag va vb m =
      bind-case (evaluate l a) _ s v u e λ w s1 first e1.
      bind-case (evaluate l b) _ s1 v u e1 λ w' s2 second e2.
      let r = key B N beyond t elements l Γ k τ a s s1 w va.0 p first h c f ag va.1 in
      let r' = key B N beyond t elements l Γ k τ b s1 s2 w' vb.0 q second (le_trans h r.grew.next) r.core (unbound-same B N t r.bindings f)
      (agree-grew B N t h r.grew r.bindings ag) vb.1 in
      pushed-equation s s2 u w w' (value_of τ a) (value_of τ b) ps h (grew_trans B N t r.grew r'.grew) (bindings-trans B N t r.bindings r'.bindings)
      r'.core f ag (term_up r'.grew.next r.term) r'.term (kept-value B N t r'.grew r.term r.value ∙ sym va.1)
      (r'.value ∙ sym vb.1)
      (equal-back (evaluate l) w w' s2 u v r.term e2) m

  equations-result : {k : ℕ} {Γ : List ℕ} {es : List Expr} (l : ℕ) (τ : Table) (s u : State) (y : Done) (ps : List (Answer × Answer))
      → ScopedEquations B k Γ es → evaluate_exprs l es s ≡ gives y u → k ≤ s.next → Core B N t s → Unbound B N t s → Agree B N t k Γ τ s → EquationsValued τ es
      → Matched s s.equations ps → Evaluated k Γ τ (reverse_aux (sides τ es) ps) s u
  unfolding evaluate_exprs sides sides_of
  equations-result {k} {Γ} l τ s u y ps no_equation e h c f a w m =
      subst (λ (u : State). Evaluated k Γ τ ps s u) (return_back tt y s u e).state
      (record { next = le_refl _; core = c; unbound = f; agree = a; matched = m })
  equations-result {k} {Γ} l τ s u y ps (equation {a = d} {b = d'} p q more) e h c f a w m =
      then-case (evaluate l (binary Equal d d')) _ s y u e λ o s1 first e1.
      let one = equation-result l τ d d' s s1 o ps p q first h c f a w.0 w.1 m in
      let rest = equations-result l τ s1 u y ((value_of τ d, value_of τ d') ∷ ps) more e1 (le_trans h one.next) one.core one.unbound one.agree
      w.2 one.matched in
      record { next = le_trans one.next rest.next; core = rest.core; unbound = rest.unbound; agree = rest.agree; matched = rest.matched }

-- the definitions in their order
abbrev pub InTurnValued : Assignment → List Definition → Type 0
InTurnValued ρ [] = Unit {0}
InTurnValued ρ (d ∷ ds) = HasValue (value ρ d.right) × InTurnValued (update ρ d.id (or_zero (value ρ d.right))) ds

worked-aux : (t : Assignment) (ds es : List Definition) → worked_out (reverse_aux ds es) t ≡ worked_out es (run t ds)
unfolding worked_out run
worked-aux t [] es = refl
worked-aux t (d ∷ ds) es = worked-aux t ds (d ∷ es)

pub worked-reverse : (t : Assignment) (ds : List Definition) → worked_out (reverse ds) t ≡ run t ds
unfolding worked_out
worked-reverse t ds = worked-aux t ds []

valued-aux : (t : Assignment) (ds es : List Definition) → RunValued t ds → InTurnValued (run t ds) es → InTurnValued t (reverse_aux ds es)
unfolding run
valued-aux t [] es v w = w
valued-aux t (d ∷ ds) es v w = valued-aux t ds (d ∷ es) v.1 (v.0, w)

pub in-turn-valued : (t : Assignment) (ds : List Definition) → RunValued t ds → InTurnValued t (reverse ds)
in-turn-valued t ds v = valued-aux t ds [] v tt

flat-sides-aux : (σ : Assignment) (es fs : List Equation) → flat_sides σ (reverse_aux es fs) ≡ reverse_aux (flat_sides σ es) (flat_sides σ fs)
unfolding flat_sides
flat-sides-aux σ [] fs = refl
flat-sides-aux σ (e ∷ es) fs = flat-sides-aux σ es (e ∷ fs)

reverse_twice : {A : Type 0} (xs ys zs : List A) → reverse_aux (reverse_aux xs ys) zs ≡ reverse_aux ys (xs ++ zs)
reverse_twice [] ys zs = refl
reverse_twice (x ∷ xs) ys zs = reverse_twice xs (x ∷ ys) zs

reverse-back : {A : Type 0} (xs : List A) → reverse (reverse xs) ≡ xs
reverse-back xs = reverse_twice xs [] [] ∙ append-nil xs

-- an accepted run
pub flat-path : (f g : FlatModule) → flat f ≡ flat g → f ≡ g
flat-path f g e = cc

refusal-flat : (n : ℕ) (f : FlatModule) → refusal n ≡ flat f → ⊥
refusal-flat n f e = let o : ◌≡◌ {A = ℕ} 0 1 = cc in omega arith

pub record Gave (o : Outcome Done) : Type 0 where
  pub unit-of : Done
  pub state : State
  pub is : o ≡ gives unit-of state

pub gave : (m : Numbered) (o : Outcome Done) (f : FlatModule) → finished m o ≡ flat f → Gave o
unfolding finished
gave m (refused n) f e = absurd (refusal-flat n f e)
gave m (gives y u) f e = record { unit-of = y; state = u; is = refl }

module _ (B : ℕ → Bool) (N : ℕ) (beyond : (x : ℕ) → N ≤ x → B x ≡ false) (t : Assignment) (elements : Elements t) where
  -- what is promised of the flat module f, τ the table behind the module's definitions
  pub record Kept (τ : Table) (es : List Expr) (f : FlatModule) : Type 0 where
    pub no-provers : f.provers ≡ []
    pub in-turn : InTurnValued t f.definitions
    pub same-sides : flat_sides (worked_out f.definitions t) f.equations ≡ sides τ es

  finished-kept : (τ : Table) (es : List Expr) (m : Numbered) (s u : State) (k : ℕ) (Γ : List ℕ) (f : FlatModule) (y : Done)
      → Evaluated B N beyond t elements k Γ τ (reverse (sides τ es)) s u → finished m (gives y u) ≡ flat f → Kept τ es f
  unfolding finished flat_sides
  finished-kept τ es m s u k Γ f y q e = subst (Kept τ es) (flat-path _ f e) (record {
    no-provers = q.core.provers;
    in-turn = in-turn-valued t u.definitions q.core.valued;
    same-sides =
        ap (λ (w : Assignment). flat_sides w (reverse u.equations)) (worked-reverse t u.definitions)
        ∙ flat-sides-aux (run t u.definitions) u.equations []
        ∙ ap reverse (matched-sides B N beyond t elements u u.equations (reverse (sides τ es)) q.matched)
        ∙ reverse-back (sides τ es);
  })

  not-bound : (x i : ℕ) → B i ≡ true → B x ≡ false → eqb x i ≡ false
  not-bound x i h b = ne_eqb x i (λ e. false-true (sym b ∙ ap B e ∙ h))

  begins : (capacity : ℕ) (m : Numbered) → B 0 ≡ true → B 2 ≡ true → B 5 ≡ true → Unbound B N t (begin capacity m)
  unfolding begin look_up
  begins capacity m b0 b2 b5 = record { free = λ x b. simp (not-bound x 0 b0 b, not-bound x 2 b2 b, not-bound x 5 b5 b) }

  -- a plain numbered module that is accepted
  pub evaluated-kept : (l capacity : ℕ) (m : Numbered) (Δ : List ℕ) (f : FlatModule) → m.next ≡ N → B 0 ≡ true → B 2 ≡ true → B 5 ≡ true
      → ScopedDefinitions B N [] m.definitions Δ → ScopedEquations B N Δ m.expressions → DefinitionsValued (table t) m.definitions
      → EquationsValued (Meaning.defined (table t) m.definitions) m.expressions → evaluated_by l capacity m ≡ flat f
      → Kept (Meaning.defined (table t) m.definitions) m.expressions f
  unfolding evaluated_by evaluate_module begin member run
  evaluated-kept l capacity m Δ f nx b0 b2 b5 sd se vd ve e =
      let g = gave m ((evaluate_defs l m.definitions >> evaluate_exprs l m.expressions) (begin capacity m)) f e in
      then-case (evaluate_defs l m.definitions) (evaluate_exprs l m.expressions) (begin capacity m) g.unit-of g.state g.is λ y s1 first e1.
      let start : Core B N t (begin capacity m) = record { provers = refl; above = omega (arith, nx); valued = tt } in
      let own : Agree B N t N [] (table t) (begin capacity m) = record { inside = λ x i. absurd (false-true i); free = λ x b l. refl } in
      let d =
      definitions-result B N beyond t elements l (table t) (begin capacity m) s1 y sd first (omega (arith, nx)) start (begins capacity m b0 b2 b5) own vd in
      let q = equations-result B N beyond t elements l (Meaning.defined (table t) m.definitions) s1 g.state g.unit-of [] se e1 d.core.above
      d.core d.unbound d.agree ve (subst (λ (es : List Equation). Matched B N beyond t elements s1 es []) (sym d.grew.equations) tt) in
      finished-kept (Meaning.defined (table t) m.definitions) m.expressions m s1 g.state N Δ f g.unit-of q (sym (ap (finished m) g.is) ∙ e)
