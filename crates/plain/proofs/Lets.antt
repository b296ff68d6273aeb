-- Lets and definitions: what a variable pattern binds, what is there after the lets, and the promise at every level.
use mathlib.Core.Path.{◌≡◌, refl, sym, ap, subst, ◌∙◌}
use mathlib.Core.Bool.{Bool, true, false, ◌||◌}
use mathlib.Core.List.{List, [], ◌∷◌}
use mathlib.Core.Option.{Option, none, some}
use Prim.Native.Nat.{ℕ, zero, suc, ◌≤◌}
use native.Mathlib.Nat.{le_trans}
use native.Mathlib.Omega.{arith}
use lib.IntN.{ℤ}
use lib.Dec.{eqb}
use borrow.Author.Tests.{eqb-true, eqb-false}
use Rattle.std.specs.Prelude.{Some}
use Rattle.field.specs.Prime.{P}
use Rattle.field.specs.Element.{elem}
use Rattle.field.proofs.Primality.{P-above}
use Rattle.field.proofs.Elements.{elem-elem}
use Rattle.field.proofs.Answers.{value-path}
use Rattle.source.specs.Trees.{variable_p, Expr, constant, variable, Env, empty, entry}
use Rattle.flat.specs.Trees.{Definition}
use Rattle.flat.specs.Meaning.{Assignment, Elements}
use Rattle.numbering.specs.Inputs.{member}
use Rattle.eval_trees.specs.Environments.{look_up, insert, remove, Options, has_key, to_options, kept, present, oldest}
use Rattle.eval_trees.specs.Forms.{kind, is_number, on_variable}
use Rattle.eval_trees.specs.State.{State, Outcome, gives, Run, after, ◌>>=◌, ◌>>◌, return, refuse, Done, get, refuse_if, make, push_definition, bound}
use Rattle.eval_trees.specs.Expand.{unexpanded, expand_variable, expand_pattern_variables}
use Rattle.eval_trees.specs.Flatten.{defines, flatten_binding}
use Rattle.eval_trees.specs.Match.{True, follow, resolve, match_pattern_expr}
use Rattle.eval_trees.specs.Closures.{exchange_map, capture_env}
use Rattle.eval_trees.specs.Evaluation.{evaluate, step, evaluate_binding, enter_let, finish_lets, let_chain}
use Rattle.eval_trees.proofs.Runs.{refused-gives, gives-value, gives-state, bind-case, then-case, bind-known, return_back, past, same_by, make_same, push-back}
use Rattle.eval_trees.proofs.Environments.{insert-same, insert-other}
use Rattle.eval_trees.proofs.Exchange.{restored, restored-step, Exchanged, exchange-back, binding, one-bound}
use Rattle.plain.specs.Meaning.{Table, write, value_of}
use Rattle.plain.proofs.Values.{false-true, through-back, negated_back, values-back, writing, update_same, update_other, flat-value}
use Rattle.plain.proofs.Terms.{run, RunValued, now, Term, of_constant, of_variable, of_negate, Scoped, s_constant, s_bound, s_free}
use Rattle.plain.proofs.Terms.{s_negate, s_binary, s_let, term_up, term-value, Core, Grew, Unbound, SameBindings, Result, Stands}
use Rattle.plain.proofs.Terms.{Agree, grew_trans, bindings-trans, unbound-same, kept-value, agree-grew, counted, following}
use Rattle.plain.proofs.Steps.{Keeps, grew_by, core-by, infix-result, negate-result, variable-bound, variable-free}

-- a term bound by a variable pattern
module _ {B : ℕ → Bool} {n : ℕ} where
  pub capture-term : {w : Expr} (env : Env) (s : State) → Term B n w → capture_env w env s ≡ gives w s
  unfolding capture_env return
  capture-term env s (of_constant c) = refl
  capture-term env s (of_variable f l) = refl
  capture-term env s (of_negate nc a) = refl

  pub expand-term : {w : Expr} (x : ℕ) (s : State) → Term B n w → expand_pattern_variables (variable_p x) w [] s ≡ gives (variable_p x, ((x, none) ∷ [])) s
  unfolding expand_pattern_variables expand_variable unexpanded refuse_if has_key ◌>>◌ after return
  expand-term x s (of_constant c) = refl
  expand-term x s (of_variable f l) = refl
  expand-term x s (of_negate nc a) = refl

  pub define-term : {w : Expr} (x : ℕ) (s : State) → Term B n w → flatten_binding (variable_p x) w s ≡ push_definition x w s
  unfolding flatten_binding defines is_number kind
  define-term x s (of_constant c) = refl
  define-term x s (of_variable f l) = refl
  define-term x s (of_negate nc a) = refl

  resolve-term : {w : Expr} (k : ℕ) (s : State) → ((x : ℕ) → B x ≡ false → look_up x s.bindings ≡ none) → Term B n w → resolve k w s ≡ gives (w, k) s
  unfolding resolve on_variable bound ◌>>=◌ after get return follow
  resolve-term zero s h (of_constant c) = refl
  resolve-term (suc k) s h (of_constant c) = refl
  resolve-term zero s h (of_variable {x = x} f l) = ap (λ (o : Option Expr). follow (λ v. refuse 19) (variable x) 0 o s) (h x f)
  resolve-term (suc k) s h (of_variable {x = x} f l) = ap (λ (o : Option Expr). follow (resolve k) (variable x) (suc k) o s) (h x f)
  resolve-term zero s h (of_negate nc a) = refl
  resolve-term (suc k) s h (of_negate nc a) = refl

  pub match-term : {w : Expr} (x : ℕ) (ext : Env) (s : State) → ((x : ℕ) → B x ≡ false → look_up x s.bindings ≡ none) → Term B n w
      → match_pattern_expr (variable_p x) w 256 ext s ≡ gives (True, insert x w ext) s
  unfolding match_pattern_expr ◌>>=◌ after return
  match-term {w} x ext s h m = ap (λ (o : Outcome (Expr × ℕ)). after o (λ r. return (True, insert x r.0 ext))) (resolve-term 256 s h m)

module _ (B : ℕ → Bool) (N : ℕ) (beyond : (x : ℕ) → N ≤ x → B x ≡ false) (t : Assignment) (elements : Elements t) where
  -- what evaluate_binding did
  pub record Binds (s u : State) (x : ℕ) (z : ℤ) (new : Env) : Type 0 where
    pub term_of : Expr
    pub new_is : new ≡ entry x term_of empty
    pub grew : Grew B N t s u
    pub core : Core B N t u
    pub bindings : SameBindings B N t s u
    pub term : Term B u.next term_of
    pub value : value_of (now t u) term_of ≡ Some z

  pushed-binds : (s s1 s2 u : State) (x : ℕ) (z : ℤ) (w : Expr) (y : Done) (new : Env) → B x ≡ true → Result B N t s s1 w z → Unbound B N t s
      → push_definition x w s1 ≡ gives y s2 → s2 ≡ u → entry x w empty ≡ new → Binds s u x z new
  pushed-binds s s1 s2 u x z w y new bx r f push st nw =
      let p = push-back x w s1 y s2 push in
      let ge : Grew B N t s1 s2 =
      grew_by B N beyond t elements s1 s2 x p.tree (omega (arith, p.next)) p.definitions p.equations (λ i b l e. false-true (sym b ∙ ap B e ∙ bx)) in
      let co : Core B N t s2 = core-by B N beyond t elements s1 s2 x p.tree z p.provers (omega (arith, p.next)) p.definitions
      (flat-value (run t s1.definitions) w p.tree p.is ∙ r.value) r.core in
      let bi : SameBindings B N t s1 s2 = record { at = λ i. ap (look_up i) p.bindings } in
      subst (λ (u : State). Binds s u x z new) st (record {
        term_of = w;
        new_is = sym nw;
        grew = grew_trans B N t r.grew ge;
        core = co;
        bindings = bindings-trans B N t r.bindings bi;
        term = term_up ge.next r.term;
        value = kept-value B N t ge r.term r.value;
      })

  pub binding-result : (ev : Expr → Run Expr) → Keeps B N t ev → (Γ : List ℕ) (k : ℕ) (τ : Table) (x : ℕ) (v : Expr) (s u : State) (new : Env) (z : ℤ)
      → B x ≡ true → Scoped B k Γ v → evaluate_binding ev (variable_p x) v empty s ≡ gives new u → k ≤ s.next → Core B N t s → Unbound B N t s
      → Agree B N t k Γ τ s → value_of τ v ≡ Some z → Binds s u x z new
  unfolding evaluate_binding present kept insert remove
  binding-result ev ih Γ k τ x v s u new z bx sc e h c f a val =
      bind-case (ev v) _ s new u e λ w s1 first e1.
      let r = ih Γ k τ v s s1 w z sc first h c f a val in
      let f1 = unbound-same B N t r.bindings f in
      let e2 = bind-known (capture_env w empty) _ s1 w s1 new u (capture-term empty s1 r.term) e1 in
      let e3 = bind-known (expand_pattern_variables (variable_p x) w []) _ s1 _ s1 new u (expand-term x s1 r.term) e2 in
      then-case (flatten_binding (variable_p x) w) _ s1 new u e3 λ y s2 third e4.
      let push = sym (define-term x s1 r.term) ∙ third in
      let p = push-back x w s1 y s2 push in
      let e5 = bind-known (match_pattern_expr (variable_p x) w 256 empty) _ s2 _ s2 new u
      (match-term x empty s2 (λ i b. ap (look_up i) p.bindings ∙ f1.free i b) r.term) e4 in
      let b = return_back _ new s2 u e5 in
      pushed-binds s s1 s2 u x z w y new bx r f push b.state b.value

  -- the new id joins the scope: what a table has for it is the value that was bound
  pub joined : {k : ℕ} {Γ : List ℕ} {τ : Table} {s u : State} (x : ℕ) (w : Expr) (z : ℤ) → B x ≡ true → k ≤ s.next → Grew B N t s u
      → look_up x u.bindings ≡ some w → ((y : ℕ) → (y ≡ x → ⊥) → look_up y u.bindings ≡ look_up y s.bindings) → Term B u.next w
      → value_of (now t u) w ≡ Some z → Agree B N t k Γ τ s → Agree B N t k (x ∷ Γ) (writing x (Some z) τ) u
  unfolding member
  joined {k} {Γ} {τ} {s} {u} x w z bx h g found others m val a = record {
    inside = λ y i. go y (eqb y x) refl i;
    free = λ y b l. ap Some (g.kept y b (le_trans l h)) ∙ a.free y b l ∙ sym (update_other τ x (Some z) y (λ e. false-true (sym b ∙ ap B e ∙ bx)));
  }
    where
      go : (y : ℕ) (c : Bool) → eqb y x ≡ c → (c || member y Γ) ≡ true → Stands B N t (writing x (Some z) τ) u y
      go y true c i =
          let q = eqb-true y x c in
          record {
            by = w;
            found = ap (λ (j : ℕ). look_up j u.bindings) q ∙ found;
            term = m;
            value = val ∙ sym (ap (writing x (Some z) τ) q ∙ update_same τ x (Some z));
          }
      go y false c i =
          let q = eqb-false y x c in
          let o = a.inside y i in
          record {
            by = o.by;
            found = others y q ∙ o.found;
            term = term_up g.next o.term;
            value = term-value (run t s.definitions) (run t u.definitions) g.kept o.term ∙ o.value ∙ sym (update_other τ x (Some z) y q);
          }

  -- what entering a let did
  pub record Enters (s u : State) (x : ℕ) (z : ℤ) (acc new : Options) : Type 0 where
    pub term_of : Expr
    pub grew : Grew B N t s u
    pub core : Core B N t u
    pub found : look_up x u.bindings ≡ some term_of
    pub others : (y : ℕ) → (y ≡ x → ⊥) → look_up y u.bindings ≡ look_up y s.bindings
    pub term : Term B u.next term_of
    pub value : value_of (now t u) term_of ≡ Some z
    pub new_is : new ≡ oldest ((x, look_up x s.bindings) ∷ []) acc

  bound-enters : (s s1 u : State) (x : ℕ) (z : ℤ) (acc new : Options) (env : Env) (b : Binds s s1 x z env) → binding s1 x b.term_of ≡ u
      → oldest ((x, look_up x s1.bindings) ∷ []) acc ≡ new → Enters s u x z acc new
  bound-enters s s1 u x z acc new env b st nw = subst (λ (u : State). Enters s u x z acc new) st (record {
    term_of = b.term_of;
    grew = record { next = b.grew.next; equations = b.grew.equations; kept = b.grew.kept };
    core = record { provers = b.core.provers; above = b.core.above; valued = b.core.valued };
    found = insert-same x b.term_of s1.bindings;
    others = λ y n. insert-other x y b.term_of s1.bindings n ∙ b.bindings.at y;
    term = b.term;
    value = b.value;
    new_is = sym nw ∙ ap (λ (o : Option Expr). oldest ((x, o) ∷ []) acc) (b.bindings.at x);
  })

  pub enter-result : (ev : Expr → Run Expr) → Keeps B N t ev → (Γ : List ℕ) (k : ℕ) (τ : Table) (x : ℕ) (v : Expr) (s u : State) (acc new : Options) (z : ℤ)
      → B x ≡ true → Scoped B k Γ v → enter_let ev (variable_p x) v acc s ≡ gives new u → k ≤ s.next → Core B N t s → Unbound B N t s → Agree B N t k Γ τ s
      → value_of τ v ≡ Some z → Enters s u x z acc new
  unfolding enter_let
  enter-result ev ih Γ k τ x v s u acc new z bx sc e h c f a val =
      bind-case (evaluate_binding ev (variable_p x) v empty) _ s new u e λ env s1 first e1.
      let b = binding-result ev ih Γ k τ x v s s1 env z bx sc first h c f a val in
      let e2 = subst (λ (env : Env). (exchange_map (to_options env) >>= (λ old. return (oldest old acc))) s1 ≡ gives new u) b.new_is e1 in
      let e3 =
      bind-known (exchange_map (to_options (entry x b.term_of empty))) (λ old. return (oldest old acc)) s1 _ _ new u (one-bound x b.term_of s1) e2 in
      let g = return_back _ new _ u e3 in
      bound-enters s s1 u x z acc new env b g.state g.value

  -- what the lets of a chain did: all they bound is as it was
  pub record Chain (s u : State) (v : Expr) (z : ℤ) (acc : Options) : Type 0 where
    pub grew : Grew B N t s u
    pub core : Core B N t u
    pub term : Term B u.next v
    pub value : value_of (now t u) v ≡ Some z
    pub back : (y : ℕ) → look_up y u.bindings ≡ restored y acc (look_up y s.bindings)

  exchanged-chain : (s s1 s2 u : State) (v w : Expr) (z : ℤ) (acc : Options) → Result B N t s s1 w z → Exchanged acc s1 s2 → s2 ≡ u → w ≡ v → Chain s u v z acc
  exchanged-chain s s1 s2 u v w z acc r x st vl = subst (λ (u : State). Chain s u v z acc) st (subst (λ (v : Expr). Chain s s2 v z acc) vl (record {
    grew = grew_trans B N t r.grew ge;
    core = record {
      provers = x.provers ∙ r.core.provers;
      above = omega (arith, r.core.above, x.next);
      valued = subst (λ (ds : List Definition). RunValued t ds) (sym x.definitions) r.core.valued;
    };
    term = term_up ge.next r.term;
    value = kept-value B N t ge r.term r.value;
    back = λ y. x.at y ∙ ap (restored y acc) (r.bindings.at y);
  }))
    where
      ge : Grew B N t s1 s2
      ge = record { next = omega (arith, x.next); equations = x.equations; kept = λ y b l. ap (λ (ds : List Definition). run t ds y) x.definitions }

  finish-result : (ev : Expr → Run Expr) (e : Expr) (s u : State) (v : Expr) (z : ℤ) (acc : Options)
      → ((w : Expr) (s1 : State) → ev e s ≡ gives w s1 → Result B N t s s1 w z) → finish_lets ev acc e s ≡ gives v u → Chain s u v z acc
  unfolding finish_lets
  finish-result ev e s u v z acc r h =
      bind-case (ev e) _ s v u h λ w s1 first e1.
      bind-case (exchange_map acc) _ s1 v u e1 λ new s2 second e2.
      let q = r w s1 first in
      let e3 = past _ 16 _ s2 v u e2 in
      let g = sym (capture-term (present new) s2 q.term) ∙ e3 in
      exchanged-chain s s1 s2 u v w z acc q (exchange-back acc s1 new s2 second) (gives-state w v s2 u g) (gives-value w v s2 u g)

  chain-result : (ev : Expr → Run Expr) → Keeps B N t ev
      → {k : ℕ} {Γ : List ℕ} {e : Expr} (τ : Table) (below : Bool) (acc : Options) (s u : State) (v : Expr) (z : ℤ) → Scoped B k Γ e
      → let_chain ev e below acc s ≡ gives v u → k ≤ s.next → Core B N t s → Unbound B N t s → Agree B N t k Γ τ s → value_of τ e ≡ Some z → Chain s u v z acc
  unfolding let_chain value_of write
  chain-result ev ih {k} {Γ} τ below acc s u v z s_constant e h c f a val =
      finish-result ev _ s u v z acc (λ w s1 q. ih Γ k τ _ s s1 w z s_constant q h c f a val) e
  chain-result ev ih {k} {Γ} τ below acc s u v z (s_bound i) e h c f a val =
      finish-result ev _ s u v z acc (λ w s1 q. ih Γ k τ _ s s1 w z (s_bound i) q h c f a val) e
  chain-result ev ih {k} {Γ} τ below acc s u v z (s_free b l) e h c f a val =
      finish-result ev _ s u v z acc (λ w s1 q. ih Γ k τ _ s s1 w z (s_free b l) q h c f a val) e
  chain-result ev ih {k} {Γ} τ below acc s u v z (s_negate p) e h c f a val =
      finish-result ev _ s u v z acc (λ w s1 q. ih Γ k τ _ s s1 w z (s_negate p) q h c f a val) e
  chain-result ev ih {k} {Γ} τ below acc s u v z (s_binary ar p q) e h c f a val =
      finish-result ev _ s u v z acc (λ w s1 g. ih Γ k τ _ s s1 w z (s_binary ar p q) g h c f a val) e
  chain-result ev ih {k} {Γ} τ below acc s u v z (s_let {x = x} {v = d} {b = body} bx p q) e h c f a val =
      bind-case (enter_let ev (variable_p x) d acc) (let_chain ev body true) s v u e λ new s1 first e1.
      let o = through-back (value_of τ d) (λ y. value_of (writing x (Some y) τ) body) z val in
      let n = enter-result ev ih Γ k τ x d s s1 acc new o.at bx p first h c f a o.arg in
      let rest = chain-result ev ih (writing x (Some o.at) τ) true new s1 u v z q e1 (le_trans h n.grew.next) n.core
      (record { free = λ y b. n.others y (λ g. false-true (sym b ∙ ap B g ∙ bx)) ∙ f.free y b })
      (joined x n.term_of o.at bx h n.grew n.found n.others n.term n.value a) o.result in
      record {
        grew = grew_trans B N t n.grew rest.grew;
        core = rest.core;
        term = rest.term;
        value = rest.value;
        back = λ y.
            rest.back y ∙ ap (λ (l : Options). restored y l (look_up y s1.bindings)) n.new_is
            ∙ restored-step x (look_up x s.bindings) acc y (look_up y s.bindings) (look_up y s1.bindings)
            (λ g. ap (λ (i : ℕ). look_up i s.bindings) (sym g)) (n.others y);
      }

  -- one level
  step_keeps : (ev : Expr → Run Expr) → Keeps B N t ev → Keeps B N t (step ev)
  unfolding step value_of restored
  step_keeps ev ih Γ k τ e s u v z sc g h c f a val = go sc g val
    where
      go : {e : Expr} → Scoped B k Γ e → step ev e s ≡ gives v u → value_of τ e ≡ Some z → Result B N t s u v z
      go (s_constant {m = m}) g val =
          then-case (make 1) _ s v u g λ y w first second.
          let b = return_back (constant (elem P m)) v w u second in
          subst (λ (v : Expr). Result B N t s u v z) b.value
          (counted B N t (same_by (make_same 1 s y w first) b.state) c (of_constant (elem-elem P P-above m)) (ap Some (elem-elem P P-above m) ∙ val))
      go (s_bound {x = x} i) g val = variable-bound B N beyond t elements ev τ x s u v z (a.inside x i) val g c
      go (s_free {x = x} b l) g val = variable-free B N beyond t elements ev x s u v z b (le_trans l h) (a.free x b l ∙ val) g c f
      go (s_negate {a = d} p) g val =
          bind-case (ev d) _ s v u g λ w s1 first e1.
          let o = negated_back (value_of τ d) z val in
          let r = ih Γ k τ d s s1 w o.at p first h c f a o.arg in
          following B N t r.grew r.bindings
          (negate-result B N beyond t elements ev s1 u v o.at z r.term r.value (value-path _ z o.result) e1 r.core)
      go (s_binary {o = o} {a = d} {b = e'} ar p q) g val =
          bind-case (ev d) _ s v u g λ w s1 first e1.
          bind-case (ev e') _ s1 v u e1 λ w' s2 second e2.
          let y = values-back o (value_of τ d) (value_of τ e') z val in
          let r = ih Γ k τ d s s1 w y.x p first h c f a y.first in
          let f1 = unbound-same B N t r.bindings f in
          let r' = ih Γ k τ e' s1 s2 w' y.y q second (le_trans h r.grew.next) r.core f1 (agree-grew B N t h r.grew r.bindings a) y.second in
          following B N t (grew_trans B N t r.grew r'.grew) (bindings-trans B N t r.bindings r'.bindings)
          (infix-result B N beyond t elements ev ih o s2 u v y.x y.y z ar (term_up r'.grew.next r.term) r'.term
          (kept-value B N t r'.grew r.term r.value) r'.value y.result e2 r'.core (unbound-same B N t r'.bindings f1))
      go (s_let bx p q) g val =
          let w = chain-result ev ih τ false [] s u v z (s_let bx p q) g h c f a val in
          record { grew = w.grew; core = w.core; bindings = record { at = w.back }; term = w.term; value = w.value }

  -- every level
  pub key : (l : ℕ) → Keeps B N t (evaluate l)
  unfolding evaluate refuse
  key zero = λ Γ k τ e s u v z sc g h c f a val. absurd (refused-gives 19 v u g)
  key (suc l) = step_keeps (evaluate l) (key l)
