-- The order of the flat definitions, for a whole plain module.
use mathlib.Core.Path.{◌≡◌, refl, sym, ap, subst, ◌∙◌}
use mathlib.Core.Bool.{Bool, true, false}
use mathlib.Core.List.{List, [], ◌∷◌, reverse, reverse_aux}
use Prim.Native.Nat.{ℕ, zero, suc, ◌<◌, ◌≤◌}
use native.Mathlib.Nat.{le_refl, le_trans}
use native.Mathlib.Omega.{arith}
use native.Mathlib.Decide.{dec_lt}
use lib.Dec.{eqb}
use lib.IntN.{pos}
use borrow.Author.Tests.{ne_eqb}
use Rattle.field.specs.declared.InfixOp.TheVariants.{Equal}
use Rattle.field.proofs.Units.{zero-element}
use Rattle.source.specs.Trees.{Pat, variable_p, Expr, binary, Env, empty}
use Rattle.flat.specs.Trees.{Flat, Definition, Equation, FlatModule, defines}
use Rattle.flat.specs.Rules.{All, Every}
use Rattle.flat.specs.Rules
use Rattle.flat.specs.Meaning.{Assignment, Elements}
use Rattle.numbering.specs.Numbering.{Numbered}
use Rattle.numbering.specs.Inputs.{member}
use Rattle.eval_trees.specs.Environments.{look_up, insert, extended}
use Rattle.eval_trees.specs.State.{State, gives, ◌>>◌, refuse, Done, get, set_bindings}
use Rattle.eval_trees.specs.Evaluation.{evaluate, step, evaluate_binding, evaluate_def, evaluate_defs}
use Rattle.eval_trees.specs.Evaluation.{evaluate_exprs, evaluate_module, begin, flat, finished, evaluated_by}
use Rattle.eval_trees.proofs.Runs.{refused-gives, bind-case, then-case, bind-known, return_back, got, set_back}
use Rattle.eval_trees.proofs.Environments.{insert-same, insert-other}
use Rattle.plain.proofs.Values.{false-true}
use Rattle.plain.proofs.Terms.{Scoped, Term, of_constant, of_variable, of_negate, term_up}
use Rattle.plain.proofs.Modules.{ScopedDefinitions, no_definition, definition, ScopedEquations, no_equation, equation, equal-back, gave, flat-path}
use Rattle.plain.proofs.Order.{Spans, spans-le, defines-head, defines-tail, defines-case, not-true, From, Ordered}
use Rattle.plain.proofs.Order.{OnceInOrder, order, Uses, uses-constant, uses-variable, uses-negate, Input, Tidy, Free}
use Rattle.plain.proofs.Order.{InScope, Alike, tidy-up, free-alike, scope-alike, scope-join, binding-shape, key-order}

pub data SpansDefinitions : ℕ → List (Pat × Expr) → ℕ → Type 0 where
  spans_none : {lo hi : ℕ} → lo ≤ hi → SpansDefinitions lo [] hi
  spans_definition : {lo mid hi x : ℕ} {v : Expr} {ds : List (Pat × Expr)} → Spans lo v mid → mid ≤ x → SpansDefinitions (suc x) ds hi
      → SpansDefinitions lo ((variable_p x, v) ∷ ds) hi

pub data SpansEquations : ℕ → List Expr → ℕ → Type 0 where
  spans_end : {lo hi : ℕ} → lo ≤ hi → SpansEquations lo [] hi
  spans_equation : {lo one two hi : ℕ} {a b : Expr} {es : List Expr} → Spans lo a one → Spans one b two → SpansEquations two es hi
      → SpansEquations lo (binary Equal a b ∷ es) hi

definitions-le : {lo hi : ℕ} {ds : List (Pat × Expr)} → SpansDefinitions lo ds hi → lo ≤ hi
definitions-le (spans_none h) = h
definitions-le (spans_definition a h b) = omega (arith, spans-le a, definitions-le b)

equations-le : {lo hi : ℕ} {es : List Expr} → SpansEquations lo es hi → lo ≤ hi
equations-le (spans_end h) = h
equations-le (spans_equation a b c) = omega (arith, spans-le a, spans-le b, equations-le c)

-- the values do not matter here
no-values : Assignment
no-values i = pos 0

no-elements : Elements no-values
unfolding no-values
no-elements i = zero-element

pub every_map : (Q S : ℕ → Type 0) → ((v : ℕ) → Q v → S v) → (f : Flat) → Every Q f → Every S f
every_map Q S g (Flat.infixed o a b) h = (every_map Q S g a h.0, every_map Q S g b h.1)
every_map Q S g (Flat.negate a) h = every_map Q S g a h
every_map Q S g (Flat.constant c) h = tt
every_map Q S g (Flat.variable v) h = g v h

pub all_map : {A : Type 0} (Q S : A → Type 0) → ((a : A) → Q a → S a) → (xs : List A) → All Q xs → All S xs
all_map Q S g [] h = tt
all_map Q S g (a ∷ xs) h = (g a h.0, all_map Q S g xs h.1)

pub all_both : {A : Type 0} (Q S : A → Type 0) (xs : List A) → All Q xs → All S xs → All (λ a. Q a × S a) xs
all_both Q S [] h k = tt
all_both Q S (a ∷ xs) h k = ((h.0, k.0), all_both Q S xs h.1 k.1)

all-reverse : {A : Type 0} (Q : A → Type 0) (xs ys : List A) → All Q xs → All Q ys → All Q (reverse_aux xs ys)
all-reverse Q [] ys h k = k
all-reverse Q (a ∷ xs) ys h k = all-reverse Q xs (a ∷ ys) h.1 (h.0, k)

-- what a list defines, the other way round
in-back : (x : ℕ) (ds es : List Definition) → defines es x ≡ true → defines (reverse_aux ds es) x ≡ true
in-back x [] es h = h
in-back x (d ∷ ds) es h = in-back x ds (d ∷ es) (defines-tail x d es h)

in-front : (x : ℕ) (ds es : List Definition) → defines ds x ≡ true → defines (reverse_aux ds es) x ≡ true
unfolding defines
in-front x [] es h = absurd (false-true h)
in-front x (d ∷ ds) es h = defines-case x d ds h (λ e. in-back x ds (d ∷ es) (ap (defines (d ∷ es)) e ∙ defines-head d es)) (λ q. in-front x ds (d ∷ es) q)

in_either : {C : Type 0} (x : ℕ) (ds es : List Definition) → defines (reverse_aux ds es) x ≡ true → (defines ds x ≡ true → C) → (defines es x ≡ true → C) → C
in_either x [] es h f g = g h
in_either x (d ∷ ds) es h f g =
    in_either x ds (d ∷ es) h (λ q. f (defines-tail x d ds q)) (λ q. defines-case x d es q (λ e. f (ap (defines (d ∷ ds)) e ∙ defines-head d ds)) g)

-- the lists of a flat module: definitions in order, equations of inputs and what they define, ids below the next one
pub record InOrder (I : ℕ → Type 0) (f : FlatModule) : Type 0 where
  pub no-provers : f.provers ≡ []
  pub definitions : OnceInOrder I [] f.definitions
  pub equations : All (λ e. Every (From I f.definitions) e.left × Every (From I f.definitions) e.right) f.equations
  pub inputs-below : (x : ℕ) → I x → x < f.next
  pub defined-below : (x : ℕ) → defines f.definitions x ≡ true → x < f.next
  pub publics-below : All (λ v. v < f.next) f.publics

module _ (B : ℕ → Bool) (N : ℕ) (beyond : (x : ℕ) → N ≤ x → B x ≡ false) where
  -- both sides of every equation so far: ids that are free and below the next one
  abbrev Drawn : ℕ → ℕ → Type 0
  Drawn n v = (B v ≡ false) × (v < n)

  abbrev Sides : ℕ → Equation → Type 0
  Sides n e = Every (Drawn n) e.left × Every (Drawn n) e.right

  term-drawn : {n : ℕ} {e : Expr} → Term B n e → Uses (Drawn n) e
  term-drawn (of_constant c) = uses-constant
  term-drawn (of_variable f l) = uses-variable (f, l)
  term-drawn (of_negate nc a) = uses-negate (term-drawn a)

  sides-up : (n m : ℕ) → n ≤ m → (es : List Equation) → All (Sides n) es → All (Sides m) es
  sides-up n m l es h = all_map (Sides n) (Sides m) (λ e w. (
    every_map (Drawn n) (Drawn m) (λ v d. (d.0, le_trans d.1 l)) e.left w.0,
    every_map (Drawn n) (Drawn m) (λ v d. (d.0, le_trans d.1 l)) e.right w.1,
  )) es h

  pub record Behind (lo : ℕ) (Γ : List ℕ) (s u : State) : Type 0 where
    pub tidy : Tidy B N beyond lo u
    pub next : s.next ≤ u.next
    pub free : Free B N beyond u
    pub scope : InScope B N beyond Γ u
    pub sides : All (Sides u.next) u.equations

  moved-tidy : (lo : ℕ) (s u : State) → u.next ≡ s.next → u.provers ≡ s.provers → u.definitions ≡ s.definitions
      → Tidy B N beyond lo s → Tidy B N beyond lo u
  moved-tidy lo s u n p d w = record {
    provers = p ∙ w.provers;
    above = omega (arith, w.above);
    limit = λ x i. omega (arith, w.limit x (ap (λ (ds : List Definition). defines ds x) (sym d) ∙ i));
    low = λ x i b. w.low x (ap (λ (ds : List Definition). defines ds x) (sym d) ∙ i) b;
    drawn = λ x l m. ap (λ (ds : List Definition). defines ds x) d ∙ w.drawn x l (omega arith);
    ordered = subst (Ordered (Input B N beyond)) (sym d) w.ordered;
  }

  definitions-shape : {k lo hi : ℕ} {Γ Δ : List ℕ} {ds : List (Pat × Expr)} (l : ℕ) (s u : State) (y : Done) → ScopedDefinitions B k Γ ds Δ
      → SpansDefinitions lo ds hi → hi ≤ N → evaluate_defs l ds s ≡ gives y u → k ≤ s.next → Tidy B N beyond lo s → Free B N beyond s → InScope B N beyond Γ s
      → All (Sides s.next) s.equations → Behind hi Δ s u
  unfolding evaluate_defs evaluate_def extended
  definitions-shape {hi = hi} {Γ = Γ} l s u y no_definition (spans_none m) hn e h c f a tm =
      subst (λ (u : State). Behind hi Γ s u) (return_back tt y s u e).state
      (record { tidy = tidy-up B N beyond m c; next = le_refl _; free = f; scope = a; sides = tm })
  definitions-shape {k} {lo} {hi} {Γ} {Δ} l s u y (definition {x = x} {v = v} {ds = ds} bx p more) (spans_definition {mid = mid} sp mx sq) hn e h c f a tm =
      then-case (evaluate_def l (variable_p x, v)) _ s y u e λ o s2 whole e2.
      bind-case (evaluate_binding (evaluate l) (variable_p x) v empty) _ s o s2 whole λ env s1 first e1.
      let second = bind-known get (λ s. set_bindings (extended env s.bindings)) s1 s1 s1 o s2 (got s1) e1 in
      let b =
      binding-shape B N beyond (evaluate l) (key-order B N beyond l) Γ k lo mid x v s s1 env bx p sp mx (le_trans (definitions-le sq) hn) first h c f a in
      let w = set_back _ s1 o s2 second in
      let bind : s2.bindings ≡ insert x b.term_of s1.bindings = w.bindings ∙ ap (λ (v : Env). extended v s1.bindings) b.new_is in
      let others : (i : ℕ) → (i ≡ x → ⊥) → look_up i s2.bindings ≡ look_up i s.bindings =
      λ i n. ap (look_up i) bind ∙ insert-other x i b.term_of s1.bindings n ∙ b.bindings.at i in
      let n : s.next ≤ s2.next = omega (arith, w.next, b.next) in
      let ti : Tidy B N beyond (suc x) s2 = moved-tidy (suc x) s1 s2 w.next w.provers w.definitions b.tidy in
      let rest =
      definitions-shape l s2 u y more sq hn e2 (le_trans h n) ti (record { free = λ i q. others i (λ z. false-true (sym q ∙ ap B z ∙ bx)) ∙ f.free i q })
      (scope-join B N beyond x b.term_of n (ap (look_up x) bind ∙ insert-same x b.term_of s1.bindings) others
      (term_up (omega (arith, w.next)) b.term) a)
      (subst (All (Sides s2.next)) (sym (w.equations ∙ b.equations)) (sides-up s.next s2.next n s.equations tm)) in
      record { tidy = rest.tidy; next = le_trans n rest.next; free = rest.free; scope = rest.scope; sides = rest.sides }

  -- an equation joins those that were there
  pushed : (n : ℕ) (q : Equation) (es fs gs : List Equation) → gs ≡ q ∷ fs → fs ≡ es → Sides n q → All (Sides n) es → All (Sides n) gs
  pushed n q es fs gs e f h k = subst (All (Sides n)) (sym (e ∙ ap (λ (l : List Equation). q ∷ l) f)) (h, k)

  equation-shape : {k lo one two : ℕ} {Γ : List ℕ} (l : ℕ) (a b : Expr) (s u : State) (v : Expr) → Scoped B k Γ a → Scoped B k Γ b → Spans lo a one
      → Spans one b two → two ≤ N → evaluate l (binary Equal a b) s ≡ gives v u → k ≤ s.next → Tidy B N beyond lo s → Free B N beyond s
      → InScope B N beyond Γ s → All (Sides s.next) s.equations → Behind two Γ s u
  unfolding evaluate step refuse
  equation-shape zero a b s u v p q sp sq hn e h c f g tm = absurd (refused-gives 19 v u e)
  equation-shape {k} {lo} {one} {two} {Γ} (suc l) a b s u v p q sp sq hn e h c f g tm =
      bind-case (evaluate l a) _ s v u e λ w s1 first e1.
      bind-case (evaluate l b) _ s1 v u e1 λ w' s2 second e2.
      let r = key-order B N beyond l Γ k lo one a s s1 w p sp (le_trans (spans-le sq) hn) first h c f g in
      let r' = key-order B N beyond l Γ k one two b s1 s2 w' q sq hn second (le_trans h r.next) r.tidy (free-alike B N beyond r.bindings f)
      (scope-alike B N beyond r.next r.bindings g) in
      let x = equal-back B N beyond no-values no-elements (evaluate l) w w' s2 u v r.term e2 in
      let al : Alike B N beyond s u = record { at = λ i. ap (look_up i) x.bindings ∙ r'.bindings.at i ∙ r.bindings.at i } in
      let n : s.next ≤ u.next = omega (arith, x.next, r.next, r'.next) in
      let ul = term-drawn (term_up (omega (arith, x.next, r'.next)) r.term) in
      let ur = term-drawn (term_up (omega (arith, x.next)) r'.term) in
      record {
        tidy = moved-tidy two s2 u x.next x.provers x.definitions r'.tidy;
        next = n;
        free = free-alike B N beyond al f;
        scope = scope-alike B N beyond n al g;
        sides =
            pushed u.next (record { left = x.left-tree; right = x.right-tree; place = 0 }) s.equations s2.equations u.equations x.equations
            (r'.equations ∙ r.equations)
            (ul.ids x.left-tree x.left_is, ur.ids x.right-tree x.right_is) (sides-up s.next u.next n s.equations tm);
      }

  equations-shape : {k hi : ℕ} {Γ : List ℕ} {lo : ℕ} {es : List Expr} (l : ℕ) (s u : State) (y : Done) → ScopedEquations B k Γ es → SpansEquations lo es hi
      → hi ≤ N → evaluate_exprs l es s ≡ gives y u → k ≤ s.next → Tidy B N beyond lo s → Free B N beyond s → InScope B N beyond Γ s
      → All (Sides s.next) s.equations → Behind hi Γ s u
  unfolding evaluate_exprs
  equations-shape {hi = hi} {Γ = Γ} l s u y no_equation (spans_end m) hn e h c f a tm =
      subst (λ (u : State). Behind hi Γ s u) (return_back tt y s u e).state
      (record { tidy = tidy-up B N beyond m c; next = le_refl _; free = f; scope = a; sides = tm })
  equations-shape l s u y (equation {a = d} {b = d'} p q more) (spans_equation sp sq sr) hn e h c f a tm =
      then-case (evaluate l (binary Equal d d')) _ s y u e λ o s1 first e1.
      let one = equation-shape l d d' s s1 o p q sp sq (le_trans (equations-le sr) hn) first h c f a tm in
      let rest = equations-shape l s1 u y more sr hn e1 (le_trans h one.next) one.tidy one.free one.scope one.sides in
      record { tidy = rest.tidy; next = le_trans one.next rest.next; free = rest.free; scope = rest.scope; sides = rest.sides }

  -- such an id is an input, or was drawn in evaluation and is defined
  drawn-from : {lo : ℕ} (s : State) → Tidy B N beyond lo s → (v : ℕ) → Drawn s.next v → From (Input B N beyond) (reverse s.definitions) v
  drawn-from s w v d n = go (dec_lt v N)
    where
      go : Dec (v < N) → Input B N beyond v
      go (yes h) = (d.0, h)
      go (no h) = absurd (false-true (sym n ∙ in-front v s.definitions [] (w.drawn v (omega arith) d.1)))

  state-order : (m : Numbered) (lo : ℕ) (s : State) → Tidy B N beyond lo s → All (Sides s.next) s.equations → All (λ v. v < N) m.publics
      → InOrder (Input B N beyond)
      (record { next = s.next; publics = m.publics; provers = s.provers; definitions = reverse s.definitions; equations = reverse s.equations })
  unfolding defines
  state-order m lo s w tm pb = record {
    no-provers = w.provers;
    definitions = order (Input B N beyond) s.definitions w.ordered;
    equations = all-reverse _ s.equations []
        (all_map (Sides s.next)
        (λ e. Every (From (Input B N beyond) (reverse s.definitions)) e.left × Every (From (Input B N beyond) (reverse s.definitions)) e.right)
        (λ e h. (every_map _ _ (drawn-from s w) e.left h.0, every_map _ _ (drawn-from s w) e.right h.1)) s.equations tm) tt;
    inputs-below = λ x i. le_trans i.1 w.above;
    defined-below = λ x i. in_either x s.definitions [] i (w.limit x) (λ q. absurd (false-true q));
    publics-below = all_map (λ v. v < N) (λ v. v < s.next) (λ v l. le_trans l w.above) m.publics pb;
  }

  not-bound : (x i : ℕ) → B i ≡ true → B x ≡ false → eqb x i ≡ false
  not-bound x i h b = ne_eqb x i (λ e. false-true (sym b ∙ ap B e ∙ h))

  -- a plain numbered module that is accepted
  pub order-kept : (l capacity lo : ℕ) (m : Numbered) (Δ : List ℕ) (f : FlatModule) {mid : ℕ} → m.next ≡ N → B 0 ≡ true → B 2 ≡ true → B 5 ≡ true
      → ScopedDefinitions B N [] m.definitions Δ → ScopedEquations B N Δ m.expressions → SpansDefinitions lo m.definitions mid
      → SpansEquations mid m.expressions N → All (λ v. v < N) m.publics → evaluated_by l capacity m ≡ flat f → InOrder (Input B N beyond) f
  unfolding evaluated_by evaluate_module begin member finished look_up defines
  order-kept l capacity lo m Δ f nx b0 b2 b5 sd se pd pe pb e =
      let g = gave m ((evaluate_defs l m.definitions >> evaluate_exprs l m.expressions) (begin capacity m)) f e in
      then-case (evaluate_defs l m.definitions) (evaluate_exprs l m.expressions) (begin capacity m) g.unit-of g.state g.is λ y s1 first e1.
      let start : Tidy B N beyond lo (begin capacity m) = record {
        provers = refl;
        above = omega (arith, nx);
        limit = λ x i. absurd (false-true i);
        low = λ x i b. absurd (false-true i);
        drawn = λ x l m. absurd (omega (arith, nx, l, m));
        ordered = tt;
      } in
      let none-bound : Free B N beyond (begin capacity m) = record { free = λ x b. simp (not-bound x 0 b0 b, not-bound x 2 b2 b, not-bound x 5 b5 b) } in
      let d = definitions-shape l (begin capacity m) s1 y sd pd (equations-le pe) first (omega (arith, nx)) start none-bound
      (record { inside = λ x i. absurd (false-true i) }) tt in
      let q = equations-shape l s1 g.state g.unit-of se pe (le_refl N) e1 d.tidy.above d.tidy d.free d.scope d.sides in
      subst (InOrder (Input B N beyond)) (flat-path _ f (sym (ap (finished m) g.is) ∙ e)) (state-order m N g.state q.tidy q.sides pb)

-- in the words of a lent record
module _ (I : ℕ → Type 0) where
  -- what was defined before is not defined again, and no input ever is
  not-later : (v : ℕ) (seen ds : List Definition) → OnceInOrder I seen ds → defines seen v ≡ true → defines ds v ≡ true → ⊥
  unfolding defines
  not-later v seen [] o h k = false-true k
  not-later v seen (d ∷ ds) o h k =
      defines-case v d ds k (λ e. false-true (sym o.0 ∙ ap (defines seen) (sym e) ∙ h)) (λ q. not-later v (d ∷ seen) ds o.3 (defines-tail v d seen h) q)

  pub input-undefined : (v : ℕ) (seen ds : List Definition) → OnceInOrder I seen ds → I v → defines ds v ≡ true → ⊥
  unfolding defines
  input-undefined v seen [] o i k = false-true k
  input-undefined v seen (d ∷ ds) o i k = defines-case v d ds k (λ e. o.1 (subst I e i)) (λ q. input-undefined v (d ∷ seen) ds o.3 i q)

  unused : (v : ℕ) (seen ds : List Definition) → OnceInOrder I seen ds → From I seen v → defines ds v ≡ false
  unused v seen ds o f = not-true (defines ds v) (λ k. go k (defines seen v) refl)
    where
      go : defines ds v ≡ true → (b : Bool) → defines seen v ≡ b → ⊥
      go k true h = not-later v seen ds o h k
      go k false h = input-undefined v seen ds o (f h) k

  pub ordered : (seen ds : List Definition) → OnceInOrder I seen ds → Rules.Ordered ds
  ordered seen [] o = tt
  ordered seen (d ∷ ds) o = (
    not-true (defines ds d.id) (λ k. not-later d.id (d ∷ seen) ds o.3 (defines-head d seen) k),
    every_map (From I seen) (λ v. defines (d ∷ ds) v ≡ false) (λ v f. unused v seen (d ∷ ds) o f) d.right o.2,
    ordered (d ∷ seen) ds o.3,
  )

  -- each right side uses inputs and what the whole list defines
  pub known : (seen ds : List Definition) (whole : ℕ → Bool) → ((v : ℕ) → defines seen v ≡ true → whole v ≡ true)
      → ((v : ℕ) → defines ds v ≡ true → whole v ≡ true) → OnceInOrder I seen ds → All (λ d. Every (λ v. whole v ≡ false → I v) d.right) ds
  known seen [] whole f g o = tt
  known seen (d ∷ ds) whole f g o = (
    every_map (From I seen) (λ v. whole v ≡ false → I v) (λ v q n. q (not-true (defines seen v) (λ h. false-true (sym n ∙ f v h)))) d.right o.2,
    known (d ∷ seen) ds whole (λ v h. defines-case v d seen h (λ e. g v (ap (defines (d ∷ ds)) e ∙ defines-head d ds)) (f v))
        (λ v h. g v (defines-tail v d ds h)) o.3,
  )

  -- ids below a limit
  pub ids-below : (n : ℕ) (whole : ℕ → Bool) → ((v : ℕ) → I v → v < n) → ((v : ℕ) → whole v ≡ true → v < n) → (v : ℕ) → (whole v ≡ false → I v) → v < n
  ids-below n whole f g v h = go (whole v) refl
    where
      go : (b : Bool) → whole v ≡ b → v < n
      go true e = g v e
      go false e = f v (h e)

  pub defined-ids : (ds : List Definition) (n : ℕ) → ((v : ℕ) → defines ds v ≡ true → v < n) → All (λ d. d.id < n) ds
  defined-ids [] n f = tt
  defined-ids (d ∷ ds) n f = (f d.id (defines-head d ds), defined-ids ds n (λ v h. f v (defines-tail v d ds h)))
