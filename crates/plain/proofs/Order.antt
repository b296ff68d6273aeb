-- The order of the flat definitions of a plain module, whatever the values: every id is defined at most once, no input is, and each right side
-- uses only inputs and ids defined before. Numbering gives the binders rising ids in the order in which evaluation meets them.
use mathlib.Core.Path.{◌≡◌, refl, sym, ap, ap₂, subst, ◌∙◌}
use mathlib.Core.Bool.{Bool, true, false, cond, ◌||◌}
use mathlib.Core.List.{List, [], ◌∷◌, reverse, reverse_aux}
use mathlib.Core.Logic.{◌≢◌}
use mathlib.Core.Option.{Option, none, some}
use Prim.Native.Nat.{ℕ, zero, suc, ◌%◌, ◌<◌, ◌≤◌}
use native.Mathlib.Nat.{le_refl, le_trans}
use native.Mathlib.Omega.{arith}
use native.Mathlib.Decide.{dec_lt}
use lib.IntN.{ℤ, pos, negsuc}
use lib.Dec.{eqb}
use borrow.Author.Tests.{eq-eqb, eqb-true, eqb-false}
use Rattle.std.specs.Prelude.{Some, None}
use Rattle.field.specs.declared.InfixOp.{InfixOp}
use Rattle.field.specs.declared.InfixOp.TheVariants.{Divide, DivideZ, Multiply, Add, Subtract, Equal, Exponentiate, IntDivide, Modulo}
use Rattle.field.specs.Prime.{P}
use Rattle.field.specs.Element.{elem}
use Rattle.field.specs.Operations.{opposite, infix_of, Answer}
use Rattle.field.proofs.Primality.{P-prime, P-above}
use Rattle.field.proofs.Elements.{elem-elem}
use Rattle.field.proofs.Answers.{infix-element, opposite-element}
use Rattle.field.proofs.Units.{one-element}
use Rattle.source.specs.Trees.{variable_p, Expr, binary, negate, constant, variable, letting, Env, empty, entry}
use Rattle.flat.specs.Trees.{Flat, Definition, defines}
use Rattle.flat.specs.Rules.{Every}
use Rattle.numbering.specs.Inputs.{member}
use Rattle.eval_trees.specs.Environments.{look_up, insert, remove, Options, to_options, kept, present, oldest}
use Rattle.eval_trees.specs.Forms.{on_constant, flat_of, joined, opposed}
use Rattle.eval_trees.specs.State.{State, gives, Run, after, is_prover, bound, ◌>>=◌, return, refuse, get, make}
use Rattle.eval_trees.specs.Expand.{expand_pattern_variables}
use Rattle.eval_trees.specs.Flatten.{flatten_binding}
use Rattle.eval_trees.specs.Match.{match_pattern_expr}
use Rattle.eval_trees.specs.Closures.{exchange_map, capture_env}
use Rattle.eval_trees.specs.Simplify.{infix_op, is_constant}
use Rattle.eval_trees.specs.Evaluation
use Rattle.eval_trees.specs.Evaluation.{evaluate, step, defined, answered, bound_to, numbers, evaluate_operation, evaluate_power}
use Rattle.eval_trees.specs.Evaluation.{evaluate_infix, evaluate_variable, evaluate_binding, enter_let, finish_lets, let_chain}
use Rattle.eval_trees.proofs.Runs.{refused-gives, gives-value, gives-state, bind-case, then-case, bind-known, return_back}
use Rattle.eval_trees.proofs.Runs.{past, got, Same, same_refl, same-trans, same_by, make_same, push-back}
use Rattle.eval_trees.proofs.Defining.{defined-back}
use Rattle.eval_trees.proofs.Environments.{insert-same, insert-other}
use Rattle.eval_trees.proofs.Exchange.{restored, restored-step, Exchanged, exchange-back, one-bound}
use Rattle.eval_trees.proofs.Helpers.{infix-case}
use Rattle.plain.specs.Plain.{is_arithmetic}
use Rattle.plain.proofs.Values.{false-true, some-path, none-some}
use Rattle.plain.proofs.Terms.{Term, of_constant, of_variable, of_negate, Scoped, s_constant, s_bound}
use Rattle.plain.proofs.Terms.{s_free, s_negate, s_binary, s_let, variable-not, negate-not, term_up, term-scoped, infix-scoped}
use Rattle.plain.proofs.Lets.{capture-term, expand-term, define-term, match-term}

-- the binders of an expression: rising from lo on, below hi
pub data Spans : ℕ → Expr → ℕ → Type 0 where
  spans_constant : {lo hi : ℕ} {n : ℤ} → lo ≤ hi → Spans lo (constant n) hi
  spans_variable : {lo hi x : ℕ} → lo ≤ hi → Spans lo (variable x) hi
  spans_negate : {lo hi : ℕ} {a : Expr} → Spans lo a hi → Spans lo (negate a) hi
  spans_binary : {lo mid hi : ℕ} {o : InfixOp} {a b : Expr} → Spans lo a mid → Spans mid b hi → Spans lo (binary o a b) hi
  spans_let : {lo mid hi x : ℕ} {v b : Expr} → Spans lo v mid → mid ≤ x → Spans (suc x) b hi → Spans lo (letting (variable_p x) v b) hi

pub spans-le : {lo hi : ℕ} {e : Expr} → Spans lo e hi → lo ≤ hi
spans-le (spans_constant h) = h
spans-le (spans_variable h) = h
spans-le (spans_negate a) = spans-le a
spans-le (spans_binary a b) = le_trans (spans-le a) (spans-le b)
spans-le (spans_let a h b) = omega (arith, spans-le a, spans-le b)

-- what defines an id
abbrev pub same : ℕ → Flat → Definition
same i f = record { id = i; right = f; place = 0 }

pub defines-head : (d : Definition) (ds : List Definition) → defines (d ∷ ds) d.id ≡ true
unfolding defines
defines-head d ds = ap (λ (c : Bool). c || defines ds d.id) (eq-eqb d.id d.id refl)

pub defines-tail : (x : ℕ) (d : Definition) (ds : List Definition) → defines ds x ≡ true → defines (d ∷ ds) x ≡ true
unfolding defines
defines-tail x d ds h = go (eqb x d.id)
  where
    go : (c : Bool) → (c || defines ds x) ≡ true
    go true = refl
    go false = h

pub defines-case : {C : Type 0} (x : ℕ) (d : Definition) (ds : List Definition) → defines (d ∷ ds) x ≡ true → (x ≡ d.id → C) → (defines ds x ≡ true → C) → C
unfolding defines
defines-case {C} x d ds h f g = go (eqb x d.id) refl h
  where
    go : (c : Bool) → eqb x d.id ≡ c → (c || defines ds x) ≡ true → C
    go true e h = f (eqb-true x d.id e)
    go false e h = g h

pub not-true : (b : Bool) → (b ≡ true → ⊥) → b ≡ false
not-true true h = absurd (h refl)
not-true false h = refl

-- I says of an id that it is an input's: an input, or defined in a list
abbrev pub From : (ℕ → Type 0) → List Definition → ℕ → Type 0
From I ds v = defines ds v ≡ false → I v

-- definitions, the newest first
abbrev pub Ordered : (ℕ → Type 0) → List Definition → Type 0
Ordered I [] = Unit {0}
Ordered I (d ∷ ds) = (defines ds d.id ≡ false) × (I d.id → ⊥) × Every (From I ds) d.right × Ordered I ds

-- definitions in order, behind those of `seen`
abbrev pub OnceInOrder : (ℕ → Type 0) → List Definition → List Definition → Type 0
OnceInOrder I seen [] = Unit {0}
OnceInOrder I seen (d ∷ ds) = (defines seen d.id ≡ false) × (I d.id → ⊥) × Every (From I seen) d.right × OnceInOrder I (d ∷ seen) ds

order-aux : (I : ℕ → Type 0) (ds es : List Definition) → Ordered I ds → OnceInOrder I ds es → OnceInOrder I [] (reverse_aux ds es)
order-aux I [] es o w = w
order-aux I (d ∷ ds) es o w = order-aux I ds (d ∷ es) o.3 (o.0, o.1, o.2, w)

pub order : (I : ℕ → Type 0) (ds : List Definition) → Ordered I ds → OnceInOrder I [] (reverse ds)
order I ds o = order-aux I ds [] o tt

-- a number whose flat expression has such ids
pub record Uses (Q : ℕ → Type 0) (e : Expr) : Type 0 where
  pub ids : (f : Flat) → flat_of e ≡ some f → Every Q f

pub uses-constant : {Q : ℕ → Type 0} {n : ℤ} → Uses Q (constant n)
unfolding flat_of
uses-constant {Q} = record { ids = λ f h. subst (Every Q) (some-path _ f h) tt }

pub uses-variable : {Q : ℕ → Type 0} {x : ℕ} → Q x → Uses Q (variable x)
unfolding flat_of
uses-variable {Q} q = record { ids = λ f h. subst (Every Q) (some-path _ f h) q }

pub uses-negate : {Q : ℕ → Type 0} {a : Expr} → Uses Q a → Uses Q (negate a)
unfolding flat_of opposed
uses-negate {Q} {a} u = record { ids = λ f h. go f (flat_of a) refl h }
  where
    go : (f : Flat) (o : Option Flat) → flat_of a ≡ o → opposed o ≡ some f → Every Q f
    go f none q h = absurd (none-some f h)
    go f (some g) q h = subst (Every Q) (some-path _ f h) (u.ids g q)

uses-binary : {Q : ℕ → Type 0} {a b : Expr} (o : InfixOp) → Uses Q a → Uses Q b → Uses Q (binary o a b)
unfolding flat_of joined
uses-binary {Q} {a} {b} o u v = record { ids = λ f h. go f (flat_of a) (flat_of b) refl refl h }
  where
    go : (f : Flat) (x y : Option Flat) → flat_of a ≡ x → flat_of b ≡ y → joined o x y ≡ some f → Every Q f
    go f none y p q h = absurd (none-some f h)
    go f (some g) none p q h = absurd (none-some f h)
    go f (some g) (some k) p q h = subst (Every Q) (some-path _ f h) (u.ids g p, v.ids k q)

infix-uses : {Q : ℕ → Type 0} {a b : Expr} (o : InfixOp) → Uses Q a → Uses Q b → Uses Q (infix_op o a b).0
infix-uses {Q} {a} {b} o p q = infix-case (Uses Q) o a b p q uses-constant (uses-binary o p q)

-- expressions made of terms have no binders
infix-spans : {n : ℕ} {a b : Expr} (o : InfixOp) → Spans n a n → Spans n b n → Spans n (infix_op o a b).0 n
infix-spans {n} {a} {b} o p q = infix-case (λ e. Spans n e n) o a b p q (spans_constant (le_refl n)) (spans_binary p q)

term-spans : {B : ℕ → Bool} {n : ℕ} {e : Expr} (m : ℕ) → Term B n e → Spans m e m
term-spans m (of_constant c) = spans_constant (le_refl m)
term-spans m (of_variable f l) = spans_variable (le_refl m)
term-spans m (of_negate nc a) = spans_negate (term-spans m a)

module _ (B : ℕ → Bool) (N : ℕ) (beyond : (x : ℕ) → N ≤ x → B x ≡ false) where
  abbrev pub Input : ℕ → Type 0
  Input x = (B x ≡ false) × (x < N)

  -- the state is in order: the binders defined are below lo
  pub record Tidy (lo : ℕ) (s : State) : Type 0 where
    pub provers : s.provers ≡ []
    pub above : N ≤ s.next
    pub limit : (x : ℕ) → defines s.definitions x ≡ true → x < s.next
    pub low : (x : ℕ) → defines s.definitions x ≡ true → B x ≡ true → x < lo
    pub drawn : (x : ℕ) → N ≤ x → x < s.next → defines s.definitions x ≡ true
    pub ordered : Ordered Input s.definitions

  pub record Free (s : State) : Type 0 where
    pub free : (x : ℕ) → B x ≡ false → look_up x s.bindings ≡ none

  pub record Stands (s : State) (x : ℕ) : Type 0 where
    pub by : Expr
    pub found : look_up x s.bindings ≡ some by
    pub term : Term B s.next by

  pub record InScope (Γ : List ℕ) (s : State) : Type 0 where
    pub inside : (x : ℕ) → member x Γ ≡ true → Stands s x

  pub record Alike (s u : State) : Type 0 where
    pub at : (x : ℕ) → look_up x u.bindings ≡ look_up x s.bindings

  pub record Shape (lo : ℕ) (s u : State) (v : Expr) : Type 0 where
    pub tidy : Tidy lo u
    pub next : s.next ≤ u.next
    pub bindings : Alike s u
    pub equations : u.equations ≡ s.equations
    pub term : Term B u.next v

  pub tidy-same : {lo : ℕ} {s u : State} → Same s u → Tidy lo s → Tidy lo u
  tidy-same {lo} {s} {u} h w = record {
    provers = h.provers ∙ w.provers;
    above = omega (arith, h.next, w.above);
    limit = λ x i. omega (arith, h.next, w.limit x (ap (λ (ds : List Definition). defines ds x) (sym h.definitions) ∙ i));
    low = λ x i b. w.low x (ap (λ (ds : List Definition). defines ds x) (sym h.definitions) ∙ i) b;
    drawn = λ x l m. ap (λ (ds : List Definition). defines ds x) h.definitions ∙ w.drawn x l (omega (arith, h.next));
    ordered = subst (Ordered Input) (sym h.definitions) w.ordered;
  }

  pub tidy-up : {lo hi : ℕ} {s : State} → lo ≤ hi → Tidy lo s → Tidy hi s
  tidy-up h w =
      record { provers = w.provers; above = w.above; limit = w.limit; low = λ x i b. le_trans (w.low x i b) h; drawn = w.drawn; ordered = w.ordered }

  pub alike_same : {s u : State} → Same s u → Alike s u
  alike_same h = record { at = λ x. ap (look_up x) h.bindings }

  pub alike-trans : {s u w : State} → Alike s u → Alike u w → Alike s w
  alike-trans a b = record { at = λ x. b.at x ∙ a.at x }

  pub free-alike : {s u : State} → Alike s u → Free s → Free u
  free-alike a f = record { free = λ x b. a.at x ∙ f.free x b }

  pub scope-alike : {Γ : List ℕ} {s u : State} → s.next ≤ u.next → Alike s u → InScope Γ s → InScope Γ u
  scope-alike n a i = record { inside = λ x h. let w = i.inside x h in record { by = w.by; found = a.at x ∙ w.found; term = term_up n w.term } }

  counted : {lo : ℕ} {s u : State} {v : Expr} → Same s u → Tidy lo s → Term B s.next v → Shape lo s u v
  counted {lo} {s} {u} h w m = record {
    tidy = tidy-same h w;
    next = omega (arith, h.next);
    bindings = alike_same h;
    equations = h.equations;
    term = term_up (omega (arith, h.next)) m;
  }

  following : {lo : ℕ} {s u w : State} {v : Expr} → s.next ≤ u.next → Alike s u → u.equations ≡ s.equations → Shape lo u w v → Shape lo s w v
  following n a q r =
      record { tidy = r.tidy; next = le_trans n r.next; bindings = alike-trans a r.bindings; equations = r.equations ∙ q; term = r.term }

  renamed : {lo : ℕ} {s u : State} {v w : Expr} → v ≡ w → Shape lo s u v → Shape lo s u w
  renamed {lo} {s} {u} e r = subst (Shape lo s u) e r

  -- a term uses inputs and defined ids
  pub term-uses : {lo : ℕ} {s : State} {e : Expr} → Tidy lo s → Term B s.next e → Uses (From Input s.definitions) e
  term-uses w (of_constant c) = uses-constant
  term-uses {lo} {s} w (of_variable {x = x} f l) = uses-variable (go (dec_lt x N))
    where
      go : Dec (x < N) → From Input s.definitions x
      go (yes h) n = (f, h)
      go (no h) n = absurd (false-true (sym n ∙ w.drawn x (omega arith) l))
  term-uses w (of_negate nc a) = uses-negate (term-uses w a)

  -- a definition is pushed: of a binder from lo on, or of the id just drawn
  pushed-tidy : (lo hi : ℕ) (s u : State) (i : ℕ) (f : Flat) → Tidy lo s → lo ≤ hi → u.provers ≡ s.provers → s.next ≤ u.next
      → u.definitions ≡ same i f ∷ s.definitions → i < u.next → (B i ≡ true → i < hi) → (defines s.definitions i ≡ true → ⊥) → (Input i → ⊥)
      → ((x : ℕ) → N ≤ x → x < u.next → (x ≡ i → ⊥) → x < s.next) → Every (From Input s.definitions) f → Tidy hi u
  pushed-tidy lo hi s u i f w h p n d l b new ni dr us = record {
    provers = p ∙ w.provers;
    above = le_trans w.above n;
    limit = λ x q.
        defines-case x (same i f) s.definitions (ap (λ (ds : List Definition). defines ds x) (sym d) ∙ q) (λ z. omega arith)
        (λ z. le_trans (w.limit x z) n);
    low = λ x q c.
        defines-case x (same i f) s.definitions (ap (λ (ds : List Definition). defines ds x) (sym d) ∙ q) (λ z. omega (arith, z, b (ap B (sym z) ∙ c)))
        (λ z. le_trans (w.low x z c) h);
    drawn = λ x q m. ap (λ (ds : List Definition). defines ds x) d ∙ go x q m (eqb x i) refl;
    ordered = subst (Ordered Input) (sym d) (not-true (defines s.definitions i) new, ni, us, w.ordered);
  }
    where
      go : (x : ℕ) → N ≤ x → x < u.next → (c : Bool) → eqb x i ≡ c → defines (same i f ∷ s.definitions) x ≡ true
      go x q m true c = ap (defines (same i f ∷ s.definitions)) (eqb-true x i c) ∙ defines-head (same i f) s.definitions
      go x q m false c = defines-tail x (same i f) s.definitions (w.drawn x q (dr x q m (eqb-false x i c)))

  new-definition : (lo : ℕ) (e : Expr) (f : Flat) (s u : State) (v : Expr) (i : ℕ) → v ≡ variable i → i ≡ s.next → u.next ≡ suc s.next
      → u.bindings ≡ s.bindings → u.provers ≡ s.provers → u.definitions ≡ same i f ∷ s.definitions → u.equations ≡ s.equations → Tidy lo s
      → flat_of e ≡ some f → Uses (From Input s.definitions) e → Shape lo s u v
  new-definition lo e f s u v i w j n b p d q ti is us = record {
    tidy =
        pushed-tidy lo lo s u i f ti (le_refl lo) p (omega arith) d (omega arith) (λ q. absurd (false-true (sym (beyond i (omega (arith, ti.above))) ∙ q)))
        (λ q. omega (arith, ti.limit i q)) (λ q. omega (arith, q.1, ti.above)) (λ x q m z. omega (arith, m, n, j, ne-next x i z)) (us.ids f is);
    next = omega arith;
    bindings = record { at = λ x. ap (look_up x) b };
    equations = q;
    term = subst (Term B u.next) (sym w) (of_variable (beyond i (omega (arith, ti.above))) (omega arith));
  }
    where
      ne-next : (x i : ℕ) → (x ≡ i → ⊥) → x ≢ i
      ne-next x i z = z

  defined-shape : (ev : Expr → Run Expr) (lo : ℕ) (r : Expr × ℕ) (s u : State) (v : Expr) → defined ev r s ≡ gives v u → Tidy lo s
      → Uses (From Input s.definitions) r.0 → Shape lo s u v
  defined-shape ev lo r s u v e c h =
      let d = defined-back ev r s u v e in
      new-definition lo r.0 d.tree s u v d.id d.value d.drawn d.next d.bindings d.provers d.definitions d.equations c d.is h

  answered_shape : (ev : Expr → Run Expr) (lo : ℕ) (w : Answer) (s u : State) (v : Expr) → ((z : ℤ) → w ≡ Some z → elem P z ≡ z) → answered ev w s ≡ gives v u
      → Tidy lo s → Shape lo s u v
  unfolding answered refuse
  answered_shape ev lo None s u v h e c = absurd (refused-gives 17 v u e)
  answered_shape ev lo (Some n) s u v h e c =
      then-case (make 1) _ s v u e λ x w first second.
      let b = return_back (constant n) v w u second in
      renamed b.value (counted (same_by (make_same 1 s x w first) b.state) c (of_constant (h n refl)))

  operation-shape : (ev : Expr → Run Expr) (lo : ℕ) (o : InfixOp) {a b : Expr} (s u : State) (v : Expr) → Term B s.next a → Term B s.next b
      → evaluate_operation ev o a b s ≡ gives v u → Tidy lo s → Shape lo s u v
  unfolding evaluate_operation on_constant
  operation-shape ev lo o s u v (of_constant {m = m} ca) (of_constant {m = n} cb) e k =
      answered_shape ev lo (infix_of P o m n) s u v (infix-element P P-prime o m n) e k
  operation-shape ev lo o s u v (of_constant ca) (of_variable fb lb) e k =
      defined-shape ev lo _ s u v e k (infix-uses o (term-uses k (of_constant ca)) (term-uses k (of_variable fb lb)))
  operation-shape ev lo o s u v (of_constant ca) (of_negate nc tb) e k =
      defined-shape ev lo _ s u v e k (infix-uses o (term-uses k (of_constant ca)) (term-uses k (of_negate nc tb)))
  operation-shape ev lo o s u v (of_variable fa la) tb e k = defined-shape ev lo _ s u v e k (infix-uses o (term-uses k (of_variable fa la)) (term-uses k tb))
  operation-shape ev lo o s u v (of_negate nc ta) tb e k = defined-shape ev lo _ s u v e k (infix-uses o (term-uses k (of_negate nc ta)) (term-uses k tb))

  -- what evaluates at one level less keeps the order
  abbrev pub KeepsOrder : (Expr → Run Expr) → Type 0
  KeepsOrder ev =
      (Γ : List ℕ) (k lo hi : ℕ) (e : Expr) (s u : State) (v : Expr) → Scoped B k Γ e → Spans lo e hi → hi ≤ N → ev e s ≡ gives v u → k ≤ s.next → Tidy lo s
      → Free s → InScope Γ s → Shape hi s u v

  made-shape : (ev : Expr → Run Expr) → KeepsOrder ev → (lo : ℕ) (e : Expr) (s u : State) (v : Expr) → lo ≤ N → Scoped B s.next [] e → Spans lo e lo
      → ev e s ≡ gives v u → Tidy lo s → Free s → Shape lo s u v
  unfolding member
  made-shape ev ih lo e s u v l sc sp h c f = ih [] s.next lo lo e s u v sc sp l h (le_refl _) c f (record { inside = λ x i. absurd (false-true i) })

  whole-scoped : {n : ℕ} {a r : Expr} (c : Bool) → Term B n a → Term B n r
      → Scoped B n [] (cond c (infix_op Multiply (infix_op Multiply r r).0 a) ((infix_op Multiply r r).0, 0)).0
  unfolding is_arithmetic
  whole-scoped true p q = infix-scoped Multiply refl (infix-scoped Multiply refl (term-scoped q) (term-scoped q)) (term-scoped p)
  whole-scoped false p q = infix-scoped Multiply refl (term-scoped q) (term-scoped q)

  whole-spans : {n : ℕ} {a r : Expr} (m : ℕ) (c : Bool) → Term B n a → Term B n r
      → Spans m (cond c (infix_op Multiply (infix_op Multiply r r).0 a) ((infix_op Multiply r r).0, 0)).0 m
  whole-spans m true p q = infix-spans Multiply (infix-spans Multiply (term-spans m q) (term-spans m q)) (term-spans m p)
  whole-spans m false p q = infix-spans Multiply (term-spans m q) (term-spans m q)

  power-shape : (ev : Expr → Run Expr) → KeepsOrder ev → (lo : ℕ) → lo ≤ N → {a : Expr} (n : ℤ) (s u : State) (v : Expr) → Term B s.next a
      → Evaluation.power ev a n s ≡ gives v u → Tidy lo s → Free s → Shape lo s u v
  unfolding Evaluation.power infix_op is_constant on_constant is_arithmetic
  power-shape ev ih lo ll (pos zero) s u v ta e k f =
      then-case (make 1) _ s v u e λ y w first second.
      let b = return_back (constant (pos 1)) v w u second in
      renamed b.value (counted (same_by (make_same 1 s y w first) b.state) k (of_constant one-element))
  power-shape ev ih lo ll (pos (suc zero)) s u v ta e k f =
      let b = return_back _ v s u e in
      renamed b.value (counted (same_by (same_refl s) b.state) k ta)
  power-shape ev ih lo ll {a = a} (pos (suc (suc n))) s u v ta e k f =
      then-case (make 2) _ s v u (past _ 31 _ s v u (bind-known get _ s s s v u (got s) e)) λ y2 s2 second e2.
      bind-case (ev _) _ s2 v u e2 λ r s3 third e3.
      then-case (make _) _ s3 v u e3 λ y4 s4 fourth e4.
      then-case (make _) _ s4 v u e4 λ y5 s5 fifth e5.
      let m2 = make_same 2 s y2 s2 second in
      let t2 : Term B s2.next a = term_up (omega (arith, m2.next)) ta in
      let f2 = free-alike (alike_same m2) f in
      let one : Shape lo s2 s3 r = made-shape ev ih lo _ s2 s3 r ll (s_binary refl (term-scoped t2) s_constant)
      (spans_binary (term-spans lo t2) (spans_constant (le_refl lo))) third (tidy-same m2 k) f2 in
      let m5 = same-trans (make_same _ s3 y4 s4 fourth) (make_same _ s4 y5 s5 fifth) in
      let t5 : Term B s5.next a = term_up (omega (arith, m5.next, one.next)) t2 in
      let r5 : Term B s5.next r = term_up (omega (arith, m5.next)) one.term in
      let b5 = alike-trans one.bindings (alike_same m5) in
      following (omega (arith, m2.next, m5.next, one.next)) (alike-trans (alike_same m2) b5) (m5.equations ∙ one.equations ∙ m2.equations)
      (made-shape ev ih lo _ s5 u v ll (whole-scoped (eqb (suc (suc n) % 2) 1) t5 r5) (whole-spans lo (eqb (suc (suc n) % 2) 1) t5 r5) e5
      (tidy-same m5 one.tidy) (free-alike b5 f2))
  power-shape ev ih lo ll {a = a} (negsuc n) s u v ta e k f =
      then-case (make 3) _ s v u e λ y1 s1 first e1.
      then-case (make _) _ s1 v u e1 λ y2 s2 second e2.
      let m2 = same-trans (make_same 3 s y1 s1 first) (make_same _ s1 y2 s2 second) in
      let t2 : Term B s2.next a = term_up (omega (arith, m2.next)) ta in
      following (omega (arith, m2.next)) (alike_same m2) m2.equations
      (made-shape ev ih lo (binary Divide (constant (pos 1)) (binary Exponentiate a (constant (pos (suc n))))) s2 u v ll (s_binary refl s_constant
      (s_binary refl (term-scoped t2) s_constant))
      (spans_binary (spans_constant (le_refl lo)) (spans_binary (term-spans lo t2) (spans_constant (le_refl lo)))) e2
      (tidy-same m2 k) (free-alike (alike_same m2) f))

  power-infix : (ev : Expr → Run Expr) → KeepsOrder ev → (lo : ℕ) → lo ≤ N → {a b : Expr} (s u : State) (v : Expr) → Term B s.next a → Term B s.next b
      → evaluate_power ev a b s ≡ gives v u → Tidy lo s → Free s → Shape lo s u v
  unfolding evaluate_power on_constant refuse
  power-infix ev ih lo ll s u v (of_constant {m = m} ca) (of_constant {m = n} cb) e k f =
      answered_shape ev lo (infix_of P Exponentiate m n) s u v (infix-element P P-prime Exponentiate m n) e k
  power-infix ev ih lo ll s u v (of_variable fa la) (of_constant {m = n} cb) e k f = power-shape ev ih lo ll n s u v (of_variable fa la) e k f
  power-infix ev ih lo ll s u v (of_negate nc ta) (of_constant {m = n} cb) e k f = power-shape ev ih lo ll n s u v (of_negate nc ta) e k f
  power-infix ev ih lo ll s u v ta (of_variable fb lb) e k f = absurd (refused-gives 11 v u e)
  power-infix ev ih lo ll s u v ta (of_negate nc tb) e k f = absurd (refused-gives 11 v u e)

  infix-shape : (ev : Expr → Run Expr) → KeepsOrder ev → (lo : ℕ) → lo ≤ N → (o : InfixOp) {a b : Expr} (s u : State) (v : Expr) → is_arithmetic o ≡ true
      → Term B s.next a → Term B s.next b → evaluate_infix ev o a b s ≡ gives v u → Tidy lo s → Free s → Shape lo s u v
  unfolding evaluate_infix numbers is_arithmetic
  infix-shape ev ih lo ll Divide s u v ar ta tb e k f = operation-shape ev lo Divide s u v ta tb (past _ 18 _ s v u e) k
  infix-shape ev ih lo ll DivideZ s u v ar ta tb e k f = operation-shape ev lo DivideZ s u v ta tb (past _ 18 _ s v u e) k
  infix-shape ev ih lo ll Multiply s u v ar ta tb e k f = operation-shape ev lo Multiply s u v ta tb (past _ 18 _ s v u e) k
  infix-shape ev ih lo ll Add s u v ar ta tb e k f = operation-shape ev lo Add s u v ta tb (past _ 18 _ s v u e) k
  infix-shape ev ih lo ll Subtract s u v ar ta tb e k f = operation-shape ev lo Subtract s u v ta tb (past _ 18 _ s v u e) k
  infix-shape ev ih lo ll IntDivide s u v ar ta tb e k f = operation-shape ev lo IntDivide s u v ta tb (past _ 18 _ s v u e) k
  infix-shape ev ih lo ll Modulo s u v ar ta tb e k f = operation-shape ev lo Modulo s u v ta tb (past _ 18 _ s v u e) k
  infix-shape ev ih lo ll Equal s u v ar ta tb e k f = absurd (false-true ar)
  infix-shape ev ih lo ll Exponentiate s u v ar ta tb e k f = power-infix ev ih lo ll s u v ta tb (past _ 18 _ s v u e) k f

  negated-term : {n : ℕ} {a : Expr} → Term B n a → Term B n (on_constant a (λ m. constant (opposite P m)) (negate a))
  unfolding on_constant
  negated-term (of_constant {m = m} c) = of_constant (opposite-element P P-prime m)
  negated-term (of_variable f l) = of_negate variable-not (of_variable f l)
  negated-term (of_negate nc a) = of_negate negate-not (of_negate nc a)

  negate-shape : (ev : Expr → Run Expr) (lo : ℕ) {a : Expr} (s u : State) (v : Expr) → Term B s.next a → Evaluation.negated ev a s ≡ gives v u
      → Tidy lo s → Shape lo s u v
  unfolding Evaluation.negated
  negate-shape ev lo s u v ta e k =
      then-case (make 1) _ s v u (past _ 18 _ s v u e) λ y w first second.
      let b = return_back _ v w u second in
      renamed b.value (counted (same_by (make_same 1 s y w first) b.state) k (negated-term ta))

  looked-up : (ev : Expr → Run Expr) (x : ℕ) (s : State) → evaluate_variable ev x s ≡ gives (bound_to ev x (member x s.provers) (look_up x s.bindings)) s
  unfolding evaluate_variable bound is_prover get ◌>>=◌ after return
  looked-up ev x s = refl

  variable-shape : (ev : Expr → Run Expr) (lo x : ℕ) (s u : State) (v w : Expr) (o : Option Expr) → look_up x s.bindings ≡ o → bound_to ev x false o ≡ w
      → Term B s.next w → evaluate_variable ev x s ≡ gives v u → Tidy lo s → Shape lo s u v
  unfolding member
  variable-shape ev lo x s u v w o q z m e k =
      let g = sym (looked-up ev x s) ∙ e in
      renamed (sym z ∙ sym (ap₂ (bound_to ev x) (ap (member x) k.provers) q) ∙ gives-value _ v s u g)
      (counted (same_by (same_refl s) (gives-state _ v s u g)) k m)

  -- evaluate_binding at a variable pattern
  pub record BindsOrder (s u : State) (x : ℕ) (new : Env) : Type 0 where
    pub term_of : Expr
    pub new_is : new ≡ entry x term_of empty
    pub tidy : Tidy (suc x) u
    pub next : s.next ≤ u.next
    pub equations : u.equations ≡ s.equations
    pub bindings : Alike s u
    pub term : Term B u.next term_of

  pub binding-shape : (ev : Expr → Run Expr) → KeepsOrder ev → (Γ : List ℕ) (k lo mid x : ℕ) (v : Expr) (s u : State) (new : Env) → B x ≡ true
      → Scoped B k Γ v → Spans lo v mid → mid ≤ x → x < N → evaluate_binding ev (variable_p x) v empty s ≡ gives new u → k ≤ s.next → Tidy lo s → Free s
      → InScope Γ s → BindsOrder s u x new
  unfolding evaluate_binding present kept insert remove
  binding-shape ev ih Γ k lo mid x v s u new bx sc sp mx xn e h c f a =
      bind-case (ev v) _ s new u e λ w s1 first e1.
      let r = ih Γ k lo mid v s s1 w sc sp (omega arith) first h c f a in
      let f1 = free-alike r.bindings f in
      let e2 = bind-known (capture_env w empty) _ s1 w s1 new u (capture-term empty s1 r.term) e1 in
      let e3 = bind-known (expand_pattern_variables (variable_p x) w []) _ s1 _ s1 new u (expand-term x s1 r.term) e2 in
      then-case (flatten_binding (variable_p x) w) _ s1 new u e3 λ y s2 third e4.
      let p = push-back x w s1 y s2 (sym (define-term x s1 r.term) ∙ third) in
      let e5 = bind-known (match_pattern_expr (variable_p x) w 256 empty) _ s2 _ s2 new u
      (match-term x empty s2 (λ i b. ap (look_up i) p.bindings ∙ f1.free i b) r.term) e4 in
      let b = return_back _ new s2 u e5 in
      subst (λ (u : State). BindsOrder s u x new) b.state (record {
        term_of = w;
        new_is = sym b.value;
        tidy =
            pushed-tidy mid (suc x) s1 s2 x p.tree r.tidy (omega arith) p.provers (omega (arith, p.next)) p.definitions
            (omega (arith, p.next, r.tidy.above)) (λ q. omega arith) (λ q. omega (arith, r.tidy.low x q bx)) (λ q. false-true (sym q.0 ∙ bx))
            (λ i q m z. omega (arith, p.next, m)) ((term-uses r.tidy r.term).ids p.tree p.is);
        next = omega (arith, p.next, r.next);
        equations = p.equations ∙ r.equations;
        bindings = alike-trans r.bindings (record { at = λ i. ap (look_up i) p.bindings });
        term = term_up (omega (arith, p.next)) r.term;
      })

  pub scope-join : {Γ : List ℕ} {s u : State} (x : ℕ) (w : Expr) → s.next ≤ u.next → look_up x u.bindings ≡ some w
      → ((y : ℕ) → (y ≡ x → ⊥) → look_up y u.bindings ≡ look_up y s.bindings) → Term B u.next w → InScope Γ s → InScope (x ∷ Γ) u
  unfolding member
  scope-join {Γ} {s} {u} x w n found others m a = record { inside = λ y i. go y (eqb y x) refl i }
    where
      go : (y : ℕ) (c : Bool) → eqb y x ≡ c → (c || member y Γ) ≡ true → Stands u y
      go y true c i = record { by = w; found = ap (λ (j : ℕ). look_up j u.bindings) (eqb-true y x c) ∙ found; term = m }
      go y false c i = let o = a.inside y i in record { by = o.by; found = others y (eqb-false y x c) ∙ o.found; term = term_up n o.term }

  pub record EntersOrder (s u : State) (x : ℕ) (acc new : Options) : Type 0 where
    pub term_of : Expr
    pub tidy : Tidy (suc x) u
    pub next : s.next ≤ u.next
    pub equations : u.equations ≡ s.equations
    pub found : look_up x u.bindings ≡ some term_of
    pub others : (y : ℕ) → (y ≡ x → ⊥) → look_up y u.bindings ≡ look_up y s.bindings
    pub term : Term B u.next term_of
    pub new_is : new ≡ oldest ((x, look_up x s.bindings) ∷ []) acc

  enter-shape : (ev : Expr → Run Expr) → KeepsOrder ev → (Γ : List ℕ) (k lo mid x : ℕ) (v : Expr) (s u : State) (acc new : Options) → B x ≡ true
      → Scoped B k Γ v → Spans lo v mid → mid ≤ x → x < N → enter_let ev (variable_p x) v acc s ≡ gives new u → k ≤ s.next → Tidy lo s → Free s → InScope Γ s
      → EntersOrder s u x acc new
  unfolding enter_let
  enter-shape ev ih Γ k lo mid x v s u acc new bx sc sp mx xn e h c f a =
      bind-case (evaluate_binding ev (variable_p x) v empty) _ s new u e λ env s1 first e1.
      let b = binding-shape ev ih Γ k lo mid x v s s1 env bx sc sp mx xn first h c f a in
      let e2 = subst (λ (env : Env). (exchange_map (to_options env) >>= (λ old. return (oldest old acc))) s1 ≡ gives new u) b.new_is e1 in
      let e3 =
      bind-known (exchange_map (to_options (entry x b.term_of empty))) (λ old. return (oldest old acc)) s1 _ _ new u (one-bound x b.term_of s1) e2 in
      let g = return_back _ new _ u e3 in
      subst (λ (u : State). EntersOrder s u x acc new) g.state (record {
        term_of = b.term_of;
        tidy = record {
          provers = b.tidy.provers;
          above = b.tidy.above;
          limit = b.tidy.limit;
          low = b.tidy.low;
          drawn = b.tidy.drawn;
          ordered = b.tidy.ordered;
        };
        next = b.next;
        equations = b.equations;
        found = insert-same x b.term_of s1.bindings;
        others = λ y n. insert-other x y b.term_of s1.bindings n ∙ b.bindings.at y;
        term = b.term;
        new_is = sym g.value ∙ ap (λ (o : Option Expr). oldest ((x, o) ∷ []) acc) (b.bindings.at x);
      })

  pub record ChainOrder (lo : ℕ) (s u : State) (v : Expr) (acc : Options) : Type 0 where
    pub tidy : Tidy lo u
    pub next : s.next ≤ u.next
    pub equations : u.equations ≡ s.equations
    pub term : Term B u.next v
    pub back : (y : ℕ) → look_up y u.bindings ≡ restored y acc (look_up y s.bindings)

  exchanged-tidy : (lo : ℕ) (acc : Options) (s u : State) → Exchanged acc s u → Tidy lo s → Tidy lo u
  exchanged-tidy lo acc s u h w = record {
    provers = h.provers ∙ w.provers;
    above = omega (arith, h.next, w.above);
    limit = λ x i. omega (arith, h.next, w.limit x (ap (λ (ds : List Definition). defines ds x) (sym h.definitions) ∙ i));
    low = λ x i b. w.low x (ap (λ (ds : List Definition). defines ds x) (sym h.definitions) ∙ i) b;
    drawn = λ x l m. ap (λ (ds : List Definition). defines ds x) h.definitions ∙ w.drawn x l (omega (arith, h.next));
    ordered = subst (Ordered Input) (sym h.definitions) w.ordered;
  }

  finish-shape : (ev : Expr → Run Expr) (lo : ℕ) (e : Expr) (s u : State) (v : Expr) (acc : Options)
      → ((w : Expr) (s1 : State) → ev e s ≡ gives w s1 → Shape lo s s1 w) → finish_lets ev acc e s ≡ gives v u → ChainOrder lo s u v acc
  unfolding finish_lets
  finish-shape ev lo e s u v acc r h =
      bind-case (ev e) _ s v u h λ w s1 first e1.
      bind-case (exchange_map acc) _ s1 v u e1 λ new s2 second e2.
      let q = r w s1 first in
      let x = exchange-back acc s1 new s2 second in
      let g = sym (capture-term (present new) s2 q.term) ∙ past _ 16 _ s2 v u e2 in
      subst (λ (u : State). ChainOrder lo s u v acc) (gives-state w v s2 u g)
      (subst (λ (v : Expr). ChainOrder lo s s2 v acc) (gives-value w v s2 u g) (record {
        tidy = exchanged-tidy lo acc s1 s2 x q.tidy;
        next = omega (arith, x.next, q.next);
        equations = x.equations ∙ q.equations;
        term = term_up (omega (arith, x.next)) q.term;
        back = λ y. x.at y ∙ ap (restored y acc) (q.bindings.at y);
      }))

  chain-shape : (ev : Expr → Run Expr) → KeepsOrder ev → {k : ℕ} {Γ : List ℕ} {e : Expr} (lo hi : ℕ) (below : Bool) (acc : Options) (s u : State) (v : Expr)
      → Scoped B k Γ e → Spans lo e hi → hi ≤ N → let_chain ev e below acc s ≡ gives v u → k ≤ s.next → Tidy lo s → Free s → InScope Γ s
      → ChainOrder hi s u v acc
  unfolding let_chain
  chain-shape ev ih {k} {Γ} lo hi below acc s u v s_constant sp hn e h c f a =
      finish-shape ev hi _ s u v acc (λ w s1 g. ih Γ k lo hi _ s s1 w s_constant sp hn g h c f a) e
  chain-shape ev ih {k} {Γ} lo hi below acc s u v (s_bound i) sp hn e h c f a =
      finish-shape ev hi _ s u v acc (λ w s1 g. ih Γ k lo hi _ s s1 w (s_bound i) sp hn g h c f a) e
  chain-shape ev ih {k} {Γ} lo hi below acc s u v (s_free b l) sp hn e h c f a =
      finish-shape ev hi _ s u v acc (λ w s1 g. ih Γ k lo hi _ s s1 w (s_free b l) sp hn g h c f a) e
  chain-shape ev ih {k} {Γ} lo hi below acc s u v (s_negate p) sp hn e h c f a =
      finish-shape ev hi _ s u v acc (λ w s1 g. ih Γ k lo hi _ s s1 w (s_negate p) sp hn g h c f a) e
  chain-shape ev ih {k} {Γ} lo hi below acc s u v (s_binary ar p q) sp hn e h c f a =
      finish-shape ev hi _ s u v acc (λ w s1 g. ih Γ k lo hi _ s s1 w (s_binary ar p q) sp hn g h c f a) e
  chain-shape ev ih {k} {Γ} lo hi below acc s u v (s_let {x = x} {v = d} {b = body} bx p q) (spans_let {mid = mid} sp mx sq) hn e h c f a =
      bind-case (enter_let ev (variable_p x) d acc) (let_chain ev body true) s v u e λ new s1 first e1.
      let n = enter-shape ev ih Γ k lo mid x d s s1 acc new bx p sp mx (le_trans (spans-le sq) hn) first h c f a in
      let rest = chain-shape ev ih (suc x) hi true new s1 u v q sq hn e1 (le_trans h n.next) n.tidy (record {
        free = λ y b. n.others y (λ g. false-true (sym b ∙ ap B g ∙ bx)) ∙ f.free y b;
      }) (scope-join x n.term_of n.next n.found n.others n.term a) in
      record {
        tidy = rest.tidy;
        next = le_trans n.next rest.next;
        equations = rest.equations ∙ n.equations;
        term = rest.term;
        back = λ y.
            rest.back y ∙ ap (λ (l : Options). restored y l (look_up y s1.bindings)) n.new_is
            ∙ restored-step x (look_up x s.bindings) acc y (look_up y s.bindings) (look_up y s1.bindings)
            (λ g. ap (λ (i : ℕ). look_up i s.bindings) (sym g)) (n.others y);
      }

  step_keeps : (ev : Expr → Run Expr) → KeepsOrder ev → KeepsOrder (step ev)
  unfolding step restored bound_to
  step_keeps ev ih Γ k lo hi e s u v sc sp hn g h c f a = go sc sp g
    where
      go : {e : Expr} → Scoped B k Γ e → Spans lo e hi → step ev e s ≡ gives v u → Shape hi s u v
      go (s_constant {m = m}) (spans_constant l) g =
          then-case (make 1) _ s v u g λ y w first second.
          let b = return_back (constant (elem P m)) v w u second in
          renamed b.value (counted (same_by (make_same 1 s y w first) b.state) (tidy-up l c) (of_constant (elem-elem P P-above m)))
      go (s_bound {x = x} i) (spans_variable l) g =
          let o = a.inside x i in
          variable-shape ev hi x s u v o.by (some o.by) o.found refl o.term g (tidy-up l c)
      go (s_free {x = x} b m) (spans_variable l) g =
          variable-shape ev hi x s u v (variable x) none (f.free x b) refl (of_variable b (le_trans m h)) g (tidy-up l c)
      go (s_negate {a = d} p) (spans_negate sp) g =
          bind-case (ev d) _ s v u g λ w s1 first e1.
          let r = ih Γ k lo hi d s s1 w p sp hn first h c f a in
          following r.next r.bindings r.equations (negate-shape ev hi s1 u v r.term e1 r.tidy)
      go (s_binary {o = o} {a = d} {b = e'} ar p q) (spans_binary {mid = mid} sp sq) g =
          bind-case (ev d) _ s v u g λ w s1 first e1.
          bind-case (ev e') _ s1 v u e1 λ w' s2 second e2.
          let r = ih Γ k lo mid d s s1 w p sp (le_trans (spans-le sq) hn) first h c f a in
          let f1 = free-alike r.bindings f in
          let r' = ih Γ k mid hi e' s1 s2 w' q sq hn second (le_trans h r.next) r.tidy f1 (scope-alike r.next r.bindings a) in
          following (le_trans r.next r'.next) (alike-trans r.bindings r'.bindings) (r'.equations ∙ r.equations)
          (infix-shape ev ih hi hn o s2 u v ar (term_up r'.next r.term) r'.term e2 r'.tidy (free-alike r'.bindings f1))
      go (s_let bx p q) (spans_let sp mx sq) g =
          let w = chain-shape ev ih lo hi false [] s u v (s_let bx p q) (spans_let sp mx sq) hn g h c f a in
          record { tidy = w.tidy; next = w.next; bindings = record { at = w.back }; equations = w.equations; term = w.term }

  -- every level
  pub key-order : (l : ℕ) → KeepsOrder (evaluate l)
  unfolding evaluate refuse
  key-order zero = λ Γ k lo hi e s u v sc sp hn g h c f a. absurd (refused-gives 19 v u g)
  key-order (suc l) = step_keeps (evaluate l) (key-order l)
