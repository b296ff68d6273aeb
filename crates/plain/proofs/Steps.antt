-- One level of evaluation: infix, power, negation and variable of a plain expression give a term whose value, under the definitions pushed so far, is
-- the expression's.
use mathlib.Core.Path.{◌≡◌, refl, sym, ap, ap₂, subst, ◌∙◌}
use mathlib.Core.Bool.{Bool, true, false, cond}
use mathlib.Core.List.{List, [], ◌∷◌}
use Prim.Native.Nat.{ℕ, zero, suc, ◌+◌, ◌/◌, ◌%◌, ◌<◌, ◌≤◌}
use native.Mathlib.Nat.{le_refl, le_trans}
use native.Mathlib.Omega.{arith}
use lib.IntN.{ℤ, pos, negsuc}
use lib.Dec.{eqb}
use borrow.Author.Tests.{eqb-true, eqb-false}
use Rattle.std.specs.Prelude.{Some, None}
use Rattle.field.specs.declared.InfixOp.{InfixOp}
use Rattle.field.specs.declared.InfixOp.TheVariants.{Divide, DivideZ, Multiply, Add, Subtract, Equal, Exponentiate, IntDivide, Modulo}
use Rattle.field.specs.Prime.{P}
use Rattle.field.specs.Element.{elem}
use Rattle.field.specs.Operations.{opposite, power, infix_of, Answer}
use Rattle.field.proofs.Primality.{P-prime, P-above, P-odd}
use Rattle.field.proofs.Elements.{elem_below, elem-opposite}
use Rattle.field.proofs.Answers.{value-path, nothing-value, infix-element, opposite-element}
use Rattle.field.proofs.Powers.{power-one, power_zero, multiply-powers, multiply-base, power-natural, power-negative}
use Rattle.field.proofs.Units.{one-element}
use Rattle.source.specs.Trees.{Expr, binary, negate, constant, variable}
use Rattle.flat.specs.Trees.{Flat, Definition}
use Rattle.flat.specs.Meaning.{Assignment, Elements, value, or_zero}
use Rattle.numbering.specs.Inputs.{member}
use Rattle.eval_trees.specs.Environments.{look_up}
use Rattle.eval_trees.specs.Forms.{on_constant}
use Rattle.eval_trees.specs.State.{State, gives, Run, after, ◌>>=◌, return, refuse, get, refuse_if, make, is_prover, bound}
use Rattle.eval_trees.specs.Simplify.{infix_op, is_constant}
use Rattle.eval_trees.specs.Evaluation
use Rattle.eval_trees.specs.Evaluation.{defined, answered, bound_to, numbers, evaluate_operation, evaluate_power, evaluate_infix, evaluate_variable}
use Rattle.eval_trees.proofs.Runs.{refused-gives, gives-value, gives-state, bind-case, then-case, bind-known, return_back}
use Rattle.eval_trees.proofs.Runs.{passed, past, got, Same, same_refl, same-trans, same_by, make_same}
use Rattle.eval_trees.proofs.Defining.{defined-back}
use Rattle.plain.specs.Plain.{is_arithmetic}
use Rattle.plain.specs.Meaning.{Table, value_of}
use Rattle.plain.proofs.Values.{false-true, negated-value, update_same, update_other, value-element}
use Rattle.plain.proofs.Values.{table, flat-value, cond-case, binary-value, infix-value}
use Rattle.plain.proofs.Terms.{run, RunValued, now, now-canonical, Term, of_constant, of_variable, of_negate, Scoped, s_constant, s_binary}
use Rattle.plain.proofs.Terms.{variable-not, negate-not}
use Rattle.plain.proofs.Terms.{term_up, term-scoped, infix-scoped, Core, Grew, Unbound, SameBindings, Result, Stands, Agree, grew_trans}
use Rattle.plain.proofs.Terms.{bindings-trans, same-grew, same-core, same-bindings, unbound-same, kept-value, counted, following, own-table}

-- what evaluates at one level less keeps the promise
abbrev pub Keeps : (ℕ → Bool) → ℕ → Assignment → (Expr → Run Expr) → Type 0
Keeps B N t ev =
    (Γ : List ℕ) (k : ℕ) (τ : Table) (e : Expr) (s u : State) (v : Expr) (z : ℤ) → Scoped B k Γ e → ev e s ≡ gives v u → k ≤ s.next → Core B N t s
    → Unbound B N t s → Agree B N t k Γ τ s → value_of τ e ≡ Some z → Result B N t s u v z

-- the value of `^` with an exponent from 0 on
raised-value : (x : ℤ) (n : ℕ) (z : ℤ) → elem P (pos n) ≡ pos n → infix_of P Exponentiate x (pos n) ≡ Some z → power P x n ≡ z
raised-value x n z c h = value-path _ z (sym (power-natural P P-prime x (pos n) n c) ∙ h)

module _ (B : ℕ → Bool) (N : ℕ) (beyond : (x : ℕ) → N ≤ x → B x ≡ false) (t : Assignment) (elements : Elements t) where
  -- a definition was pushed
  pub grew_by : (s u : State) (i : ℕ) (f : Flat) → s.next ≤ u.next → u.definitions ≡ record { id = i; right = f; place = 0 } ∷ s.definitions
      → u.equations ≡ s.equations → ((x : ℕ) → B x ≡ false → x < s.next → x ≡ i → ⊥) → Grew B N t s u
  unfolding run
  grew_by s u i f n d q a =
      record { next = n; equations = q; kept = λ x b l. ap (λ (ds : List Definition). run t ds x) d ∙ update_other (run t s.definitions) i _ x (a x b l) }

  pub core-by : (s u : State) (i : ℕ) (f : Flat) (z : ℤ) → u.provers ≡ s.provers → s.next ≤ u.next
      → u.definitions ≡ record { id = i; right = f; place = 0 } ∷ s.definitions → value (run t s.definitions) f ≡ Some z → Core B N t s → Core B N t u
  core-by s u i f z p n d h c =
      record { provers = p ∙ c.provers; above = le_trans c.above n; valued = subst (λ (ds : List Definition). RunValued t ds) (sym d) ((z, h), c.valued) }

  new-definition : (f : Flat) (s u : State) (v : Expr) (z : ℤ) (i : ℕ) → v ≡ variable i → i ≡ s.next → u.next ≡ suc s.next → u.bindings ≡ s.bindings
      → u.provers ≡ s.provers → u.definitions ≡ record { id = i; right = f; place = 0 } ∷ s.definitions → u.equations ≡ s.equations → Core B N t s
      → value (run t s.definitions) f ≡ Some z → Result B N t s u v z
  unfolding run value_of or_zero
  new-definition f s u v z i w j n b p d q c h = record {
    grew = grew_by s u i f (omega arith) d q (λ x f l e. omega arith);
    core = core-by s u i f z p (omega arith) d h c;
    bindings = record { at = λ x. ap (look_up x) b };
    term = subst (Term B u.next) (sym w) (of_variable (beyond i (omega (arith, c.above))) (omega arith));
    value = ap₂ (λ (e : Expr) (ds : List Definition). value_of (table (run t ds)) e) w d ∙ ap Some (update_same (run t s.definitions) i _ ∙ ap or_zero h);
  }

  pub defined-result : (ev : Expr → Run Expr) (r : Expr × ℕ) (s u : State) (v : Expr) (z : ℤ) → defined ev r s ≡ gives v u → Core B N t s
      → value_of (now t s) r.0 ≡ Some z → Result B N t s u v z
  defined-result ev r s u v z e c h =
      let d = defined-back ev r s u v e in
      new-definition d.tree s u v z d.id d.value d.drawn d.next d.bindings d.provers d.definitions d.equations c
      (flat-value (run t s.definitions) r.0 d.tree d.is ∙ h)

  renamed : {s u : State} {v w : Expr} {z : ℤ} → v ≡ w → Result B N t s u v z → Result B N t s u w z
  renamed {s} {u} {v} {w} {z} e r = subst (λ (v : Expr). Result B N t s u v z) e r

  -- two constants
  answered-result : (ev : Expr → Run Expr) (w : Answer) (s u : State) (v : Expr) (z : ℤ) → answered ev w s ≡ gives v u → w ≡ Some z → elem P z ≡ z
      → Core B N t s → Result B N t s u v z
  unfolding answered value_of refuse
  answered-result ev None s u v z e h c k = absurd (nothing-value z h)
  answered-result ev (Some n) s u v z e h c k =
      then-case (make 1) _ s v u e λ x w first second.
      let b = return_back (constant n) v w u second in
      let q : n ≡ z = value-path n z h in
      renamed b.value (counted B N t (same_by (make_same 1 s x w first) b.state) k (of_constant (subst (λ (y : ℤ). elem P y ≡ y) (sym q) c))
      (ap (λ (y : ℤ). Some (elem P y)) q ∙ ap Some c))

  -- a constant term's value is the constant
  constant-is : (τ : Table) (m x : ℤ) → elem P m ≡ m → value_of τ (constant m) ≡ Some x → x ≡ m
  unfolding value_of
  constant-is τ m x c h = sym (value-path _ x h) ∙ c

  by-infix : (s : State) (x y z : ℤ) (a b : Expr) → value_of (now t s) a ≡ Some x → value_of (now t s) b ≡ Some y → (o : InfixOp) → infix_of P o x y ≡ Some z
      → value_of (now t s) (infix_op o a b).0 ≡ Some z
  by-infix s x y z a b p q o h =
      infix-value (now t s) a b x y z p q (value-element a _ (now-canonical t elements s) x p) (value-element b _ (now-canonical t elements s) y q) o h

  operation-result : (ev : Expr → Run Expr) (o : InfixOp) {a b : Expr} (s u : State) (v : Expr) (x y z : ℤ) → Term B s.next a → Term B s.next b
      → value_of (now t s) a ≡ Some x → value_of (now t s) b ≡ Some y → infix_of P o x y ≡ Some z → evaluate_operation ev o a b s ≡ gives v u
      → Core B N t s → Result B N t s u v z
  unfolding evaluate_operation on_constant
  operation-result ev o s u v x y z (of_constant {m = m} ca) (of_constant {m = n} cb) p q h e k =
      answered-result ev (infix_of P o m n) s u v z e (ap₂ (infix_of P o) (sym (constant-is _ m x ca p)) (sym (constant-is _ n y cb q)) ∙ h)
      (infix-element P P-prime o x y z h) k
  operation-result ev o s u v x y z (of_constant ca) (of_variable fb lb) p q h e k = defined-result ev _ s u v z e k (by-infix s x y z _ _ p q o h)
  operation-result ev o s u v x y z (of_constant ca) (of_negate nc tb) p q h e k = defined-result ev _ s u v z e k (by-infix s x y z _ _ p q o h)
  operation-result ev o s u v x y z (of_variable fa la) tb p q h e k = defined-result ev _ s u v z e k (by-infix s x y z _ _ p q o h)
  operation-result ev o s u v x y z (of_negate nc ta) tb p q h e k = defined-result ev _ s u v z e k (by-infix s x y z _ _ p q o h)

  -- an expression made of terms, evaluated at once
  made-result : (ev : Expr → Run Expr) → Keeps B N t ev → (e : Expr) (s u : State) (v : Expr) (z : ℤ) → Scoped B s.next [] e → ev e s ≡ gives v u
      → Core B N t s → Unbound B N t s → value_of (now t s) e ≡ Some z → Result B N t s u v z
  made-result ev ih e s u v z sc h c f w = ih [] s.next (now t s) e s u v z sc h (le_refl _) c f (own-table B N t s) w

  -- the power of a term, as an expression
  power-value : (s : State) (a : Expr) (x : ℤ) (n : ℕ) → value_of (now t s) a ≡ Some x → elem P (pos n) ≡ pos n
      → value_of (now t s) (binary Exponentiate a (constant (pos n))) ≡ Some (power P x n)
  unfolding value_of
  power-value s a x n p c = binary-value _ Exponentiate a (constant (pos n)) x (pos n) (power P x n) p (ap Some c) (power-natural P P-prime x (pos n) n c)

  -- the square, times the base where the exponent is odd
  whole-value : (s : State) (a r : Expr) (x : ℤ) (n : ℕ) → 0 < n → value_of (now t s) a ≡ Some x → value_of (now t s) r ≡ Some (power P x (n / 2)) →
      value_of (now t s) (cond (eqb (n % 2) 1) (infix_op Multiply (infix_op Multiply r r).0 a) ((infix_op Multiply r r).0, 0)).0 ≡ Some (power P x n)
  whole-value s a r x n o p q = cond-case (eqb (n % 2) 1) _ _ (λ e. value_of (now t s) e ≡ Some (power P x n)) odd even
    where
      square : value_of (now t s) (infix_op Multiply r r).0 ≡ Some (power P x (n / 2 + n / 2))
      square = by-infix s (power P x (n / 2)) (power P x (n / 2)) (power P x (n / 2 + n / 2)) r r q q Multiply (multiply-powers P P-prime x (n / 2) (n / 2))

      odd : eqb (n % 2) 1 ≡ true → value_of (now t s) (infix_op Multiply (infix_op Multiply r r).0 a).0 ≡ Some (power P x n)
      odd e = by-infix s (power P x (n / 2 + n / 2)) x (power P x n) (infix_op Multiply r r).0 a square p Multiply
          (multiply-base P P-prime x (n / 2 + n / 2) ∙ ap (λ (k : ℕ). Some (power P x k)) (let w : n % 2 ≡ 1 = eqb-true (n % 2) 1 e in omega arith))

      even : eqb (n % 2) 1 ≡ false → value_of (now t s) (infix_op Multiply r r).0 ≡ Some (power P x n)
      even e = square ∙ ap (λ (k : ℕ). Some (power P x k)) (let w : n % 2 ≡ 1 → ⊥ = eqb-false (n % 2) 1 e in omega arith)

  whole-scoped : {n : ℕ} {a r : Expr} (c : Bool) → Term B n a → Term B n r
      → Scoped B n [] (cond c (infix_op Multiply (infix_op Multiply r r).0 a) ((infix_op Multiply r r).0, 0)).0
  unfolding is_arithmetic
  whole-scoped true p q = infix-scoped Multiply refl (infix-scoped Multiply refl (term-scoped q) (term-scoped q)) (term-scoped p)
  whole-scoped false p q = infix-scoped Multiply refl (term-scoped q) (term-scoped q)

  one_value : (s : State) → value_of (now t s) (constant (pos 1)) ≡ Some (pos 1)
  unfolding value_of
  one_value s = ap Some one-element

  -- 1 over the power
  inverse-value : (s : State) (a : Expr) (x : ℤ) (n : ℕ) (z : ℤ) → value_of (now t s) a ≡ Some x
      → elem P (negsuc n) ≡ negsuc n → infix_of P Exponentiate x (negsuc n) ≡ Some z
      → value_of (now t s) (binary Divide (constant (pos 1)) (binary Exponentiate a (constant (pos (suc n))))) ≡ Some z
  inverse-value s a x n z p c h =
      binary-value _ Divide (constant (pos 1)) (binary Exponentiate a (constant (pos (suc n)))) (pos 1) (power P x (suc n)) z (one_value s)
      (power-value s a x (suc n) p (elem-opposite P P-above P-odd n c)) (sym (power-negative P P-prime x (negsuc n) n c) ∙ h)

  squares : (ev : Expr → Run Expr) → Keeps B N t ev → (a r : Expr) (n : ℕ) (s s2 s3 s5 u : State) (v : Expr) (x z : ℤ) → 0 < n → Term B s.next a →
      value_of (now t s) a ≡ Some x → elem P (pos n) ≡ pos n → infix_of P Exponentiate x (pos n) ≡ Some z →
      Same s s2 → ev (binary Exponentiate a (constant (pos (n / 2)))) s2 ≡ gives r s3 → Same s3 s5 →
      ev (cond (eqb (n % 2) 1) (infix_op Multiply (infix_op Multiply r r).0 a) ((infix_op Multiply r r).0, 0)).0 s5 ≡ gives v u → Core B N t s →
      Unbound B N t s → Result B N t s u v z
  unfolding is_arithmetic
  squares ev ih a r n s s2 s3 s5 u v x z o ta p c h m2 third m5 e5 k f =
      let ta2 : Term B s2.next a = term_up (same-grew B N t m2).next ta in
      let p2 : value_of (now t s2) a ≡ Some x = kept-value B N t (same-grew B N t m2) ta p in
      let f2 : Unbound B N t s2 = unbound-same B N t (same-bindings B N t m2) f in
      let root : elem P (pos (n / 2)) ≡ pos (n / 2) = elem_below P P-above P-odd n (n / 2) c (omega arith) in
      let one : Result B N t s2 s3 r (power P x (n / 2)) = made-result ev ih (binary Exponentiate a (constant (pos (n / 2)))) s2 s3 r (power P x (n / 2))
      (s_binary refl (term-scoped ta2) s_constant) third (same-core B N t m2 k) f2 (power-value s2 a x (n / 2) p2 root) in
      let g : Grew B N t s2 s5 = grew_trans B N t one.grew (same-grew B N t m5) in
      let b : SameBindings B N t s2 s5 = bindings-trans B N t one.bindings (same-bindings B N t m5) in
      let two : Result B N t s5 u v (power P x n) =
      made-result ev ih _ s5 u v (power P x n) (whole-scoped (eqb (n % 2) 1) (term_up g.next ta2) (term_up (same-grew B N t m5).next one.term)) e5
      (same-core B N t m5 one.core) (unbound-same B N t b f2)
      (whole-value s5 a r x n o (kept-value B N t g ta2 p2) (kept-value B N t (same-grew B N t m5) one.term one.value)) in
      following B N t (grew_trans B N t (same-grew B N t m2) g) (bindings-trans B N t (same-bindings B N t m2) b)
      (subst (Result B N t s5 u v) (raised-value x n z c h) two)

  inverted : (ev : Expr → Run Expr) → Keeps B N t ev → (a : Expr) (n : ℕ) (s s2 u : State) (v : Expr) (x z : ℤ) → Term B s.next a →
      value_of (now t s) a ≡ Some x → elem P (negsuc n) ≡ negsuc n → infix_of P Exponentiate x (negsuc n) ≡ Some z →
      Same s s2 → ev (infix_op Divide (constant (pos 1)) (binary Exponentiate a (constant (pos (suc n))))).0 s2 ≡ gives v u → Core B N t s →
      Unbound B N t s → Result B N t s u v z
  unfolding infix_op is_constant on_constant is_arithmetic
  inverted ev ih a n s s2 u v x z ta p c h m2 e2 k f =
      let ta2 : Term B s2.next a = term_up (same-grew B N t m2).next ta in
      following B N t (same-grew B N t m2) (same-bindings B N t m2)
      (made-result ev ih (binary Divide (constant (pos 1)) (binary Exponentiate a (constant (pos (suc n))))) s2 u v z
      (s_binary refl s_constant (s_binary refl (term-scoped ta2) s_constant)) e2 (same-core B N t m2 k) (unbound-same B N t (same-bindings B N t m2) f)
      (inverse-value s2 a x n z (kept-value B N t (same-grew B N t m2) ta p) c h))

  power-result : (ev : Expr → Run Expr) → Keeps B N t ev → {a : Expr} (n : ℤ) (s u : State) (v : Expr) (x z : ℤ) → Term B s.next a
      → value_of (now t s) a ≡ Some x → elem P n ≡ n → infix_of P Exponentiate x n ≡ Some z → Evaluation.power ev a n s ≡ gives v u → Core B N t s
      → Unbound B N t s → Result B N t s u v z
  unfolding Evaluation.power
  power-result ev ih (pos zero) s u v x z ta p c h e k f =
      then-case (make 1) _ s v u e λ y w first second.
      let b = return_back (constant (pos 1)) v w u second in
      renamed b.value (counted B N t (same_by (make_same 1 s y w first) b.state) k (of_constant one-element)
      (one_value s ∙ ap Some (sym (power_zero P P-prime x) ∙ raised-value x 0 z c h)))
  power-result ev ih (pos (suc zero)) s u v x z ta p c h e k f =
      let b = return_back _ v s u e in
      renamed b.value (counted B N t (same_by (same_refl s) b.state) k ta
      (p ∙ ap Some (sym (power-one P P-prime x ∙ value-element _ _ (now-canonical t elements s) x p) ∙ raised-value x 1 z c h)))
  power-result ev ih {a = a} (pos (suc (suc n))) s u v x z ta p c h e k f =
      then-case (refuse_if _ 31) _ s v u (bind-known get _ s s s v u (got s) e) λ y1 s1 first e1.
      then-case (make 2) _ s1 v u e1 λ y2 s2 second e2.
      bind-case (ev _) _ s2 v u e2 λ r s3 third e3.
      then-case (make _) _ s3 v u e3 λ y4 s4 fourth e4.
      then-case (make _) _ s4 v u e4 λ y5 s5 fifth e5.
      squares ev ih a r (suc (suc n)) s s2 s3 s5 u v x z (omega arith) ta p c h
      (same-trans (same_by (same_refl s) (passed _ 31 s y1 s1 first).state) (make_same 2 s1 y2 s2 second)) third
      (same-trans (make_same _ s3 y4 s4 fourth) (make_same _ s4 y5 s5 fifth)) e5 k f
  power-result ev ih {a = a} (negsuc n) s u v x z ta p c h e k f =
      then-case (make 3) _ s v u e λ y1 s1 first e1.
      then-case (make _) _ s1 v u e1 λ y2 s2 second e2.
      inverted ev ih a n s s2 u v x z ta p c h (same-trans (make_same 3 s y1 s1 first) (make_same _ s1 y2 s2 second)) e2 k f

  power-infix : (ev : Expr → Run Expr) → Keeps B N t ev → {a b : Expr} (s u : State) (v : Expr) (x y z : ℤ) → Term B s.next a → Term B s.next b
      → value_of (now t s) a ≡ Some x → value_of (now t s) b ≡ Some y → infix_of P Exponentiate x y ≡ Some z → evaluate_power ev a b s ≡ gives v u
      → Core B N t s → Unbound B N t s → Result B N t s u v z
  unfolding evaluate_power on_constant refuse
  power-infix ev ih s u v x y z (of_constant {m = m} ca) (of_constant {m = n} cb) p q h e k f =
      answered-result ev (infix_of P Exponentiate m n) s u v z e
      (ap₂ (infix_of P Exponentiate) (sym (constant-is _ m x ca p)) (sym (constant-is _ n y cb q)) ∙ h) (infix-element P P-prime Exponentiate x y z h) k
  power-infix ev ih s u v x y z (of_variable fa la) (of_constant {m = n} cb) p q h e k f =
      power-result ev ih n s u v x z (of_variable fa la) p cb (ap (infix_of P Exponentiate x) (sym (constant-is _ n y cb q)) ∙ h) e k f
  power-infix ev ih s u v x y z (of_negate nc ta) (of_constant {m = n} cb) p q h e k f =
      power-result ev ih n s u v x z (of_negate nc ta) p cb (ap (infix_of P Exponentiate x) (sym (constant-is _ n y cb q)) ∙ h) e k f
  power-infix ev ih s u v x y z ta (of_variable fb lb) p q h e k f = absurd (refused-gives 11 v u e)
  power-infix ev ih s u v x y z ta (of_negate nc tb) p q h e k f = absurd (refused-gives 11 v u e)

  pub infix-result : (ev : Expr → Run Expr) → Keeps B N t ev → (o : InfixOp) {a b : Expr} (s u : State) (v : Expr) (x y z : ℤ) → is_arithmetic o ≡ true
      → Term B s.next a → Term B s.next b → value_of (now t s) a ≡ Some x → value_of (now t s) b ≡ Some y → infix_of P o x y ≡ Some z
      → evaluate_infix ev o a b s ≡ gives v u → Core B N t s → Unbound B N t s → Result B N t s u v z
  unfolding evaluate_infix numbers is_arithmetic
  infix-result ev ih Divide s u v x y z ar ta tb p q h e k f = operation-result ev Divide s u v x y z ta tb p q h (past _ 18 _ s v u e) k
  infix-result ev ih DivideZ s u v x y z ar ta tb p q h e k f = operation-result ev DivideZ s u v x y z ta tb p q h (past _ 18 _ s v u e) k
  infix-result ev ih Multiply s u v x y z ar ta tb p q h e k f = operation-result ev Multiply s u v x y z ta tb p q h (past _ 18 _ s v u e) k
  infix-result ev ih Add s u v x y z ar ta tb p q h e k f = operation-result ev Add s u v x y z ta tb p q h (past _ 18 _ s v u e) k
  infix-result ev ih Subtract s u v x y z ar ta tb p q h e k f = operation-result ev Subtract s u v x y z ta tb p q h (past _ 18 _ s v u e) k
  infix-result ev ih Equal s u v x y z ar ta tb p q h e k f = absurd (false-true ar)
  infix-result ev ih Exponentiate s u v x y z ar ta tb p q h e k f = power-infix ev ih s u v x y z ta tb p q h (past _ 18 _ s v u e) k f
  infix-result ev ih IntDivide s u v x y z ar ta tb p q h e k f = operation-result ev IntDivide s u v x y z ta tb p q h (past _ 18 _ s v u e) k
  infix-result ev ih Modulo s u v x y z ar ta tb p q h e k f = operation-result ev Modulo s u v x y z ta tb p q h (past _ 18 _ s v u e) k

  -- Negate
  negated-term : {n : ℕ} {a : Expr} → Term B n a → Term B n (on_constant a (λ m. constant (opposite P m)) (negate a))
  unfolding on_constant
  negated-term (of_constant {m = m} c) = of_constant (opposite-element P P-prime m)
  negated-term (of_variable f l) = of_negate variable-not (of_variable f l)
  negated-term (of_negate nc a) = of_negate negate-not (of_negate nc a)

  negation-value : (τ : Table) {n : ℕ} {a : Expr} (x : ℤ) → Term B n a → value_of τ a ≡ Some x
      → value_of τ (on_constant a (λ m. constant (opposite P m)) (negate a)) ≡ Some (opposite P x)
  unfolding on_constant value_of
  negation-value τ x (of_constant {m = m} c) p = ap Some (opposite-element P P-prime m ∙ ap (opposite P) (sym (constant-is τ m x c p)))
  negation-value τ x (of_variable f l) p = negated-value _ x p
  negation-value τ x (of_negate nc a) p = negated-value _ x p

  pub negate-result : (ev : Expr → Run Expr) {a : Expr} (s u : State) (v : Expr) (x z : ℤ) → Term B s.next a → value_of (now t s) a ≡ Some x
      → opposite P x ≡ z → Evaluation.negated ev a s ≡ gives v u → Core B N t s → Result B N t s u v z
  unfolding Evaluation.negated
  negate-result ev s u v x z ta p q e k =
      then-case (make 1) _ s v u (past _ 18 _ s v u e) λ y w first second.
      let b = return_back _ v w u second in
      renamed b.value (counted B N t (same_by (make_same 1 s y w first) b.state) k (negated-term ta) (negation-value _ x ta p ∙ ap Some q))

  -- Variable
  looked-up : (ev : Expr → Run Expr) (x : ℕ) (s : State) → evaluate_variable ev x s ≡ gives (bound_to ev x (member x s.provers) (look_up x s.bindings)) s
  unfolding evaluate_variable bound is_prover get ◌>>=◌ after return
  looked-up ev x s = refl

  no-prover : (x : ℕ) (s : State) → Core B N t s → member x s.provers ≡ false
  unfolding member
  no-prover x s k = ap (member x) k.provers

  pub variable-bound : (ev : Expr → Run Expr) (τ : Table) (x : ℕ) (s u : State) (v : Expr) (z : ℤ) → Stands B N t τ s x → τ x ≡ Some z
      → evaluate_variable ev x s ≡ gives v u → Core B N t s → Result B N t s u v z
  unfolding bound_to
  variable-bound ev τ x s u v z w q e k =
      let g = sym (looked-up ev x s) ∙ e in
      renamed (sym (ap₂ (bound_to ev x) (no-prover x s k) w.found) ∙ gives-value _ v s u g)
      (counted B N t (same_by (same_refl s) (gives-state _ v s u g)) k w.term (w.value ∙ q))

  pub variable-free : (ev : Expr → Run Expr) (x : ℕ) (s u : State) (v : Expr) (z : ℤ) → B x ≡ false → x < s.next → now t s x ≡ Some z
      → evaluate_variable ev x s ≡ gives v u → Core B N t s → Unbound B N t s → Result B N t s u v z
  unfolding bound_to value_of
  variable-free ev x s u v z b l q e k f =
      let g = sym (looked-up ev x s) ∙ e in
      renamed (sym (ap₂ (bound_to ev x) (no-prover x s k) (f.free x b)) ∙ gives-value _ v s u g)
      (counted B N t (same_by (same_refl s) (gives-state _ v s u g)) k (of_variable b l) q)
