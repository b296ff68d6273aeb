-- Terms and scoped expressions of evaluation, the states that it passes, and what it promises of each.
use mathlib.Core.Path.{◌≡◌, refl, sym, ap, subst, ◌∙◌}
use mathlib.Core.Bool.{Bool, true, false, cond}
use mathlib.Core.List.{List, [], ◌∷◌}
use mathlib.Core.Option.{none, some}
use Prim.Native.Nat.{ℕ, ◌<◌, ◌≤◌}
use native.Mathlib.Nat.{le_trans}
use native.Mathlib.Omega.{arith}
use lib.IntN.{ℤ}
use lib.Dec.{eqb}
use Rattle.field.specs.Operations.{Answer, HasValue}
use Rattle.std.specs.Prelude.{Some, None}
use Rattle.field.specs.declared.InfixOp.{InfixOp}
use Rattle.field.specs.Prime.{P}
use Rattle.field.specs.Element.{elem}
use Rattle.field.proofs.Primality.{P-prime, P-above}
use Rattle.field.proofs.Elements.{elem-elem}
use Rattle.field.proofs.Answers.{value-path, infix-element, opposite-element}
use Rattle.field.proofs.Units.{zero-element}
use Rattle.source.specs.Trees.{variable_p, Expr, binary, negate, constant, variable, letting}
use Rattle.flat.specs.Trees.{Flat, Definition}
use Rattle.flat.specs.Meaning.{update, Assignment, Elements, negated, value, or_zero}
use Rattle.numbering.specs.Inputs.{member}
use Rattle.eval_trees.specs.Environments.{look_up}
use Rattle.eval_trees.specs.State.{State}
use Rattle.eval_trees.specs.Simplify.{infix_op}
use Rattle.eval_trees.proofs.Runs.{Same}
use Rattle.eval_trees.proofs.Helpers.{infix-case}
use Rattle.plain.specs.Plain.{is_arithmetic}
use Rattle.plain.specs.Meaning.{Table, value_of}
use Rattle.plain.proofs.Values.{false-true, negated_back, values-back, Canonical, element-path, table}

-- the definitions, the newest first, worked out from the oldest on; each has a value
unfoldable pub run : Assignment → List Definition → Assignment
run t [] = t
run t (d ∷ ds) = update (run t ds) d.id (or_zero (value (run t ds) d.right))

abbrev pub RunValued : Assignment → List Definition → Type 0
RunValued t [] = Unit {0}
RunValued t (d ∷ ds) = HasValue (value (run t ds) d.right) × RunValued t ds

-- what the ids mean, by the definitions pushed so far
abbrev pub now : Assignment → State → Table
now t s = table (run t s.definitions)

-- all of it elements
flat-element : (σ : Assignment) → Elements σ → (f : Flat) (z : ℤ) → value σ f ≡ Some z → elem P z ≡ z
unfolding value
flat-element σ c (Flat.infixed o a b) z h = let w = values-back o (value σ a) (value σ b) z h in infix-element P P-prime o w.x w.y z w.result
flat-element σ c (Flat.negate a) z h =
    let w = negated_back (value σ a) z h in
    element-path _ z (value-path _ z w.result) (opposite-element P P-prime w.at)
flat-element σ c (Flat.constant n) z h = element-path _ z (value-path _ z h) (elem-elem P P-above n)
flat-element σ c (Flat.variable v) z h = element-path _ z (value-path _ z h) (c v)

pub or-zero-element : (a : Answer) → ((z : ℤ) → a ≡ Some z → elem P z ≡ z) → elem P (or_zero a) ≡ or_zero a
unfolding or_zero
or-zero-element None h = zero-element
or-zero-element (Some z) h = h z refl

pub update-elements : (σ : Assignment) → Elements σ → (i : ℕ) (f : Flat) → Elements (update σ i (or_zero (value σ f)))
unfolding update
update-elements σ c i f v = go (eqb v i)
  where
    go : (b : Bool) → elem P (cond b (or_zero (value σ f)) (σ v)) ≡ cond b (or_zero (value σ f)) (σ v)
    go true = or-zero-element (value σ f) (flat-element σ c f)
    go false = c v

pub run-elements : (t : Assignment) → Elements t → (ds : List Definition) → Elements (run t ds)
unfolding run
run-elements t c [] = c
run-elements t c (d ∷ ds) = update-elements (run t ds) (run-elements t c ds) d.id d.right

pub now-canonical : (t : Assignment) → Elements t → (s : State) → Canonical (now t s)
now-canonical t c s x z e = element-path _ z (value-path _ z e) (run-elements t c s.definitions x)

abbrev pub NotConstant : Expr → Type 0
NotConstant a = (m : ℤ) → a ≡ constant m → ⊥

pub variable-not : {x : ℕ} → NotConstant (variable x)
variable-not m e = let o : ◌≡◌ {A = ℕ} 0 1 = cc in omega arith

pub negate-not : {a : Expr} → NotConstant (negate a)
negate-not m e = let o : ◌≡◌ {A = ℕ} 0 1 = cc in omega arith

-- B says of an id that a pattern binds it (or that it is an intrinsic's). What a plain expression evaluates to: a constant, a variable that is
-- an input or was drawn in evaluation, or the negation of such. n is above its ids
pub data Term (B : ℕ → Bool) (n : ℕ) : Expr → Type 0 where
  of_constant : {m : ℤ} → elem P m ≡ m → Term B n (constant m)
  of_variable : {x : ℕ} → B x ≡ false → x < n → Term B n (variable x)
  of_negate : {a : Expr} → NotConstant a → Term B n a → Term B n (negate a)

-- a plain numbered expression: the ids in Γ are bound, other variables are free ids below k
pub data Scoped (B : ℕ → Bool) (k : ℕ) : List ℕ → Expr → Type 0 where
  s_constant : {Γ : List ℕ} {m : ℤ} → Scoped B k Γ (constant m)
  s_bound : {Γ : List ℕ} {x : ℕ} → member x Γ ≡ true → Scoped B k Γ (variable x)
  s_free : {Γ : List ℕ} {x : ℕ} → B x ≡ false → x < k → Scoped B k Γ (variable x)
  s_negate : {Γ : List ℕ} {a : Expr} → Scoped B k Γ a → Scoped B k Γ (negate a)
  s_binary : {Γ : List ℕ} {o : InfixOp} {a b : Expr} → is_arithmetic o ≡ true → Scoped B k Γ a → Scoped B k Γ b → Scoped B k Γ (binary o a b)
  s_let : {Γ : List ℕ} {x : ℕ} {v b : Expr} → B x ≡ true → Scoped B k Γ v → Scoped B k (x ∷ Γ) b → Scoped B k Γ (letting (variable_p x) v b)

module _ {B : ℕ → Bool} where
  pub term_up : {n m : ℕ} {e : Expr} → n ≤ m → Term B n e → Term B m e
  term_up h (of_constant c) = of_constant c
  term_up h (of_variable f l) = of_variable f (omega arith)
  term_up h (of_negate nc a) = of_negate nc (term_up h a)

  pub term-scoped : {n : ℕ} {e : Expr} → Term B n e → Scoped B n [] e
  term-scoped (of_constant c) = s_constant
  term-scoped (of_variable f l) = s_free f l
  term-scoped (of_negate nc a) = s_negate (term-scoped a)

  pub term-value : {n : ℕ} {e : Expr} (σ υ : Assignment) → ((x : ℕ) → B x ≡ false → x < n → υ x ≡ σ x) → Term B n e
      → value_of (table υ) e ≡ value_of (table σ) e
  unfolding value_of
  term-value σ υ h (of_constant c) = refl
  term-value σ υ h (of_variable {x = x} f l) = ap Some (h x f l)
  term-value σ υ h (of_negate nc a) = ap negated (term-value σ υ h a)

  pub infix-scoped : {n : ℕ} {Γ : List ℕ} {a b : Expr} (o : InfixOp) → is_arithmetic o ≡ true → Scoped B n Γ a → Scoped B n Γ b
      → Scoped B n Γ (infix_op o a b).0
  infix-scoped {n} {Γ} {a} {b} o h p q = infix-case (Scoped B n Γ) o a b p q s_constant (s_binary h p q)

-- What evaluation keeps and promises. N is the first id drawn in evaluation, t has the inputs' elements by id
module _ (B : ℕ → Bool) (N : ℕ) (t : Assignment) where
  pub record Core (s : State) : Type 0 where
    pub provers : s.provers ≡ []
    pub above : N ≤ s.next
    pub valued : RunValued t s.definitions

  -- the state grew: what an id below the next one means stays
  pub record Grew (s u : State) : Type 0 where
    pub next : s.next ≤ u.next
    pub equations : u.equations ≡ s.equations
    pub kept : (x : ℕ) → B x ≡ false → x < s.next → run t u.definitions x ≡ run t s.definitions x

  pub record Unbound (s : State) : Type 0 where
    pub free : (x : ℕ) → B x ≡ false → look_up x s.bindings ≡ none

  pub record SameBindings (s u : State) : Type 0 where
    pub at : (x : ℕ) → look_up x u.bindings ≡ look_up x s.bindings

  -- the value v and the state u behind it
  pub record Result (s u : State) (v : Expr) (z : ℤ) : Type 0 where
    pub grew : Grew s u
    pub core : Core u
    pub bindings : SameBindings s u
    pub term : Term B u.next v
    pub value : value_of (now t u) v ≡ Some z

  -- the bound id x stands for a term with the value that the table has
  pub record Stands (τ : Table) (s : State) (x : ℕ) : Type 0 where
    pub by : Expr
    pub found : look_up x s.bindings ≡ some by
    pub term : Term B s.next by
    pub value : value_of (now t s) by ≡ τ x

  pub record Agree (k : ℕ) (Γ : List ℕ) (τ : Table) (s : State) : Type 0 where
    pub inside : (x : ℕ) → member x Γ ≡ true → Stands τ s x
    pub free : (x : ℕ) → B x ≡ false → x < k → now t s x ≡ τ x

  pub grew_trans : {s u w : State} → Grew s u → Grew u w → Grew s w
  grew_trans f g = record {
    next = le_trans f.next g.next;
    equations = g.equations ∙ f.equations;
    kept = λ x b l. g.kept x b (le_trans l f.next) ∙ f.kept x b l;
  }

  pub bindings-trans : {s u w : State} → SameBindings s u → SameBindings u w → SameBindings s w
  bindings-trans f g = record { at = λ x. g.at x ∙ f.at x }

  pub same-grew : {s u : State} → Same s u → Grew s u
  same-grew {s} {u} h =
      record { next = omega (arith, h.next); equations = h.equations; kept = λ x b l. ap (λ (ds : List Definition). run t ds x) h.definitions }

  pub same-core : {s u : State} → Same s u → Core s → Core u
  same-core {s} {u} h c = record {
    provers = h.provers ∙ c.provers;
    above = omega (arith, c.above, h.next);
    valued = subst (λ (ds : List Definition). RunValued t ds) (sym h.definitions) c.valued;
  }

  pub same-bindings : {s u : State} → Same s u → SameBindings s u
  same-bindings h = record { at = λ x. ap (look_up x) h.bindings }

  pub unbound-same : {s u : State} → SameBindings s u → Unbound s → Unbound u
  unbound-same h f = record { free = λ x b. h.at x ∙ f.free x b }

  -- a term's meaning stays
  pub kept-value : {s u : State} {e : Expr} {z : ℤ} → Grew s u → Term B s.next e → value_of (now t s) e ≡ Some z → value_of (now t u) e ≡ Some z
  kept-value {s} {u} g m v = term-value (run t s.definitions) (run t u.definitions) g.kept m ∙ v

  pub agree-kept : {k : ℕ} {Γ : List ℕ} {τ : Table} {s u : State} → k ≤ s.next → s.next ≤ u.next
      → ((x : ℕ) → B x ≡ false → x < s.next → run t u.definitions x ≡ run t s.definitions x) → SameBindings s u → Agree k Γ τ s → Agree k Γ τ u
  agree-kept {k} {Γ} {τ} {s} {u} h n g b a = record {
    inside = λ x i.
        let w = a.inside x i in
        record {
          by = w.by;
          found = b.at x ∙ w.found;
          term = term_up n w.term;
          value = term-value (run t s.definitions) (run t u.definitions) g w.term ∙ w.value;
        };
    free = λ x f l. ap Some (g x f (le_trans l h)) ∙ a.free x f l;
  }

  pub agree-grew : {k : ℕ} {Γ : List ℕ} {τ : Table} {s u : State} → k ≤ s.next → Grew s u → SameBindings s u → Agree k Γ τ s → Agree k Γ τ u
  agree-grew h g b a = agree-kept h g.next g.kept b a

  -- nothing happened but counting
  pub counted : {s u : State} {v : Expr} {z : ℤ} → Same s u → Core s → Term B s.next v → value_of (now t s) v ≡ Some z → Result s u v z
  counted {s} {u} h c m e = record {
    grew = same-grew h;
    core = same-core h c;
    bindings = same-bindings h;
    term = term_up (same-grew h).next m;
    value = kept-value (same-grew h) m e;
  }

  -- one after the other
  pub following : {s u w : State} {v : Expr} {z : ℤ} → Grew s u → SameBindings s u → Result u w v z → Result s w v z
  following g b r = record { grew = grew_trans g r.grew; core = r.core; bindings = bindings-trans b r.bindings; term = r.term; value = r.value }

  -- expressions made of terms need no table but the state's own
  pub own-table : (s : State) → Agree s.next [] (now t s) s
  unfolding member
  own-table s = record { inside = λ x i. absurd (false-true i); free = λ x f l. refl }
