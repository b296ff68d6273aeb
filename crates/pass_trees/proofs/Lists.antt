-- Laws of the small tools: maps written at one id, tests, every item of a list, every variable of an expression.
use Rattle.std.proofs.Common.{◌≡◌, ℕ, Bool, true, false, cond, ◌&&◌, ◌||◌, eqb, List, [], ◌∷◌, ◌++◌, ℤ}
use Rattle.std.proofs.Common.{pos, negsuc, sym, refl, ap, subst, ap₂, arith, eq-eqb, ne_eqb, eqb-true}
use borrow.Author.Tests.{eqb-false}
use Rattle.std.specs.Prelude.{Some}
use Rattle.field.specs.declared.InfixOp.{InfixOp}
use Rattle.flat.specs.Trees.{Flat, Definition, defines}
use Rattle.flat.specs.Meaning.{update, Assignment, value, on_values, negated}
use Rattle.flat.specs.Rules.{All, Every}
use Rattle.constraint.specs.declared.Term.{Term}
use Rattle.constraint.specs.Trees.{Side}
use Rattle.constraint.specs.Meaning.{InTerm, InSide, term_value, side_value}
use Rattle.pass_trees.specs.Passes.{keep_if, those, same_number, infix_op, when}

pub bool-not : {A : Type 0} → true ≡ false → A
bool-not e = absurd (let z : ◌≡◌ {A = ℕ} 0 1 = cc in omega arith)

-- a map written at one id has a property everywhere if the written value has it there, and the old map everywhere
pub update_all : {A : Type 0} (Q : ℕ → A → Type 0) (f : ℕ → A) (v : ℕ) (a : A) → Q v a → ((w : ℕ) → Q w (f w)) → (w : ℕ) → Q w (update f v a w)
unfolding update
update_all {A} Q f v a here there w = go (eqb w v) refl
  where
    go : (b : Bool) → eqb w v ≡ b → Q w (cond b a (f w))
    go true e = subst (λ (x : ℕ). Q x a) (sym (eqb-true w v e)) here
    go false e = there w

pub update_same : {A : Type 0} (f : ℕ → A) (v : ℕ) (a : A) → update f v a v ≡ a
unfolding update
update_same f v a = ap (λ t. cond t a (f v)) (eq-eqb v v refl)

pub update_other : {A : Type 0} (f : ℕ → A) (v : ℕ) (a : A) (w : ℕ) → (w ≡ v → ⊥) → update f v a w ≡ f w
unfolding update
update_other f v a w h = ap (λ t. cond t a (f w)) (ne_eqb w v h)

pub same_number_lem : (x y : ℤ) → same_number x y ≡ true → x ≡ y
unfolding same_number
same_number_lem (pos m) (pos n) e = ap pos (eqb-true m n e)
same_number_lem (pos m) (negsuc n) e = bool-not (sym e)
same_number_lem (negsuc m) (pos n) e = bool-not (sym e)
same_number_lem (negsuc m) (negsuc n) e = ap negsuc (eqb-true m n e)

pub both_true : (a b : Bool) → (a && b) ≡ true → (a ≡ true) × (b ≡ true)
both_true true b e = (refl, e)
both_true false b e = bool-not (sym e)

pub both_false : (a b : Bool) → (a || b) ≡ false → (a ≡ false) × (b ≡ false)
both_false true b e = bool-not e
both_false false b e = (refl, e)

module _ {A : Type 0} (Q : A → Type 0) where
  pub all_append : (xs ys : List A) → All Q xs → All Q ys → All Q (xs ++ ys)
  all_append [] ys h k = k
  all_append (x ∷ xs) ys h k = (h.0, all_append xs ys h.1 k)

  pub all_split : (xs ys : List A) → All Q (xs ++ ys) → All Q xs × All Q ys
  all_split [] ys h = (tt, h)
  all_split (x ∷ xs) ys h = let r = all_split xs ys h.1 in ((h.0, r.0), r.1)

  pub all_keep : (b : Bool) (x : A) (xs : List A) → Q x → All Q xs → All Q (keep_if b x xs)
  unfolding keep_if
  all_keep true x xs h k = (h, k)
  all_keep false x xs h k = k

pub all_map : {A : Type 0} {Q R : A → Type 0} → ((a : A) → Q a → R a) → (xs : List A) → All Q xs → All R xs
all_map f [] h = tt
all_map f (x ∷ xs) h = (f x h.0, all_map f xs h.1)

pub all-those : (Q : Definition → Type 0) (t : ℕ → Bool) (ds : List Definition) → All Q ds → All Q (those t ds)
unfolding those
all-those Q t [] h = tt
all-those Q t (d ∷ ds) h = all_keep Q (t d.id) d (those t ds) h.0 (all-those Q t ds h.1)

module _ {Q R : ℕ → Type 0} (f : (v : ℕ) → Q v → R v) where
  pub every_map : (e : Flat) → Every Q e → Every R e
  every_map (Flat.infixed o a b) h = (every_map a h.0, every_map b h.1)
  every_map (Flat.negate a) h = every_map a h
  every_map (Flat.constant c) h = tt
  every_map (Flat.variable v) h = f v h

  pub term-map : (t : Term) → InTerm Q t → InTerm R t
  term-map (Term.Variable v) h = f v h
  term-map (Term.Constant c) h = tt

  pub side-map : (s : Side) → InSide Q s → InSide R s
  side-map (Side.infixed o a b) h = (term-map a h.0, term-map b h.1)
  side-map (Side.negate a) h = term-map a h
  side-map (Side.copy a) h = term-map a h

-- what infix_op leaves has the variables of its terms
pub when-in : (Q : ℕ → Type 0) (b : Bool) (s t : Side) → InSide Q s → InSide Q t → InSide Q (when b s t)
unfolding when
when-in Q true s t h k = h
when-in Q false s t h k = k

pub infix-in : (Q : ℕ → Type 0) (o : InfixOp) (a b : Term) → InTerm Q a → InTerm Q b → InSide Q (infix_op o a b)
unfolding infix_op
infix-in Q InfixOp.Divide a b h k = when-in Q _ (Side.copy a) _ h (h, k)
infix-in Q InfixOp.DivideZ a b h k = when-in Q _ (Side.copy a) _ h (when-in Q _ (Side.copy a) (Side.infixed InfixOp.DivideZ a b) h (h, k))
infix-in Q InfixOp.Multiply a b h k =
    when-in Q _ (Side.copy b) _ k
    (when-in Q _ (Side.copy a) _ h (when-in Q _ (Side.copy a) _ h (when-in Q _ (Side.copy b) (Side.infixed InfixOp.Multiply a b) k (h, k))))
infix-in Q InfixOp.Add a b h k = when-in Q _ (Side.copy b) _ k (when-in Q _ (Side.copy a) (Side.infixed InfixOp.Add a b) h (h, k))
infix-in Q InfixOp.Subtract a b h k = when-in Q _ (Side.copy a) (Side.infixed InfixOp.Subtract a b) h (h, k)
infix-in Q InfixOp.Equal a b h k = (h, k)
infix-in Q InfixOp.Exponentiate a b h k = (h, k)
infix-in Q InfixOp.IntDivide a b h k = when-in Q _ (Side.copy a) (Side.infixed InfixOp.IntDivide a b) h (h, k)
infix-in Q InfixOp.Modulo a b h k = when-in Q _ (Side.copy (Term.Constant (pos 0))) (Side.infixed InfixOp.Modulo a b) tt (h, k)

-- assignments that agree on the variables give one value
module _ (σ τ : Assignment) where
  pub value-agrees : (e : Flat) → Every (λ v. σ v ≡ τ v) e → value σ e ≡ value τ e
  unfolding value
  value-agrees (Flat.infixed o a b) h = ap₂ (on_values o) (value-agrees a h.0) (value-agrees b h.1)
  value-agrees (Flat.negate a) h = ap negated (value-agrees a h)
  value-agrees (Flat.constant c) h = refl
  value-agrees (Flat.variable v) h = ap Some h

  pub term-agrees : (t : Term) → InTerm (λ v. σ v ≡ τ v) t → term_value σ t ≡ term_value τ t
  term-agrees (Term.Variable v) h = h
  term-agrees (Term.Constant c) h = refl

  pub side-agrees : (s : Side) → InSide (λ v. σ v ≡ τ v) s → side_value σ s ≡ side_value τ s
  unfolding side_value
  side-agrees (Side.infixed o a b) h = cc (term-agrees a h.0, term-agrees b h.1)
  side-agrees (Side.negate a) h = cc (term-agrees a h)
  side-agrees (Side.copy a) h = ap Some (term-agrees a h)

  -- and a term of one value under both is a variable on which they agree
  pub agree-term : (t : Term) → term_value σ t ≡ term_value τ t → InTerm (λ v. σ v ≡ τ v) t
  agree-term (Term.Variable v) h = h
  agree-term (Term.Constant c) h = tt

-- a test on which ids are defined
pub defines-cons : (d : Definition) (ds : List Definition) (v : ℕ) → defines (d ∷ ds) v ≡ false → (v ≡ d.id → ⊥) × (defines ds v ≡ false)
unfolding defines
defines-cons d ds v h = let r = both_false (eqb v d.id) (defines ds v) h in (eqb-false v d.id r.0, r.1)

pub every-both : (Q R : ℕ → Type 0) (e : Flat) → Every Q e → Every R e → Every (λ v. Q v × R v) e
every-both Q R (Flat.infixed o a b) h i = (every-both Q R a h.0 i.0, every-both Q R b h.1 i.1)
every-both Q R (Flat.negate a) h i = every-both Q R a h i
every-both Q R (Flat.constant c) h i = tt
every-both Q R (Flat.variable v) h i = (h, i)

pub or-false : (a b : Bool) → a ≡ false → b ≡ false → (a || b) ≡ false
or-false true b p q = p
or-false false b p q = q

pub defines-those : (t : ℕ → Bool) (ds : List Definition) (v : ℕ) → defines ds v ≡ false → defines (those t ds) v ≡ false
unfolding defines those keep_if
defines-those t [] v h = refl
defines-those t (d ∷ ds) v h = go (defines-those t ds v r.1) (t d.id)
  where
    r : (eqb v d.id ≡ false) × (defines ds v ≡ false)
    r = both_false (eqb v d.id) (defines ds v) h

    go : defines (those t ds) v ≡ false → (b : Bool) → defines (keep_if b d (those t ds)) v ≡ false
    go ih true = or-false (eqb v d.id) (defines (those t ds) v) r.0 ih
    go ih false = ih
