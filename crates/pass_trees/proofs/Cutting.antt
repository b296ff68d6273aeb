-- Cutting an expression: what its equalities say of its term, that they determine it, and that values can be found for the new ids.
use Rattle.std.proofs.Common.{◌≡◌, ℕ, suc, ◌<◌, ◌≤◌, List, [], ◌∷◌, ◌++◌, ℤ, sym, refl, ap, ◌∙◌, subst, ap₂, le_trans, le_refl, arith}
use mathlib.Core.Option.{Option, none, some}
use Rattle.std.specs.Prelude.{Some, None}
use Rattle.field.specs.Prime.{P}
use Rattle.field.proofs.Primality.{P-prime}
use Rattle.field.proofs.Answers.{value-path, nothing-value, opposite-element, infix-element}
use Rattle.field.specs.Element.{elem}
use Rattle.field.specs.Operations.{opposite, infix_of, Answer}
use Rattle.field.specs.declared.InfixOp.{InfixOp}
use Rattle.flat.specs.Trees.{Flat}
use Rattle.flat.specs.Meaning.{update, Assignment, Elements, on_values, negated, value}
use Rattle.flat.specs.Rules.{All, Every}
use Rattle.constraint.specs.declared.Term.{Term}
use Rattle.constraint.specs.Trees.{Side, Equality}
use Rattle.constraint.specs.Meaning.{InTerm, InSide, InEquality, term_value, side_value, EqualityHolds}
use Rattle.pass_trees.specs.Passes.{infix_op, Cut, or_variable, push_constraint_def, copied, flatten_expr_to_3ac}
use Rattle.pass_trees.proofs.Lists.{update_all, update_same, update_other, all_append, all_split, all_map, every_map}
use Rattle.pass_trees.proofs.Lists.{term-map, side-map, infix-in, value-agrees, term-agrees, side-agrees, agree-term}
use Rattle.pass_trees.proofs.Simplified.{infix-value}

-- values taken apart
pub negated-value : (a : Answer) (z : ℤ) → negated a ≡ Some z → (y : ℤ) × (a ≡ Some y) × (opposite P y ≡ z)
unfolding negated
negated-value (Some y) z e = (y, refl, value-path _ _ e)
negated-value None z e = absurd (nothing-value z e)

pub both_values : (o : InfixOp) (a b : Answer) (z : ℤ) → on_values o a b ≡ Some z → (x y : ℤ) × (a ≡ Some x) × (b ≡ Some y) × (infix_of P o x y ≡ Some z)
unfolding on_values
both_values o (Some x) (Some y) z e = (x, y, refl, refl, e)
both_values o (Some x) None z e = absurd (nothing-value z e)
both_values o None b z e = absurd (nothing-value z e)

-- the equalities of a cut expression give its term the expression's value
module _ (σ : Assignment) (el : Elements σ) where
  pub read : (out : Option Term) (e : Flat) (n : ℕ) → All (EqualityHolds σ) (flatten_expr_to_3ac out e n).equalities
      → value σ e ≡ Some (term_value σ (flatten_expr_to_3ac out e n).term)
  unfolding flatten_expr_to_3ac copied push_constraint_def value negated on_values side_value
  read none (Flat.constant c) n h = refl
  read (some l) (Flat.constant c) n h = h.0
  read none (Flat.variable v) n h = refl
  read (some l) (Flat.variable v) n h = h.0
  read out (Flat.negate a) n h =
      let x : Cut = flatten_expr_to_3ac none a n in
      let s = all_split (EqualityHolds σ) x.equalities _ h in
      ap negated (read none a n s.0) ∙ s.1.0
  read out (Flat.infixed o a b) n h =
      let x : Cut = flatten_expr_to_3ac none a n in
      let y : Cut = flatten_expr_to_3ac none b x.next in
      let s = all_split (EqualityHolds σ) (x.equalities ++ y.equalities) _ h in
      let r = all_split (EqualityHolds σ) x.equalities y.equalities s.0 in
      ap₂ (on_values o) (read none a n r.0) (read none b x.next r.1) ∙ sym (infix-value σ el x.term y.term o) ∙ s.1.0

-- assignments that fulfil them and agree on the expression's variables agree on all of the equalities' variables
module _ (σ τ : Assignment) where
  abbrev pub Same : ℕ → Type 0
  Same v = σ v ≡ τ v

  pub left-same : (l : Term) (s : Side) → InSide Same s → side_value σ s ≡ Some (term_value σ l) → side_value τ s ≡ Some (term_value τ l) → InTerm Same l
  left-same l s h p q = agree-term σ τ l (value-path _ _ (sym p ∙ side-agrees σ τ s h ∙ q))

  pub determined : (out : Option Term) (e : Flat) (n : ℕ) → Every Same e
      → All (EqualityHolds σ) (flatten_expr_to_3ac out e n).equalities → All (EqualityHolds τ) (flatten_expr_to_3ac out e n).equalities
      → All (InEquality Same) (flatten_expr_to_3ac out e n).equalities × InTerm Same (flatten_expr_to_3ac out e n).term
  unfolding flatten_expr_to_3ac copied push_constraint_def
  determined none (Flat.constant c) n q h k = (tt, tt)
  determined (some l) (Flat.constant c) n q h k =
      let f = left-same l (Side.copy (Term.Constant c)) tt h.0 k.0 in
      (((f, tt), tt), f)
  determined none (Flat.variable v) n q h k = (tt, q)
  determined (some l) (Flat.variable v) n q h k =
      let f = left-same l (Side.copy (Term.Variable v)) q h.0 k.0 in
      (((f, q), tt), f)
  determined out (Flat.negate a) n q h k =
      let x : Cut = flatten_expr_to_3ac none a n in
      let s = all_split (EqualityHolds σ) x.equalities _ h in
      let t = all_split (EqualityHolds τ) x.equalities _ k in
      let d = determined none a n q s.0 t.0 in
      let f = left-same (or_variable out x.next) (Side.negate x.term) d.1 s.1.0 t.1.0 in
      (all_append (InEquality Same) x.equalities _ d.0 ((f, d.1), tt), f)
  determined out (Flat.infixed o a b) n q h k =
      let x : Cut = flatten_expr_to_3ac none a n in
      let y : Cut = flatten_expr_to_3ac none b x.next in
      let s = all_split (EqualityHolds σ) (x.equalities ++ y.equalities) _ h in
      let t = all_split (EqualityHolds τ) (x.equalities ++ y.equalities) _ k in
      let s' = all_split (EqualityHolds σ) x.equalities y.equalities s.0 in
      let t' = all_split (EqualityHolds τ) x.equalities y.equalities t.0 in
      let d = determined none a n q.0 s'.0 t'.0 in
      let e = determined none b x.next q.1 s'.1 t'.1 in
      let i : InSide Same (infix_op o x.term y.term) = infix-in Same o x.term y.term d.1 e.1 in
      let f = left-same (or_variable out y.next) (infix_op o x.term y.term) i s.1.0 t.1.0 in (
        all_append (InEquality Same) (x.equalities ++ y.equalities) _
            (all_append (InEquality Same) x.equalities y.equalities d.0 e.0) ((f, i), tt),
        f,
      )

-- ids of a cut lie below its next id
abbrev pub OutBelow : ℕ → Option Term → Type 0
OutBelow n none = Unit {0}
OutBelow n (some t) = InTerm (λ v. v < n) t

pub record Bounded (n : ℕ) (c : Cut) : Type 0 where
  pub grows : n ≤ c.next
  pub ids : All (InEquality (λ v. v < c.next)) c.equalities
  pub term : InTerm (λ v. v < c.next) c.term

pub equality-map : {Q R : ℕ → Type 0} → ((v : ℕ) → Q v → R v) → (q : Equality) → InEquality Q q → InEquality R q
equality-map f q h = (term-map f q.left h.0, side-map f q.right h.1)

pub raise : (m n : ℕ) → m ≤ n → (qs : List Equality) → All (InEquality (λ v. v < m)) qs → All (InEquality (λ v. v < n)) qs
raise m n l qs h = all_map (equality-map (λ v k. le_trans k l)) qs h

pushed-bounded : (out : Option Term) (es : List Equality) (n m : ℕ) (s : Side) → n ≤ m → OutBelow n out → All (InEquality (λ v. v < m)) es
    → InSide (λ v. v < m) s → Bounded n (push_constraint_def out es m s)
unfolding push_constraint_def or_variable
pushed-bounded out es n m s l o h i =
    record {
      grows = omega arith;
      ids = all_append (InEquality (λ v. v < suc m)) es _ (raise m (suc m) (omega arith) es h) ((left out o, side-map (λ v (k : v < m). omega arith) s i), tt);
      term = left out o;
    }
  where
    left : (out : Option Term) → OutBelow n out → InTerm (λ v. v < suc m) (or_variable out m)
    left none o = le_refl (suc m)
    left (some t) o = term-map (λ v (k : v < n). let r : v < suc m = omega arith in r) t o

pub bounded : (out : Option Term) (e : Flat) (n : ℕ) → Every (λ v. v < n) e → OutBelow n out → Bounded n (flatten_expr_to_3ac out e n)
unfolding flatten_expr_to_3ac copied
bounded none (Flat.constant c) n h o = record { grows = le_refl n; ids = tt; term = tt }
bounded (some l) (Flat.constant c) n h o = record { grows = le_refl n; ids = ((o, tt), tt); term = o }
bounded none (Flat.variable v) n h o = record { grows = le_refl n; ids = tt; term = h }
bounded (some l) (Flat.variable v) n h o = record { grows = le_refl n; ids = ((o, h), tt); term = o }
bounded out (Flat.negate a) n h o =
    let x : Cut = flatten_expr_to_3ac none a n in
    let b : Bounded n x = bounded none a n h tt in
    pushed-bounded out x.equalities n x.next (Side.negate x.term) b.grows o b.ids b.term
bounded out (Flat.infixed o a c) n h u =
    let x : Cut = flatten_expr_to_3ac none a n in
    let y : Cut = flatten_expr_to_3ac none c x.next in
    let b : Bounded n x = bounded none a n h.0 tt in
    let d : Bounded x.next y = bounded none c x.next (every_map (λ v (k : v < n). le_trans k b.grows) c h.1) tt in
    pushed-bounded out (x.equalities ++ y.equalities) n y.next (infix_op o x.term y.term) (le_trans b.grows d.grows) u
    (all_append _ x.equalities y.equalities (raise x.next y.next d.grows x.equalities b.ids) d.ids)
    (infix-in _ o x.term y.term (term-map (λ v (k : v < x.next). le_trans k d.grows) x.term b.term) d.term)

-- values for the new ids
pub record Extended (σ : Assignment) (n : ℕ) (c : Cut) (z : ℤ) : Type 0 where
  pub assignment : Assignment
  pub elements : Elements assignment
  pub same : (v : ℕ) → v < n → assignment v ≡ σ v
  pub holds : All (EqualityHolds assignment) c.equalities
  pub gives : term_value assignment c.term ≡ z

-- an equality looks only at its variables
pub holds-agrees : (σ τ : Assignment) (q : Equality) → InEquality (λ v. τ v ≡ σ v) q → EqualityHolds σ q → EqualityHolds τ q
holds-agrees σ τ q h k = side-agrees τ σ q.right h.1 ∙ k ∙ ap Some (sym (term-agrees τ σ q.left h.0))

pub holds-below : (σ τ : Assignment) (m : ℕ) → ((v : ℕ) → v < m → τ v ≡ σ v) → (qs : List Equality) → All (InEquality (λ v. v < m)) qs
    → All (EqualityHolds σ) qs → All (EqualityHolds τ) qs
holds-below σ τ m s [] b h = tt
holds-below σ τ m s (q ∷ qs) b h = (holds-agrees σ τ q (equality-map s q b.0) h.0, holds-below σ τ m s qs b.1 h.1)

abbrev pub OutValue : Assignment → ℤ → Option Term → Type 0
OutValue σ z none = Unit {0}
OutValue σ z (some t) = term_value σ t ≡ z

-- an equality more, for the id m: its value is that of the right side
push-extended : (σ : Assignment) (n : ℕ) (out : Option Term) (z : ℤ) → OutBelow n out → OutValue σ z out → elem P z ≡ z → (τ : Assignment) → Elements τ
    → ((v : ℕ) → v < n → τ v ≡ σ v) → (es : List Equality) (m : ℕ) (s : Side) → n ≤ m → All (EqualityHolds τ) es → All (InEquality (λ v. v < m)) es
    → InSide (λ v. v < m) s → side_value τ s ≡ Some z → Extended σ n (push_constraint_def out es m s) z
unfolding push_constraint_def or_variable
push-extended σ n out z below given ez τ el same es m s l h b i e =
    record {
      assignment = τ';
      elements = update_all (λ v x. elem P x ≡ x) τ m z ez el;
      same = old;
      holds =
          all_append (EqualityHolds τ') es _ (holds-below τ τ' m before es b h)
          (side-agrees τ' τ s (side-map before s i) ∙ e ∙ ap Some (sym (left out below given)), tt);
      gives = left out below given;
    }
  where
    τ' : Assignment
    τ' = update τ m z

    before : (v : ℕ) → v < m → τ' v ≡ τ v
    before v k = update_other τ m z v (λ (e : v ≡ m). omega arith)

    old : (v : ℕ) → v < n → τ' v ≡ σ v
    old v k = before v (le_trans k l) ∙ same v k

    left : (out : Option Term) → OutBelow n out → OutValue σ z out → term_value τ' (or_variable out m) ≡ z
    left none o g = update_same τ m z
    left (some t) o g = term-agrees τ' σ t (term-map old t o) ∙ g

pub below-value : (σ τ : Assignment) (n : ℕ) → ((v : ℕ) → v < n → τ v ≡ σ v) → (e : Flat) → Every (λ v. v < n) e → value τ e ≡ value σ e
below-value σ τ n s e h = value-agrees τ σ e (every_map s e h)

-- two expressions in turn
pub record Extended2 (σ : Assignment) (n : ℕ) (x y : Cut) (zx zy : ℤ) : Type 0 where
  pub assignment : Assignment
  pub elements : Elements assignment
  pub same : (v : ℕ) → v < n → assignment v ≡ σ v
  pub holds : All (EqualityHolds assignment) (x.equalities ++ y.equalities)
  pub gives : term_value assignment x.term ≡ zx
  pub gives2 : term_value assignment y.term ≡ zy

pub in-turn : (σ : Assignment) (n : ℕ) (x y : Cut) (zx zy : ℤ) → Bounded n x → (a : Extended σ n x zx) → Extended a.assignment x.next y zy
    → Extended2 σ n x y zx zy
in-turn σ n x y zx zy b a c =
    record {
      assignment = c.assignment;
      elements = c.elements;
      same = λ v k. c.same v (le_trans k b.grows) ∙ a.same v k;
      holds =
          all_append (EqualityHolds c.assignment) x.equalities y.equalities
          (holds-below a.assignment c.assignment x.next c.same x.equalities b.ids a.holds) c.holds;
      gives = term-agrees c.assignment a.assignment x.term (term-map c.same x.term b.term) ∙ a.gives;
      gives2 = c.gives;
    }

pub write : (σ : Assignment) → Elements σ → (out : Option Term) (e : Flat) (n : ℕ) → Every (λ v. v < n) e → OutBelow n out → (z : ℤ) → value σ e ≡ Some z
    → OutValue σ z out → Extended σ n (flatten_expr_to_3ac out e n) z
unfolding flatten_expr_to_3ac copied value side_value
write σ el none (Flat.constant c) n h o z e g = record { assignment = σ; elements = el; same = λ v k. refl; holds = tt; gives = value-path _ _ e }
write σ el (some l) (Flat.constant c) n h o z e g = record { assignment = σ; elements = el; same = λ v k. refl; holds = (e ∙ ap Some (sym g), tt); gives = g }
write σ el none (Flat.variable v) n h o z e g = record { assignment = σ; elements = el; same = λ v k. refl; holds = tt; gives = value-path _ _ e }
write σ el (some l) (Flat.variable v) n h o z e g = record { assignment = σ; elements = el; same = λ v k. refl; holds = (e ∙ ap Some (sym g), tt); gives = g }
write σ el out (Flat.negate a) n h o z e g =
    let p = negated-value (value σ a) z e in
    let x : Cut = flatten_expr_to_3ac none a n in
    let b : Bounded n x = bounded none a n h tt in
    let r : Extended σ n x p.0 = write σ el none a n h tt p.0 p.1 tt in
    push-extended σ n out z o g (subst (λ (w : ℤ). elem P w ≡ w) p.2 (opposite-element P P-prime p.0)) r.assignment r.elements r.same
    x.equalities x.next (Side.negate x.term) b.grows r.holds b.ids b.term
    (ap (λ (w : ℤ). Some (opposite P w)) r.gives ∙ ap Some p.2)
write σ el out (Flat.infixed q a c) n h o z e g =
    let p = both_values q (value σ a) (value σ c) z e in
    let x : Cut = flatten_expr_to_3ac none a n in
    let y : Cut = flatten_expr_to_3ac none c x.next in
    let b : Bounded n x = bounded none a n h.0 tt in
    let i : Every (λ v. v < x.next) c = every_map (λ v (k : v < n). le_trans k b.grows) c h.1 in
    let d : Bounded x.next y = bounded none c x.next i tt in
    let r : Extended σ n x p.0 = write σ el none a n h.0 tt p.0 p.2 tt in
    let s : Extended r.assignment x.next y p.1 =
    write r.assignment r.elements none c x.next i tt p.1 (below-value σ r.assignment n r.same c h.1 ∙ p.3) tt in
    let t : Extended2 σ n x y p.0 p.1 = in-turn σ n x y p.0 p.1 b r s in
    push-extended σ n out z o g (infix-element P P-prime q p.0 p.1 z p.4) t.assignment t.elements t.same (x.equalities ++ y.equalities)
    y.next (infix_op q x.term y.term) (le_trans b.grows d.grows) t.holds
    (all_append _ x.equalities y.equalities (raise x.next y.next d.grows x.equalities b.ids) d.ids)
    (infix-in _ q x.term y.term (term-map (λ v (k : v < x.next). le_trans k d.grows) x.term b.term) d.term)
    (infix-value t.assignment t.elements x.term y.term q ∙ ap₂ (infix_of P q) t.gives t.gives2 ∙ p.4)
