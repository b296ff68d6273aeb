-- Cutting lists: a piece of a cut means something of assignments, its equalities say just that, and pieces follow one another.
use Rattle.std.proofs.Common.{◌≡◌, ℕ, ◌<◌, ◌≤◌, Bool, true, false, not, List, [], ◌∷◌, ℤ, sym, refl, ap, ◌∙◌, subst, le_trans, le_refl}
use mathlib.Core.Path.{fun_ext}
use mathlib.Core.Option.{none, some}
use Rattle.std.specs.Prelude.{Some}
use Rattle.flat.specs.Trees.{Flat, Definition, Equation}
use Rattle.flat.specs.Rules.{All, Every}
use Rattle.flat.specs.Meaning.{Assignment, Elements, value, DefinitionHolds, EquationHolds}
use Rattle.constraint.specs.declared.Term.{Term}
use Rattle.constraint.specs.Trees.{Side}
use Rattle.constraint.specs.Meaning.{InTerm, InSide, InEquality, term_value, side_value, EqualityHolds}
use Rattle.pass_trees.specs.Passes.{member, keep_if, those, Cut, or_variable, push_constraint_def, copied, to_expr, flatten_expr_to_3ac, Cuts, cuts_of}
use Rattle.pass_trees.specs.Passes.{joined, placed, flatten_def_to_3ac, flatten_defs, Sides, into, both, sides, flatten_sides, flatten_equations, flatten_lists}
use Rattle.pass_trees.specs.Statements.{Extension}
use Rattle.pass_trees.proofs.Lists.{all_append, all_split, every_map, term-map, term-agrees, value-agrees}
use Rattle.pass_trees.proofs.Copied.{CountedIn}
use Rattle.pass_trees.proofs.Placed.{placed-all, unplaced-all}
use Rattle.pass_trees.proofs.Cutting.{read, Same, determined, Bounded, raise, bounded, Extended, holds-below, below-value, Extended2, in-turn, write}

-- a term that is given another
pub copied-term : (l t : Term) (n : ℕ) → flatten_expr_to_3ac (some l) (to_expr t) n ≡ copied (some l) t n
unfolding flatten_expr_to_3ac to_expr
copied-term l (Term.Variable v) n = refl
copied-term l (Term.Constant c) n = refl

copy_sides : Flat → Flat → ℕ → Cuts
copy_sides a b n =
    let x : Cut = flatten_expr_to_3ac none a n in
    let y : Cut = flatten_expr_to_3ac none b x.next in
    joined x.equalities (joined y.equalities (cuts_of (copied (some x.term) y.term y.next)))

copy-sides : (a b : Flat) → copy_sides a b ≡ flatten_sides (both a b)
unfolding copy_sides flatten_sides
copy-sides a b =
    fun_ext
    (λ n.
    let x : Cut = flatten_expr_to_3ac none a n in
    let y : Cut = flatten_expr_to_3ac none b x.next in
    ap (λ (c : Cut). joined x.equalities (joined y.equalities (cuts_of c))) (sym (copied-term x.term y.term y.next)))

-- what an equality says, and which variables it has, is of its sides alone
abbrev Holds : Assignment → Term → Side → Type 0
Holds σ l r = side_value σ r ≡ Some (term_value σ l)

abbrev Within : (ℕ → Type 0) → Term → Side → Type 0
Within Q l r = InTerm Q l × InSide Q r

-- what is cut has its variables in S, which lie below k; new ids are drawn from n on
pub record Piece (k : ℕ) (S : ℕ → Type 0) (means : Assignment → Type 0) (cuts : ℕ → Cuts) : Type 0 where
  pub local : (σ τ : Assignment) → ((v : ℕ) → S v → τ v ≡ σ v) → means σ → means τ
  pub reads : (σ : Assignment) → Elements σ → (n : ℕ) → All (EqualityHolds σ) (cuts n).equalities → means σ
  pub determines : (σ τ : Assignment) → ((v : ℕ) → S v → σ v ≡ τ v) → (n : ℕ) → All (EqualityHolds σ) (cuts n).equalities
      → All (EqualityHolds τ) (cuts n).equalities → All (InEquality (λ v. σ v ≡ τ v)) (cuts n).equalities
  pub grows : (n : ℕ) → k ≤ n → n ≤ (cuts n).next
  pub ids : (n : ℕ) → k ≤ n → All (InEquality (λ v. v < (cuts n).next)) (cuts n).equalities
  pub writes : (σ : Assignment) → Elements σ → (n : ℕ) → k ≤ n → means σ → Extension σ n (cuts n).equalities

-- an equation, whichever of its sides is given
abbrev SidesHold : Assignment → Sides → Type 0
SidesHold σ (into t e) = value σ e ≡ Some (term_value σ t)
SidesHold σ (both a b) = (z : ℤ) × (value σ a ≡ Some z) × (value σ b ≡ Some z)

module _ (k : ℕ) (S : ℕ → Type 0) (low : (v : ℕ) → S v → v < k) where
  pub nothing : Piece k S (λ σ. Unit {0}) (λ n. record { next = n; equalities = [] })
  nothing =
      record {
        local = λ σ τ s h. tt;
        reads = λ σ el n h. tt;
        determines = λ σ τ s n h i. tt;
        grows = λ n l. le_refl n;
        ids = λ n l. tt;
        writes = λ σ el n l h. record { assignment = σ; elements = el; same = λ v b. refl; holds = tt };
      }

  pub follows : {A B : Assignment → Type 0} {p q : ℕ → Cuts} → Piece k S A p → Piece k S B q
      → Piece k S (λ σ. A σ × B σ) (λ n. joined (p n).equalities (q (p n).next))
  unfolding joined
  follows {A} {B} {p} {q} a b =
      record {
        local = λ σ τ s h. (a.local σ τ s h.0, b.local σ τ s h.1);
        reads = λ σ el n h.
            let r = all_split (EqualityHolds σ) (p n).equalities (q (p n).next).equalities h in
            (a.reads σ el n r.0, b.reads σ el (p n).next r.1);
        determines = λ σ τ s n h i.
            let r = all_split (EqualityHolds σ) (p n).equalities (q (p n).next).equalities h in
            let t = all_split (EqualityHolds τ) (p n).equalities (q (p n).next).equalities i in
            all_append (InEquality (λ v. σ v ≡ τ v)) (p n).equalities (q (p n).next).equalities (a.determines σ τ s n r.0 t.0)
            (b.determines σ τ s (p n).next r.1 t.1);
        grows = λ n l. le_trans (a.grows n l) (b.grows (p n).next (le_trans l (a.grows n l)));
        ids = λ n l.
            let l' : k ≤ (p n).next = le_trans l (a.grows n l) in
            all_append (InEquality (λ v. v < (q (p n).next).next)) (p n).equalities (q (p n).next).equalities
            (raise (p n).next (q (p n).next).next (b.grows (p n).next l') (p n).equalities (a.ids n l)) (b.ids (p n).next l');
        writes = λ σ el n l h.
            let l' : k ≤ (p n).next = le_trans l (a.grows n l) in
            let x : Extension σ n (p n).equalities = a.writes σ el n l h.0 in
            let y : Extension x.assignment (p n).next (q (p n).next).equalities =
            b.writes x.assignment x.elements (p n).next l' (b.local σ x.assignment (λ v c. x.same v (le_trans (low v c) l)) h.1) in
            record {
              assignment = y.assignment;
              elements = y.elements;
              same = λ v c. y.same v (le_trans c (a.grows n l)) ∙ x.same v c;
              holds =
                  all_append (EqualityHolds y.assignment) (p n).equalities (q (p n).next).equalities
                  (holds-below x.assignment y.assignment (p n).next y.same (p n).equalities (a.ids n l) x.holds) y.holds;
            };
      }

  -- what means the same
  pub renamed : {A B : Assignment → Type 0} {p : ℕ → Cuts} → Piece k S A p → ((σ : Assignment) → A σ → B σ) → ((σ : Assignment) → B σ → A σ) → Piece k S B p
  renamed a f g =
      record {
        local = λ σ τ s h. f τ (a.local σ τ s (g σ h));
        reads = λ σ el n h. f σ (a.reads σ el n h);
        determines = a.determines;
        grows = a.grows;
        ids = a.ids;
        writes = λ σ el n l h. a.writes σ el n l (g σ h);
      }

  -- with another place
  pub piece-placed : {A : Assignment → Type 0} {c : ℕ → Cuts} (p : ℕ) → Piece k S A c → Piece k S A (λ n. placed p (c n))
  unfolding placed
  piece-placed {A} {c} p a =
      record {
        local = a.local;
        reads = λ σ el n h. a.reads σ el n (unplaced-all (Holds σ) p (c n).equalities h);
        determines = λ σ τ s n h i.
            placed-all (Within (λ v. σ v ≡ τ v)) p (c n).equalities
            (a.determines σ τ s n (unplaced-all (Holds σ) p (c n).equalities h) (unplaced-all (Holds τ) p (c n).equalities i));
        grows = a.grows;
        ids = λ n l. placed-all (Within (λ v. v < (c n).next)) p (c n).equalities (a.ids n l);
        writes = λ σ el n l h.
            let x : Extension σ n (c n).equalities = a.writes σ el n l h in
            record {
              assignment = x.assignment;
              elements = x.elements;
              same = x.same;
              holds = placed-all (Holds x.assignment) p (c n).equalities x.holds;
            };
      }

  -- an expression whose left side is given
  given-term : (t : Term) (e : Flat) (n : ℕ) → (flatten_expr_to_3ac (some t) e n).term ≡ t
  unfolding flatten_expr_to_3ac push_constraint_def copied or_variable
  given-term t (Flat.infixed o a b) n = refl
  given-term t (Flat.negate a) n = refl
  given-term t (Flat.constant c) n = refl
  given-term t (Flat.variable v) n = refl

  wider : (e : Flat) (n : ℕ) → k ≤ n → Every S e → Every (λ v. v < n) e
  wider e n l h = every_map (λ v b. le_trans (low v b) l) e h

  pub given-piece : (t : Term) (e : Flat) → InTerm S t → Every S e
      → Piece k S (λ σ. value σ e ≡ Some (term_value σ t)) (λ n. cuts_of (flatten_expr_to_3ac (some t) e n))
  unfolding cuts_of
  given-piece t e bt be =
      record {
        local = λ σ τ s h. value-agrees τ σ e (every_map s e be) ∙ h ∙ ap Some (sym (term-agrees τ σ t (term-map s t bt)));
        reads = λ σ el n h. read σ el (some t) e n h ∙ ap (λ (u : Term). Some (term_value σ u)) (given-term t e n);
        determines = λ σ τ s n h i. (determined σ τ (some t) e n (every_map s e be) h i).0;
        grows = λ n l. (whole n l).grows;
        ids = λ n l. (whole n l).ids;
        writes = λ σ el n l h.
            let x : Extended σ n (flatten_expr_to_3ac (some t) e n) (term_value σ t) =
            write σ el (some t) e n (wider e n l be) (in-term n l) (term_value σ t) h refl in
            record { assignment = x.assignment; elements = x.elements; same = x.same; holds = x.holds };
      }
    where
      in-term : (n : ℕ) → k ≤ n → InTerm (λ v. v < n) t
      in-term n l = term-map (λ v b. le_trans (low v b) l) t bt

      whole : (n : ℕ) → k ≤ n → Bounded n (flatten_expr_to_3ac (some t) e n)
      whole n l = bounded (some t) e n (wider e n l be) (in-term n l)

  -- two expressions, the term of the one a copy of the other's
  copied-piece : (a b : Flat) → Every S a → Every S b → Piece k S (λ σ. (z : ℤ) × (value σ a ≡ Some z) × (value σ b ≡ Some z)) (copy_sides a b)
  unfolding copy_sides joined cuts_of copied side_value
  copied-piece a b ha hb =
      record {
        local = λ σ τ s h. (h.0, value-agrees τ σ a (every_map s a ha) ∙ h.1, value-agrees τ σ b (every_map s b hb) ∙ h.2);
        reads = λ σ el n h.
            let r = all_split (EqualityHolds σ) (left n).equalities _ h in
            let t = all_split (EqualityHolds σ) (right n).equalities _ r.1 in
            (term_value σ (left n).term, read σ el none a n r.0, read σ el none b (left n).next t.0 ∙ t.1.0);
        determines = λ σ τ s n h i.
            let r = all_split (EqualityHolds σ) (left n).equalities _ h in
            let r' = all_split (EqualityHolds τ) (left n).equalities _ i in
            let t = all_split (EqualityHolds σ) (right n).equalities _ r.1 in
            let t' = all_split (EqualityHolds τ) (right n).equalities _ r'.1 in
            let d = determined σ τ none a n (every_map s a ha) r.0 r'.0 in
            let e = determined σ τ none b (left n).next (every_map s b hb) t.0 t'.0 in
            all_append (InEquality (Same σ τ)) (left n).equalities _ d.0
            (all_append (InEquality (Same σ τ)) (right n).equalities _ e.0 ((d.1, e.1), tt));
        grows = λ n l. le_trans (bl n l).grows (br n l).grows;
        ids = λ n l.
            all_append (InEquality (λ v. v < (right n).next)) (left n).equalities _
            (raise (left n).next (right n).next (br n l).grows (left n).equalities (bl n l).ids)
            (all_append (InEquality (λ v. v < (right n).next)) (right n).equalities _ (br n l).ids
            ((term-map (λ v (c : v < (left n).next). le_trans c (br n l).grows) (left n).term (bl n l).term, (br n l).term), tt));
        writes = λ σ el n l h.
            let x : Extended σ n (left n) h.0 = write σ el none a n (wider a n l ha) tt h.0 h.1 tt in
            let y : Extended x.assignment (left n).next (right n) h.0 = write x.assignment x.elements none b (left n).next
            (wider b (left n).next (le_trans l (bl n l).grows) hb) tt h.0 (below-value σ x.assignment n x.same b (wider b n l hb) ∙ h.2) tt in
            let t : Extended2 σ n (left n) (right n) h.0 h.0 = in-turn σ n (left n) (right n) h.0 h.0 (bl n l) x y in
            let r = all_split (EqualityHolds t.assignment) (left n).equalities (right n).equalities t.holds in
            record {
              assignment = t.assignment;
              elements = t.elements;
              same = t.same;
              holds =
                  all_append (EqualityHolds t.assignment) (left n).equalities _ r.0
                  (all_append (EqualityHolds t.assignment) (right n).equalities _ r.1 (ap Some (t.gives2 ∙ sym t.gives), tt));
            };
      }
    where
      left : ℕ → Cut
      left n = flatten_expr_to_3ac none a n

      right : ℕ → Cut
      right n = flatten_expr_to_3ac none b (left n).next

      bl : (n : ℕ) → k ≤ n → Bounded n (left n)
      bl n l = bounded none a n (wider a n l ha) tt

      br : (n : ℕ) → k ≤ n → Bounded (left n).next (right n)
      br n l = bounded none b (left n).next (wider b (left n).next (le_trans l (bl n l).grows) hb) tt

  pub both-piece : (a b : Flat) → Every S a → Every S b → Piece k S (λ σ. (z : ℤ) × (value σ a ≡ Some z) × (value σ b ≡ Some z)) (flatten_sides (both a b))
  both-piece a b ha hb = subst (Piece k S (λ σ. (z : ℤ) × (value σ a ≡ Some z) × (value σ b ≡ Some z))) (copy-sides a b) (copied-piece a b ha hb)

  abbrev SidesBelow : Sides → Type 0
  SidesBelow (into t e) = InTerm S t × Every S e
  SidesBelow (both a b) = Every S a × Every S b

  sides-piece : (s : Sides) → SidesBelow s → Piece k S (λ σ. SidesHold σ s) (flatten_sides s)
  unfolding flatten_sides
  sides-piece (into t e) h = given-piece t e h.0 h.1
  sides-piece (both a b) h = both-piece a b h.0 h.1

  sides-below : (a b : Flat) → Every S a → Every S b → SidesBelow (sides a b)
  unfolding sides
  sides-below (Flat.variable v) b h i = (h, i)
  sides-below (Flat.constant c) (Flat.variable w) h i = (i, h)
  sides-below (Flat.constant c) (Flat.constant d) h i = (h, i)
  sides-below (Flat.constant c) (Flat.negate b) h i = (h, i)
  sides-below (Flat.constant c) (Flat.infixed o b d) h i = (h, i)
  sides-below (Flat.negate a) (Flat.variable w) h i = (i, h)
  sides-below (Flat.negate a) (Flat.constant c) h i = (i, h)
  sides-below (Flat.negate a) (Flat.negate b) h i = (h, i)
  sides-below (Flat.negate a) (Flat.infixed o b d) h i = (h, i)
  sides-below (Flat.infixed o a c) (Flat.variable w) h i = (i, h)
  sides-below (Flat.infixed o a c) (Flat.constant d) h i = (i, h)
  sides-below (Flat.infixed o a c) (Flat.negate b) h i = (h, i)
  sides-below (Flat.infixed o a c) (Flat.infixed q b d) h i = (h, i)

module _ (σ : Assignment) where
  abbrev Equal : Flat → Flat → Type 0
  Equal a b = (z : ℤ) × (value σ a ≡ Some z) × (value σ b ≡ Some z)

  -- the given side has a value
  sides-equal : (a b : Flat) → SidesHold σ (sides a b) → Equal a b
  unfolding sides value
  sides-equal (Flat.variable v) b h = (_, refl, h)
  sides-equal (Flat.constant c) (Flat.variable w) h = (_, h, refl)
  sides-equal (Flat.constant c) (Flat.constant d) h = (_, refl, h)
  sides-equal (Flat.constant c) (Flat.negate b) h = (_, refl, h)
  sides-equal (Flat.constant c) (Flat.infixed o b d) h = (_, refl, h)
  sides-equal (Flat.negate a) (Flat.variable w) h = (_, h, refl)
  sides-equal (Flat.negate a) (Flat.constant c) h = (_, h, refl)
  sides-equal (Flat.negate a) (Flat.negate b) h = h
  sides-equal (Flat.negate a) (Flat.infixed o b d) h = h
  sides-equal (Flat.infixed o a c) (Flat.variable w) h = (_, h, refl)
  sides-equal (Flat.infixed o a c) (Flat.constant d) h = (_, h, refl)
  sides-equal (Flat.infixed o a c) (Flat.negate b) h = h
  sides-equal (Flat.infixed o a c) (Flat.infixed q b d) h = h

  equal-sides : (a b : Flat) → Equal a b → SidesHold σ (sides a b)
  unfolding sides value
  equal-sides (Flat.variable v) b h = h.2 ∙ sym h.1
  equal-sides (Flat.constant c) (Flat.variable w) h = h.1 ∙ sym h.2
  equal-sides (Flat.constant c) (Flat.constant d) h = h.2 ∙ sym h.1
  equal-sides (Flat.constant c) (Flat.negate b) h = h.2 ∙ sym h.1
  equal-sides (Flat.constant c) (Flat.infixed o b d) h = h.2 ∙ sym h.1
  equal-sides (Flat.negate a) (Flat.variable w) h = h.1 ∙ sym h.2
  equal-sides (Flat.negate a) (Flat.constant c) h = h.1 ∙ sym h.2
  equal-sides (Flat.negate a) (Flat.negate b) h = h
  equal-sides (Flat.negate a) (Flat.infixed o b d) h = h
  equal-sides (Flat.infixed o a c) (Flat.variable w) h = h.1 ∙ sym h.2
  equal-sides (Flat.infixed o a c) (Flat.constant d) h = h.1 ∙ sym h.2
  equal-sides (Flat.infixed o a c) (Flat.negate b) h = h
  equal-sides (Flat.infixed o a c) (Flat.infixed q b d) h = h

-- the lists
module _ (k : ℕ) (S : ℕ → Type 0) (low : (v : ℕ) → S v → v < k) where
  abbrev pub EquationIn : Equation → Type 0
  EquationIn e = Every S e.left × Every S e.right

  pub equations-piece : (es : List Equation) → All EquationIn es → Piece k S (λ σ. All (EquationHolds σ) es) (flatten_equations es)
  unfolding flatten_equations
  equations-piece [] h = nothing k S low
  equations-piece (e ∷ es) h =
      let cut = sides-piece k S low (sides e.left e.right) (sides-below k S low e.left e.right h.0.0 h.0.1) in
      follows k S low (renamed k S low (piece-placed k S low _ cut)
      (λ σ. sides-equal σ e.left e.right) (λ σ. equal-sides σ e.left e.right))
      (equations-piece es h.1)

  pub definitions-piece : (ps : List ℕ) (ds : List Definition) → All (CountedIn S ps) ds
      → Piece k S (λ σ. All (DefinitionHolds σ) (those (λ v. not (member v ps)) ds)) (flatten_defs ps ds)
  unfolding flatten_defs flatten_def_to_3ac those keep_if joined
  definitions-piece ps [] h = nothing k S low
  definitions-piece ps (d ∷ ds) h = go (definitions-piece ps ds h.1) (member d.id ps) refl
    where
      rest : List Definition
      rest = those (λ v. not (member v ps)) ds

      go : Piece k S (λ σ. All (DefinitionHolds σ) rest) (flatten_defs ps ds) → (b : Bool) → member d.id ps ≡ b
          → Piece k S (λ σ. All (DefinitionHolds σ) (keep_if (not b) d rest))
          (λ n. joined (flatten_def_to_3ac b d n).equalities (flatten_defs ps ds (flatten_def_to_3ac b d n).next))
      go ih true e = ih
      go ih false e =
          follows k S low (piece-placed k S low _ (given-piece k S low (Term.Variable d.id) d.right (h.0 e).0 (h.0 e).1)) ih

  pub module-piece : (ps : List ℕ) (ds : List Definition) (es : List Equation) → All (CountedIn S ps) ds → All EquationIn es
      → Piece k S (λ σ. All (DefinitionHolds σ) (those (λ v. not (member v ps)) ds) × All (EquationHolds σ) es) (flatten_lists ps ds es)
  unfolding flatten_lists
  module-piece ps ds es h i = follows k S low (definitions-piece ps ds h) (equations-piece es i)
