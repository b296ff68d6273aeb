-- Copy propagation ends, on every list of definitions, ids defined twice included: as many steps as there are definitions reach a term that nothing stands
-- for.
-- Each entry's rank is the time of its last writing. Its value was resolved then, so what it leads to is written later, if ever: ranks rise along a walk.
use Rattle.std.proofs.Common.{◌≡◌, ℕ, zero, suc, ◌+◌, ◌<◌, ◌≤◌, Bool, true, false, cond, eqb, List, [], ◌∷◌, length, sym, refl, ap, ◌∙◌, subst, arith}
use mathlib.Core.Option.{Option, none, some}
use native.Mathlib.Decide.{ℕ_discrete}
use borrow.Author.Tests.{eqb-false}
use Rattle.flat.specs.Trees.{Flat, Definition}
use Rattle.flat.specs.Meaning.{update}
use Rattle.constraint.specs.declared.Term.{Term}
use Rattle.pass_trees.specs.Passes.{member, Substitutions, follow, walk, to_expr, copy_propagate_expr, substituting, after_def}
use Rattle.pass_trees.specs.Statements.{Resolved, WalksEnd, CopyPropagationEnds}
use Rattle.pass_trees.proofs.Lists.{update_same, update_other}

pub record Ranked (s : Substitutions) (n : ℕ) : Type 0 where
  pub rank : ℕ → ℕ
  pub rises : (v w : ℕ) (t : Term) → s v ≡ some (Term.Variable w) → s w ≡ some t → rank v < rank w
  pub below : (v : ℕ) (t : Term) → s v ≡ some t → rank v < n

pub not_some : {A : Type 0} (t : Term) → none ≡ some t → A
not_some t e = absurd (let z : ◌≡◌ {A = ℕ} 0 1 = cc in omega arith)

pub same_some : (t u : Term) → some t ≡ some u → t ≡ u
same_some t u e = cc

same-flat : (t u : Term) → to_expr t ≡ to_expr u → t ≡ u
unfolding to_expr
same-flat (Term.Variable v) (Term.Variable w) e = cc
same-flat (Term.Variable v) (Term.Constant c) e = absurd (let z : ◌≡◌ {A = ℕ} 0 1 = cc in omega arith)
same-flat (Term.Constant d) (Term.Variable w) e = absurd (let z : ◌≡◌ {A = ℕ} 0 1 = cc in omega arith)
same-flat (Term.Constant d) (Term.Constant c) e = cc

-- the copy of an expression, where it is a term, is the end of a walk
pub copy-resolved : (s : Substitutions) (k : ℕ) → ((t : Term) → Resolved s (walk k s t)) → (e : Flat) (t : Term)
    → copy_propagate_expr k s e ≡ to_expr t → Resolved s t
unfolding copy_propagate_expr to_expr
copy-resolved s k ended (Flat.infixed o a b) (Term.Variable v) h = absurd (let z : ◌≡◌ {A = ℕ} 0 1 = cc in omega arith)
copy-resolved s k ended (Flat.infixed o a b) (Term.Constant c) h = tt
copy-resolved s k ended (Flat.negate a) (Term.Variable v) h = absurd (let z : ◌≡◌ {A = ℕ} 0 1 = cc in omega arith)
copy-resolved s k ended (Flat.negate a) (Term.Constant c) h = tt
copy-resolved s k ended (Flat.constant d) (Term.Variable v) h = absurd (let z : ◌≡◌ {A = ℕ} 0 1 = cc in omega arith)
copy-resolved s k ended (Flat.constant d) (Term.Constant c) h = tt
copy-resolved s k ended (Flat.variable w) t h = subst (Resolved s) (same-flat (walk k s (Term.Variable w)) t h) (ended (Term.Variable w))

module _ (s : Substitutions) (n : ℕ) (r : Ranked s n) where
  -- a walk with as many steps as ranks are left
  ends : (m : ℕ) (t : Term) → ((v : ℕ) (u : Term) → t ≡ Term.Variable v → s v ≡ some u → n ≤ r.rank v + m) → Resolved s (walk m s t)
  unfolding walk follow
  ends zero (Term.Constant c) h = tt
  ends zero (Term.Variable v) h = go (s v) refl
    where
      go : (o : Option Term) → s v ≡ o → o ≡ none
      go none e = refl
      go (some u) e = absurd (omega (arith, h v u refl e, r.below v u e))
  ends (suc m) (Term.Constant c) h = tt
  ends (suc m) (Term.Variable v) h = go (ends m) (s v) refl
    where
      go : ((t : Term) → ((w : ℕ) (u : Term) → t ≡ Term.Variable w → s w ≡ some u → n ≤ r.rank w + m) → Resolved s (walk m s t)) → (o : Option Term) → s v ≡ o
          → Resolved s (follow o (Term.Variable v) (walk m s))
      go ih none e = e
      go ih (some t) e = ih t (λ w u p q. omega (arith, h v t refl e, r.rises v w u (e ∙ ap some p) q))

  -- one entry more
  entered : (v : ℕ) (o : Term) → ((w : ℕ) → o ≡ Term.Variable w → (w ≡ v → ⊥) × (s w ≡ none)) → Ranked (update s v (some o)) (suc n)
  entered v o fresh = record { rank = update r.rank v n; rises = rises'; below = below' }
    where
      at : (x : ℕ) → x ≡ v → (t : Term) → update s v (some o) x ≡ some t → o ≡ t
      at x e t h = same_some o t (sym (ap (update s v (some o)) e ∙ update_same s v (some o)) ∙ h)

      off : (x : ℕ) → (x ≡ v → ⊥) → (t : Term) → update s v (some o) x ≡ some t → s x ≡ some t
      off x k t h = sym (update_other s v (some o) x k) ∙ h

      at-rank : (x : ℕ) → x ≡ v → update r.rank v n x ≡ n
      at-rank x e = ap (update r.rank v n) e ∙ update_same r.rank v n

      off-rank : (x : ℕ) → (x ≡ v → ⊥) → update r.rank v n x ≡ r.rank x
      off-rank x k = update_other r.rank v n x k

      rises' : (x w : ℕ) (t : Term) → update s v (some o) x ≡ some (Term.Variable w) → update s v (some o) w ≡ some t
          → update r.rank v n x < update r.rank v n w
      rises' x w t h k = go (ℕ_discrete x v) (ℕ_discrete w v)
        where
          go : Dec (x ≡ v) → Dec (w ≡ v) → update r.rank v n x < update r.rank v n w
          go (yes e) d =
              let f = fresh w (at x e (Term.Variable w) h) in
              not_some t (sym f.1 ∙ off w f.0 t k)
          go (no e) (yes i) = omega (arith, off-rank x e, at-rank w i, r.below x (Term.Variable w) (off x e (Term.Variable w) h))
          go (no e) (no i) = omega (arith, off-rank x e, off-rank w i, r.rises x w t (off x e (Term.Variable w) h) (off w i t k))

      below' : (x : ℕ) (t : Term) → update s v (some o) x ≡ some t → update r.rank v n x < suc n
      below' x t h = go (ℕ_discrete x v)
        where
          go : Dec (x ≡ v) → update r.rank v n x < suc n
          go (yes e) = omega (arith, at-rank x e)
          go (no e) = omega (arith, off-rank x e, r.below x t (off x e t h))

  later : Ranked s (suc n)
  later = record { rank = r.rank; rises = r.rises; below = λ v t h. omega (arith, r.below v t h) }

  -- a definition whose copy is resolved where it is a term
  after : (b : Bool) (v : ℕ) (e : Flat) → ((t : Term) → e ≡ to_expr t → Resolved s t) → Ranked (substituting b v e s) (suc n)
  unfolding substituting to_expr
  after true v e h = later
  after false v (Flat.infixed o a b) h = later
  after false v (Flat.negate a) h = later
  after false v (Flat.constant c) h = entered v (Term.Constant c) (λ w e. absurd (let z : ◌≡◌ {A = ℕ} 0 1 = cc in omega arith))
  after false v (Flat.variable w) h = go (eqb w v) refl
    where
      go : (b : Bool) → eqb w v ≡ b → Ranked (cond b s (update s v (some (Term.Variable w)))) (suc n)
      go true e = later
      go false e = entered v (Term.Variable w) (λ x i. let j : w ≡ x = cc in ((λ k. eqb-false w v e (j ∙ k)), ap s (sym j) ∙ h (Term.Variable w) refl))

pub walks-end : (ps : List ℕ) (k : ℕ) (ds : List Definition) (s : Substitutions) (n : ℕ) → Ranked s n → n + length ds ≤ k → WalksEnd ps k s ds
unfolding after_def
walks-end ps k [] s n r l = λ t. ends s n r k t (λ v u p q. omega arith)
walks-end ps k (d ∷ ds) s n r l =
    let ended : (t : Term) → Resolved s (walk k s t) = λ t. ends s n r k t (λ v u p q. omega arith) in
    (ended, walks-end ps k ds _ (suc n) (after s n r (member d.id ps) d.id _ (copy-resolved s k ended d.right)) (omega arith))

-- the fuel that copy_propagate gives suffices
pub copy-propagation-ends : CopyPropagationEnds
copy-propagation-ends ps ds =
    walks-end ps (length ds) ds (λ _. none) 0 (record { rank = λ v. 0; rises = λ v w t h k. not_some t k; below = λ v t h. not_some t h }) (omega arith)
