-- A walk along the substitutions in an array: none, a number or a variable stands for an id, and a walk's turns and ends. Assumes nothing.
use mathlib.Core.Path.{◌≡◌, sym, ap, ◌∙◌}
use mathlib.Core.List.{List}
use mathlib.Core.Option.{none, some}
use Prim.Native.Nat.{ℕ, suc, ◌-◌, ◌≤◌, ◌<◌}
use native.Mathlib.Omega.{arith}
use lib.IntN.{ℤ}
use lib.ListN.{length, get_or, get_or-eq_default}
use Rattle.constraint.specs.declared.Term.{Term}
use Rattle.pass_trees.specs.Passes.{walk}
use Rattle.pass_trees.proofs.Loops.{walk_step, walk-resolved}
use Rattle.pass_copies.specs.declared.Substitute.{Substitute}
use Rattle.pass_copies.specs.Substituted.{term_of, subst_of}

-- what stands for an id
pub stands-past : (m : List Substitute) (v : ℕ) → length m ≤ v → subst_of m v ≡ none
unfolding subst_of term_of
stands-past m v h = ap term_of (get_or-eq_default m Substitute.Itself {n = v} h)

pub stands-none : (m : List Substitute) (v : ℕ) → get_or m v Substitute.Itself ≡ Substitute.Itself → subst_of m v ≡ none
unfolding subst_of term_of
stands-none m v e = ap term_of e

pub stands-variable : (m : List Substitute) (v : ℕ) {w : ℕ} → get_or m v Substitute.Itself ≡ Substitute.Variable w → subst_of m v ≡ some (Term.Variable w)
unfolding subst_of term_of
stands-variable m v e = ap term_of e

pub stands-constant : (m : List Substitute) (v : ℕ) {c : ℤ} → get_or m v Substitute.Itself ≡ Substitute.Constant c → subst_of m v ≡ some (Term.Constant c)
unfolding subst_of term_of
stands-constant m v e = ap term_of e

-- a walk to t from an id with `left` steps left
module _ (m : List Substitute) (t : Term) (left id : ℕ) (from : walk left (subst_of m) (Term.Variable id) ≡ t) where
  pub ends-none : subst_of m id ≡ none → Term.Variable id ≡ t
  ends-none e = sym (walk-resolved left (subst_of m) (Term.Variable id) e) ∙ from

  pub ends-steps : left ≤ 0 → Term.Variable id ≡ t
  unfolding walk
  ends-steps h = let z : 0 ≡ left = omega arith in ap (λ (k : ℕ). walk k (subst_of m) (Term.Variable id)) z ∙ from

  pub turns : (u : Term) → subst_of m id ≡ some u → 0 < left → walk (left - 1) (subst_of m) u ≡ t
  turns u e l =
      let s : suc (left - 1) ≡ left = omega arith in
      sym (walk_step (left - 1) (subst_of m) id u e) ∙ ap (λ (k : ℕ). walk k (subst_of m) (Term.Variable id)) s ∙ from

  pub ends-constant : {c : ℤ} → subst_of m id ≡ some (Term.Constant c) → 0 < left → Term.Constant c ≡ t
  ends-constant {c} e l = sym (walk-resolved (left - 1) (subst_of m) (Term.Constant c) tt) ∙ turns (Term.Constant c) e l
