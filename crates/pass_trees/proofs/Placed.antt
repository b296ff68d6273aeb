-- Equalities that are given a place: what is said of their sides stays. Assumes nothing.
use mathlib.Core.Path.{◌≡◌, refl, ap}
use mathlib.Core.List.{List, [], ◌∷◌, ◌++◌}
use Prim.Native.Nat.{ℕ}
use Rattle.flat.specs.Rules.{All}
use Rattle.constraint.specs.declared.Term.{Term}
use Rattle.constraint.specs.Trees.{Side, Equality, at_place}
use Rattle.pass_trees.specs.Passes.{all_at}

module _ (Q : Term → Side → Type 0) (p : ℕ) where
  pub placed-all : (qs : List Equality) → All (λ q. Q q.left q.right) qs → All (λ q. Q q.left q.right) (all_at p qs)
  unfolding all_at at_place
  placed-all [] h = tt
  placed-all (q ∷ qs) h = (h.0, placed-all qs h.1)

  pub unplaced-all : (qs : List Equality) → All (λ q. Q q.left q.right) (all_at p qs) → All (λ q. Q q.left q.right) qs
  unfolding all_at at_place
  unplaced-all [] h = tt
  unplaced-all (q ∷ qs) h = (h.0, unplaced-all qs h.1)

-- lists in two pieces, and a place twice
pub placed-append : (p : ℕ) (xs ys : List Equality) → all_at p (xs ++ ys) ≡ all_at p xs ++ all_at p ys
unfolding all_at
placed-append p [] ys = refl
placed-append p (q ∷ xs) ys = ap (λ (l : List Equality). at_place p q ∷ l) (placed-append p xs ys)

pub placed-twice : (p r : ℕ) (qs : List Equality) → all_at p (all_at r qs) ≡ all_at p qs
unfolding all_at at_place
placed-twice p r [] = refl
placed-twice p r (q ∷ qs) = ap (λ (l : List Equality). at_place p q ∷ l) (placed-twice p r qs)
