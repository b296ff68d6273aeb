-- What substitutions leave of an expression's shape: what the root says of dead equalities. Assumes nothing.
use mathlib.Core.Path.{◌≡◌, refl, sym, ap}
use mathlib.Core.Bool.{Bool, true, false}
use Prim.Native.Nat.{ℕ}
use native.Mathlib.Omega.{arith}
use lib.IntN.{pos, negsuc}
use borrow.Author.Tests.{eq-eqb, eqb-true}
use Rattle.std.specs.Prelude.{Some}
use Rattle.flat.specs.Trees.{Flat}
use Rattle.pass_trees.proofs.Lists.{same_number_lem}
use Rattle.constraint.specs.declared.Term.{Term}
use Rattle.pass_trees.specs.Passes.{to_expr, same_number, dead}
use Rattle.pass_copies.specs.Substituted.{copied_of, same_term, dead_roots}

-- ---- roots

pub root-term : (t : Term) → copied_of (to_expr t) ≡ Some t
unfolding copied_of to_expr
root-term (Term.Variable v) = refl
root-term (Term.Constant c) = refl

-- a root that is a term is the whole expression
pub leaf-is : (e : Flat) (t : Term) → copied_of e ≡ Some t → e ≡ to_expr t
unfolding copied_of to_expr
leaf-is (Flat.infixed o a b) t q = let z : ◌≡◌ {A = ℕ} 0 1 = cc in absurd (omega arith)
leaf-is (Flat.negate a) t q = let z : ◌≡◌ {A = ℕ} 0 1 = cc in absurd (omega arith)
leaf-is (Flat.constant c) t q = let z : Term.Constant c ≡ t = cc in ap to_expr z
leaf-is (Flat.variable v) t q = let z : Term.Variable v ≡ t = cc in ap to_expr z

-- ---- equal terms

same-itself : (t : Term) → same_term t t ≡ true
unfolding same_term same_number
same-itself (Term.Variable v) = eq-eqb v v refl
same-itself (Term.Constant (pos m)) = eq-eqb m m refl
same-itself (Term.Constant (negsuc m)) = eq-eqb m m refl

same-only : (x y : Term) → same_term x y ≡ true → x ≡ y
unfolding same_term
same-only (Term.Variable v) (Term.Variable w) h = ap Term.Variable (eqb-true v w h)
same-only (Term.Variable v) (Term.Constant d) h = cc
same-only (Term.Constant c) (Term.Variable w) h = cc
same-only (Term.Constant c) (Term.Constant d) h = ap Term.Constant (same_number_lem c d h)

-- a test that is true just at equal terms
pub decided : (t : Bool) (x y : Term) → (t ≡ true → x ≡ y) → (t ≡ false → x ≡ y → ⊥) → t ≡ same_term x y
decided true x y f g = sym (rw (f refl) (same-itself y))
decided false x y f g = other (same_term x y) refl
  where
    other : (s : Bool) → same_term x y ≡ s → false ≡ same_term x y
    other true e = absurd (g refl (same-only x y e))
    other false e = sym e

-- dead equalities, by the roots
pub dead-by-roots : (x y : Flat) → dead x y ≡ dead_roots (copied_of x) (copied_of y)
unfolding dead dead_roots same_term copied_of
dead-by-roots (Flat.constant c) (Flat.constant d) = refl
dead-by-roots (Flat.constant c) (Flat.variable w) = refl
dead-by-roots (Flat.constant c) (Flat.negate b) = refl
dead-by-roots (Flat.constant c) (Flat.infixed o b d) = refl
dead-by-roots (Flat.variable v) (Flat.constant d) = refl
dead-by-roots (Flat.variable v) (Flat.variable w) = refl
dead-by-roots (Flat.variable v) (Flat.negate b) = refl
dead-by-roots (Flat.variable v) (Flat.infixed o b d) = refl
dead-by-roots (Flat.negate a) y = refl
dead-by-roots (Flat.infixed o a c) y = refl
