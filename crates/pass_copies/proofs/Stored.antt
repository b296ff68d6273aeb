-- Substitutions written to the array, and an array without any. Assumes nothing.
use mathlib.Core.Path.{◌≡◌, refl, sym, ap, ◌∙◌, fun_ext}
use mathlib.Core.List.{List}
use mathlib.Core.Bool.{Bool, true, false, cond}
use mathlib.Core.Option.{none, some}
use mathlib.Core.Logic.{⊎_elim}
use Prim.Native.Nat.{ℕ, ◌≤◌, ◌<◌}
use native.Mathlib.Omega.{arith}
use lib.IntN.{ℤ}
use lib.Dec.{eqb}
use lib.ListN.{length, set, length-set, length-replicate, get_or-replicate}
use lib.Seq.{get_or-set_same, get_or-set_other}
use borrow.Author.Tests.{eq-eqb, ne_eqb}
use Rattle.std.specs.Prelude.{Option, None, Some}
use Rattle.std.proofs.lemmas.Bool.{cases_lt, cases_eq}
use Rattle.flat.specs.Trees.{Flat}
use Rattle.flat.specs.Meaning.{update}
use Rattle.flat.specs.Record.{pick}
use Rattle.constraint.specs.declared.Term.{Term}
use Rattle.pass_trees.specs.Passes.{substituting}
use Rattle.pass_trees.proofs.Lists.{update_same, update_other}
use Rattle.pass_copies.specs.declared.Substitute.{Substitute}
use Rattle.pass_copies.specs.Substituted.{term_of, standing, subst_of, no_substitutions, copied_of, put_term, put_root}
use Rattle.pass_copies.proofs.Walks.{stands-past, stands-none}

-- what the code leaves of the array, by the root of the copied right side
module _ (m : List Substitute) (v : ℕ) {x : Option Term} where
  pub put-none : x ≡ None → m ≡ put_root m v x
  unfolding put_root
  put-none q = sym (ap (put_root m v) q)

  pub put-itself : (w : ℕ) → x ≡ Some (Term.Variable w) → w ≡ v → m ≡ put_root m v x
  unfolding put_root pick
  put-itself w q h = rw (q, h, eq-eqb v v refl)

  pub put-variable : (w : ℕ) → x ≡ Some (Term.Variable w) → (w ≡ v → ⊥) → set m v (Substitute.Variable w) ≡ put_root m v x
  unfolding put_root put_term standing pick
  put-variable w q n = rw (q, ne_eqb w v n)

  pub put-constant : (c : ℤ) → x ≡ Some (Term.Constant c) → set m v (Substitute.Constant c) ≡ put_root m v x
  unfolding put_root put_term standing
  put-constant c q = rw q

pub put-length : (m : List Substitute) (v : ℕ) (x : Option Term) → length (put_root m v x) ≡ length m
unfolding put_root put_term pick
put-length m v None = refl
put-length m v (Some (Term.Constant c)) = simp length-set
put-length m v (Some (Term.Variable w)) = go (eqb w v)
  where
    go : (t : Bool) → length (pick t m (put_term m v (Term.Variable w))) ≡ length m
    go true = refl
    go false = simp length-set

-- THE ARRAY after a definition says what the substitutions after it are
module _ (m : List Substitute) (v : ℕ) (inside : v < length m) where
  term-is : (t : Term) → term_of (standing t) ≡ some t
  unfolding term_of standing
  term-is (Term.Variable w) = refl
  term-is (Term.Constant c) = refl

  term-says : (t : Term) → subst_of (put_term m v t) ≡ update (subst_of m) v (some t)
  unfolding put_term subst_of
  term-says t = fun_ext (λ w. ⊎_elim
      (λ (e : w ≡ v).
      let there = get_or-set_same {A = Substitute} m v (standing t) Substitute.Itself inside in
      rw e (ap term_of there ∙ term-is t ∙ sym (update_same (subst_of m) v (some t))))
      (λ (n : w ≡ v → ⊥).
      let there = get_or-set_other {A = Substitute} m v w (standing t) Substitute.Itself n in
      ap term_of there ∙ sym (update_other (subst_of m) v (some t) w n))
      (cases_eq w v))

  pub root-says : (e : Flat) → subst_of (put_root m v (copied_of e)) ≡ substituting false v e (subst_of m)
  unfolding put_root copied_of substituting pick
  root-says (Flat.infixed o a b) = refl
  root-says (Flat.negate a) = refl
  root-says (Flat.constant c) = term-says (Term.Constant c)
  root-says (Flat.variable w) = go (eqb w v)
    where
      go : (t : Bool) → subst_of (pick t m (put_term m v (Term.Variable w))) ≡ cond t (subst_of m) (update (subst_of m) v (some (Term.Variable w)))
      go true = refl
      go false = term-says (Term.Variable w)

pub none-length : length no_substitutions ≡ 65536
unfolding no_substitutions
none-length = length-replicate {A = Substitute} 65536 Substitute.Itself

pub none_is : subst_of no_substitutions ≡ (λ _. none)
unfolding no_substitutions
none_is = fun_ext (λ v. ⊎_elim
    (λ (l : v < 65536). stands-none no_substitutions v (get_or-replicate 65536 v Substitute.Itself Substitute.Itself l))
    (λ (l : 65536 ≤ v). stands-past no_substitutions v (omega (arith, none-length)))
    (cases_lt v 65536))
