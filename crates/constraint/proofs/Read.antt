-- What is read of a record, by the cases of the code. Assumes nothing.
use Prim.Native.Nat.{ℕ, ◌+◌, ◌*◌}
use mathlib.Core.Path.{◌≡◌, ap}
use mathlib.Core.List.{List}
use mathlib.Core.Logic.{◌⊎◌, ⊎_elim}
use borrow.Author.Tests.{eq-eqb, ne_eqb}
use Rattle.std.proofs.lemmas.Bool.{cases_eq}
use Rattle.words.specs.Words.{word_at}
use Rattle.field.specs.declared.InfixOp.{InfixOp}
use Rattle.flat.specs.Record.{pick}
use Rattle.constraint.specs.declared.Term.{Term}
use Rattle.constraint.specs.declared.Operation.{Operation}
use Rattle.constraint.specs.declared.Equality.{Equality as Written}
use Rattle.constraint.specs.declared.reading.Layout.{Layout}
use Rattle.constraint.specs.Trees.{operation, first, second, written_of}
use Rattle.constraint.specs.Record.{COPY, EQUALITY-WORDS, NEGATE}
use Rattle.constraint.specs.Reading.{next, equalities, equalities_offset, layout_of, term_at, side_for, operation_of, equality_at, written_at}

-- the parts of a layout that was read
module _ (b : List ℕ) {l : Layout} (e : l ≡ layout_of b) where
  pub next-is : l.next ≡ next b
  unfolding layout_of
  next-is = ap (λ (l : Layout). l.next) e

  pub equalities-is : l.equalities ≡ equalities b
  unfolding layout_of
  equalities-is = ap (λ (l : Layout). l.equalities) e

  pub equalities-at-is : l.equalities_at ≡ equalities_offset b
  unfolding layout_of
  equalities-at-is = ap (λ (l : Layout). l.equalities_at) e

-- an equality, by its operation
by_number : {A : Type 0} (n : ℕ) → (n ≡ NEGATE → A) → ((n ≡ NEGATE → ⊥) → n ≡ COPY → A) → ((n ≡ NEGATE → ⊥) → (n ≡ COPY → ⊥) → A) → A
by_number n f g h = ⊎_elim f (λ (u : n ≡ NEGATE → ⊥). ⊎_elim (g u) (h u) (cases_eq n COPY)) (cases_eq n NEGATE)

module _ (b : List ℕ) (at k : ℕ) {l x y : Term} {n : ℕ} {o : Operation} (e0 : l ≡ term_at b (at + EQUALITY-WORDS * k))
    (e1 : n ≡ word_at b (at + EQUALITY-WORDS * k + 2)) (e2 : x ≡ term_at b (at + EQUALITY-WORDS * k + 3)) (e : o ≡ operation_of n) where
  pub equality-infix : {p : InfixOp} → o ≡ Operation.Infix p → y ≡ term_at b (at + EQUALITY-WORDS * k + 5) →
      ◌≡◌ {A = Written} (record { left = l; operation = o; first = x; second = y }) (written_at b at k)
  unfolding operation_of written_at equality_at written_of side_for pick operation first second
  equality-infix q e3 = by_number n
      (λ u. let w = rw (eq-eqb n NEGATE u) at e in cc)
      (λ u v. let w = rw (ne_eqb n NEGATE u, eq-eqb n COPY v) at e in cc)
      (λ u v. rw (e, e0, e2, e3, ← e1, ne_eqb n NEGATE u, ne_eqb n COPY v))

  pub equality-one : (o ≡ Operation.Negate) ⊎ (o ≡ Operation.Copy) → y ≡ Term.Variable 0 →
      ◌≡◌ {A = Written} (record { left = l; operation = o; first = x; second = y }) (written_at b at k)
  unfolding operation_of written_at equality_at written_of side_for pick operation first second
  equality-one q e3 = by_number n
      (λ u. rw (e, e0, e2, e3, ← e1, eq-eqb n NEGATE u))
      (λ u v. rw (e, e0, e2, e3, ← e1, ne_eqb n NEGATE u, eq-eqb n COPY v))
      (λ u v. let w = rw (ne_eqb n NEGATE u, ne_eqb n COPY v) at e in ⊎_elim (λ (r : o ≡ Operation.Negate). cc) (λ (r : o ≡ Operation.Copy). cc) q)
