-- THE ENTRIES of a record: as wide as the layout says, and what is read where one stands. Assumes nothing.
use mathlib.Core.Path.{◌≡◌, refl}
use mathlib.Core.List.{List}
use Prim.Native.Nat.{ℕ, ◌+◌, ◌*◌}
use native.Mathlib.Omega.{arith}
use lib.ListN.{length}
use Rattle.flat.specs.Layout.{DEFINITION-WORDS, EQUATION-WORDS, definition_entry, equation_entry}
use Rattle.flat.specs.Layout.{definition_words, equation_words}
use Rattle.flat.proofs.Standing.{Stands, at_place}

-- ---- how wide

pub length-definition : (id node place : ℕ) → length (definition_words id node place) ≡ DEFINITION-WORDS
unfolding definition_words
length-definition id node place = refl

pub length-equation : (left right place : ℕ) → length (equation_words left right place) ≡ EQUATION-WORDS
unfolding equation_words
length-equation left right place = refl

-- ---- read

module _ (b : List ℕ) (at j i : ℕ) where
  pub definition-reads : (id node place : ℕ) → i ≡ at + DEFINITION-WORDS * j → Stands b i (definition_words id node place)
      → ((definition_entry b at j).id ≡ id) × ((definition_entry b at j).node ≡ node) × ((definition_entry b at j).place ≡ place)
  unfolding definition_words
  definition-reads id node place here h =
      let ws = definition_words id node place in
      let first = at + DEFINITION-WORDS * j in (
        at_place b ws i first 0 (omega arith) (omega arith) h,
        at_place b ws i (first + 1) 1 (omega arith) (omega arith) h,
        at_place b ws i (first + 2) 2 (omega arith) (omega arith) h,
      )

  pub equation-reads : (left right place : ℕ) → i ≡ at + EQUATION-WORDS * j → Stands b i (equation_words left right place)
      → ((equation_entry b at j).left ≡ left) × ((equation_entry b at j).right ≡ right) × ((equation_entry b at j).place ≡ place)
  unfolding equation_words
  equation-reads left right place here h =
      let ws = equation_words left right place in
      let first = at + EQUATION-WORDS * j in (
        at_place b ws i first 0 (omega arith) (omega arith) h,
        at_place b ws i (first + 1) 1 (omega arith) (omega arith) h,
        at_place b ws i (first + 2) 2 (omega arith) (omega arith) h,
      )
