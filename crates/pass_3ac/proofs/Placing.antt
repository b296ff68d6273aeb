-- Equalities written one after the other are the list of them; what each way through the cut of a tree leaves. Assumes nothing.
use mathlib.Core.Path.{◌≡◌, refl, sym, ap, ◌∙◌}
use mathlib.Core.List.{List, [], ◌∷◌, ◌++◌, append-nil}
use Prim.Native.Nat.{ℕ, ◌+◌}
use native.Mathlib.Omega.{arith}
use lib.ListN.{length, length-append}
use Rattle.std.specs.Prelude.{unwrap_or, Option as Maybe, None, Some}
use Rattle.pass_copies.specs.Substituted.{option_of}
use Rattle.words.specs.Words.{set_words}
use Rattle.words.proofs.Laws.{set_words-append, length-set_words}
use Rattle.constraint.specs.declared.Term.{Term}
use Rattle.constraint.specs.declared.Equality.{Equality as Written}
use Rattle.constraint.specs.Trees.{Side, Equality, written_of, at_place}
use Rattle.constraint.specs.Record.{EQUALITY-WORDS, written_words, equality_words, equalities_words}
use Rattle.constraint.proofs.Lengths.{length-equalities, equalities-append}
use Rattle.pass_trees.specs.Passes.{or_variable, copied, all_at}
use Rattle.pass_3ac.specs.Cutting.{placed_cut, put_equalities, after, cut_from}

-- ---- lists of equalities

pub put-none : (b : List ℕ) (at : ℕ) → put_equalities b at [] ≡ b
unfolding put_equalities equalities_words set_words
put-none b at = refl

pub after_none : (at : ℕ) → after at [] ≡ at
unfolding after
after_none at = omega arith

pub put-append : (b : List ℕ) (at : ℕ) (xs ys : List Equality) → put_equalities b at (xs ++ ys) ≡ put_equalities (put_equalities b at xs) (after at xs) ys
unfolding put_equalities after
put-append b at xs ys =
    ap (set_words b at) (equalities-append xs ys)
    ∙ set_words-append (equalities_words xs) (equalities_words ys) b at
    ∙ ap (λ (n : ℕ). set_words (set_words b at (equalities_words xs)) (at + n) (equalities_words ys)) (length-equalities xs)

pub after-append : (at : ℕ) (xs ys : List Equality) → after at (xs ++ ys) ≡ after (after at xs) ys
unfolding after
after-append at xs ys = omega (arith, length-append xs ys)

pub length-put : (b : List ℕ) (at : ℕ) (qs : List Equality) → length (put_equalities b at qs) ≡ length b
unfolding put_equalities
length-put b at qs = length-set_words (equalities_words qs) b at

pub put_one : (b : List ℕ) (at place : ℕ) (l : Term) (r : Side)
    → set_words b at (written_words (written_of l r) place) ≡ put_equalities b at (record { left = l; right = r; place = place } ∷ [])
unfolding put_equalities equalities_words equality_words
put_one b at place l r = ap (set_words b at) (sym (append-nil _))

pub after_one : (at : ℕ) (q : Equality) → after at (q ∷ []) ≡ at + EQUALITY-WORDS
unfolding after
after_one at q = omega arith

-- ---- terms

pub left_is : (t : Maybe Term) (n : ℕ) → unwrap_or t (Term.Variable n) ≡ or_variable (option_of t) n
unfolding option_of or_variable
left_is None n = refl
left_is (Some l) n = refl

module _ (place : ℕ) (b : List ℕ) (at n : ℕ) (target : Maybe Term) (t : Term) where
  pub placed-new : target ≡ None
      → (b ≡ put_equalities b at (placed_cut place (copied (option_of target) t n)).equalities)
      × (record { term = t; place = record { next = n; at = at } } ≡ cut_from at (placed_cut place (copied (option_of target) t n)))
  unfolding option_of copied cut_from all_at
  placed-new e = rw e (sym (put-none b at), ap (λ (m : ℕ). record { term = t; place = record { next = n; at = m } }) (sym (after_none at)))

  pub placed-given : {l : Term} {q : Written} {c : List ℕ} → target ≡ Some l → q ≡ written_of l (Side.copy t)
      → c ≡ set_words b at (written_words q place)
      → (c ≡ put_equalities b at (placed_cut place (copied (option_of target) t n)).equalities)
      × (record { term = l; place = record { next = n; at = at + EQUALITY-WORDS } } ≡ cut_from at (placed_cut place (copied (option_of target) t n)))
  unfolding option_of copied cut_from all_at at_place
  placed-given {l} e p q = rw e (
    q ∙ ap (λ (w : Written). set_words b at (written_words w place)) p ∙ put_one b at place l (Side.copy t),
    ap (λ (m : ℕ). record { term = l; place = record { next = n; at = m } }) (sym (after_one at _)),
  )
