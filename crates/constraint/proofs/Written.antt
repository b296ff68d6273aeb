-- What the writers leave: words put one after the other are the list of them.
use mathlib.Core.Path.{◌≡◌, sym, ap, ap₂, ◌∙◌}
use mathlib.Core.List.{List, [], ◌∷◌, ◌++◌}
use Prim.Native.Nat.{ℕ, ◌+◌, ◌*◌, ◌≤◌}
use native.Mathlib.Omega.{arith}
use lib.ListN.{length, drop}
use Rattle.words.specs.Words.{set_word, set_words, bytes_of}
use Rattle.words.proofs.Laws.{set_words-append, set_words-bytes, length-bytes_of}
use Rattle.constraint.specs.declared.Equality.{Equality as Written}
use Rattle.constraint.specs.Trees.{ConstraintModule}
use Rattle.constraint.specs.Record.{term_words, operation_word, written_words, constraint_words, constraint_bytes, PLACE-WORD}
use Rattle.constraint.proofs.Lengths.{length-term}

module _ (b : List ℕ) (at : ℕ) where
  -- a term, a word, two terms, and a word
  pub equality-written : {c d e f g : List ℕ} (q : Written) (n p : ℕ) → n ≡ operation_word q.operation → c ≡ set_words b at (term_words q.left)
      → d ≡ set_word c (at + 2) n → e ≡ set_words d (at + 3) (term_words q.first) → f ≡ set_words e (at + 5) (term_words q.second)
      → g ≡ set_word f (at + PLACE-WORD) p → g ≡ set_words b at (written_words q p)
  unfolding written_words set_words
  equality-written {c} {d} {e} {f} {g} q n p o p0 p1 p2 p3 p4 =
      let l = length-term q.left in
      let m = length-term q.first in
      let i : at + length (term_words q.left) ≡ at + 2 = omega arith in
      let j : at + 2 + 1 ≡ at + 3 = omega arith in
      let k : at + 3 + length (term_words q.first) ≡ at + 5 = omega arith in
      let z = length-term q.second in
      let h : at + 5 + length (term_words q.second) ≡ at + PLACE-WORD = omega arith in
      let y : List ℕ = term_words q.second ++ (p ∷ []) in
      let r : List ℕ = term_words q.first ++ y in
      let s : set_words b at (term_words q.left ++ (n ∷ r)) ≡ set_words d (at + 3) r = set_words-append (term_words q.left) (n ∷ r) b at
      ∙ ap₂ (λ (l : List ℕ) (k : ℕ). set_words l k (n ∷ r)) (sym p0) i
      ∙ ap₂ (λ (l : List ℕ) (k : ℕ). set_words l k r) (sym p1) j in
      let t : set_words d (at + 3) r ≡ set_words e (at + 5) y = set_words-append (term_words q.first) y d (at + 3)
      ∙ ap₂ (λ (l : List ℕ) (k : ℕ). set_words l k y) (sym p2) k in
      let u : set_words e (at + 5) y ≡ g = set_words-append (term_words q.second) (p ∷ []) e (at + 5)
      ∙ ap₂ (λ (l : List ℕ) (k : ℕ). set_words l k (p ∷ [])) (sym p3) h ∙ sym p4 in
      sym (ap (λ (w : ℕ). set_words b at (term_words q.left ++ (w ∷ r))) (sym o) ∙ s ∙ t ∙ u)

-- the words of a whole record are its bytes, and what stood behind them stays
pub record-written : (b : List ℕ) (m : ConstraintModule) → length (constraint_bytes m) ≤ length b
    → set_words b 0 (constraint_words m) ≡ constraint_bytes m ++ drop (length (constraint_bytes m)) b
unfolding constraint_bytes
record-written b m h =
    let ws = constraint_words m in
    let l = length-bytes_of ws in
    let e : 4 * (0 + length ws) ≡ length (bytes_of ws) = omega arith in
    set_words-bytes ws b 0 (omega arith) ∙ ap (λ (n : ℕ). bytes_of ws ++ drop n b) e
