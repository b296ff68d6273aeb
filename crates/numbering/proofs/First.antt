-- The ways of what is bound first: texts, and publics. Assumes nothing.
use Prim.Native.Nat.{ℕ, zero, suc, ◌+◌, ◌-◌, ◌≤◌, ◌<◌}
use mathlib.Core.Path.{◌≡◌, refl, sym, ap, ◌∙◌}
use mathlib.Core.List.{List, [], ◌∷◌}
use mathlib.Core.Bool.{Bool, true, false, ◌&&◌, cond}
use native.Mathlib.Numerals.{add-one}
use native.Mathlib.Omega.{arith}
use lib.ListN.{length, get_or, set}
use lib.Seq.{get_or-set_same, get_or-set_other}
use lib.Dec.{eqb}
use lib.Pointwise.{pointwise}
use borrow.Author.Tests.{ltb-true}
use Rattle.std.specs.Prelude.{Option as Maybe, Some, None, IfSome, find}
use Rattle.std.specs.List.{range_with_len}
use Rattle.source.specs.Trees.{Text}
use Rattle.marks.specs.Indices.{rows}
use Rattle.source.specs.Names.{name_of}
use Rattle.source.specs.Nodes.{publics_fit}
use Rattle.source.specs.Layout.{public_at}
use Rattle.numbering.specs.Numbering.{Ids, ◌>>=◌, return, same_text, named, number_publics}
use Rattle.numbering.specs.Walks.{names, Chosen, Published, Registered}
use Rattle.numbering.specs.declared.rows.Scopes.{Scopes}
use Rattle.marks.proofs.Indices.{every-at}
use Rattle.numbering.proofs.Held.{held-same, held_more, only-globals}
use Rattle.numbering.proofs.Listed.{rows_step, rows_none}

-- ---- texts

-- `==` at two slices is `same_text`
same-pointwise : (t s : Text) → pointwise eqb t s ≡ same_text t s
unfolding same_text
same-pointwise [] [] = refl
same-pointwise [] (d ∷ s) = refl
same-pointwise (c ∷ t) [] = refl
same-pointwise (c ∷ t) (d ∷ s) = ap (λ (r : Bool). eqb c d && r) (same-pointwise t s)

-- whether name k is the text t
abbrev pub is_named : List ℕ → Text → ℕ → ℕ → Bool
is_named b t text k = same_text t (name_of b text k)

module _ (b t : List ℕ) (text count id : ℕ) where
  entry_of : Maybe ℕ → Ids
  entry_of None = []
  entry_of (Some k) = (k, id) ∷ []

  -- what is registered is the first that the search finds
  named-found : (n k : ℕ) → named t id k (rows n k (name_of b text)) ≡ entry_of (find (is_named b t text) (range_with_len k n))
  unfolding named entry_of rows
  named-found zero k = refl
  named-found (suc n) k =
      by-test (is_named b t text k) _ (named-found n (suc k) ∙ ap (λ (m : ℕ). entry_of (find (is_named b t text) (range_with_len m n))) (sym (add-one k)))
    where
      by-test : (c : Bool) {xs : Ids} (o : Maybe ℕ) → xs ≡ entry_of o → cond c ((k, id) ∷ []) xs ≡ entry_of (cond c (Some k) o)
      by-test true o e = refl
      by-test false o e = e

  pub found-yes : (k : ℕ) (s : Scopes) → k < count → count ≤ 512 → length s.globals ≡ 512 → Some k ≡ find (is_named b t text) (range_with_len 0 count)
      → Registered b t text count id s (record s { globals = set s.globals k (Some id) })
  unfolding entry_of
  found-yes k s l m z e =
      let w : named t id 0 (rows count 0 (name_of b text)) ≡ (k, id) ∷ [] = named-found count 0 ∙ ap entry_of (sym e) in
      record {
        rest = record { same_locals = refl; same_undo = refl; same_ids = refl };
        same_next = refl;
        holds = λ gs h. rw w (held_more s.globals gs k id h (omega arith));
      }

  pub found_none : (s : Scopes) (r : Maybe ℕ) → r ≡ find (is_named b t text) (range_with_len 0 count) → ((k : ℕ) → r ≡ Some k → ⊥)
      → Registered b t text count id s s
  unfolding entry_of
  found_none s (Some k) e f = absurd (f k refl)
  found_none s None e f =
      let w : named t id 0 (rows count 0 (name_of b text)) ≡ [] = named-found count 0 ∙ ap entry_of (sym e) in
      record { rest = only-globals s; same_next = refl; holds = λ gs h. rw w h }

-- a search of indices: what it finds lies below their end
pub found-below : (test : ℕ → Bool) (n k m : ℕ) → k + n ≡ m → IfSome (find test (range_with_len k n)) (λ j. j < m)
found-below test zero k m e = tt
found-below test (suc n) k m e = by-test (test k) _ (found-below test n (k + 1) m (omega arith))
  where
    by-test : (c : Bool) (o : Maybe ℕ) → IfSome o (λ j. j < m) → IfSome (cond c (Some k) o) (λ j. j < m)
    by-test true o p = omega arith
    by-test false o p = p

-- a name, compared with a text
pub text_is : (t : Text) {u n : Text} {r : Bool} → r ≡ pointwise eqb t u → u ≡ n → r ≡ same_text t n
text_is t {u = u} p q = p ∙ same-pointwise t u ∙ ap (same_text t) q

-- ---- publics
module _ (b : List ℕ) (list count : ℕ) where
  pub public-name : (names i : ℕ) {x : ℕ} → publics_fit b names list count ≡ true → names ≤ 512 → i < count → x ≡ public_at b list i → x < 512
  unfolding publics_fit
  public-name names i f q l e = omega (arith, ltb-true (public_at b list i) names (every-at count i _ f l))

  pub publics-step : (i : ℕ) {x : ℕ} {s : Scopes} {id : ℕ} {s₁ s₂ : Scopes} {public public₂ : List ℕ} →
      x ≡ public_at b list i → i < count → i < length public → Chosen x s id s₁ →
      Published b list (count - (i + 1)) (i + 1) s₁ (set public i id) s₂ public₂ → Published b list (count - i) i s public s₂ public₂
  unfolding number_publics ◌>>=◌ return
  publics-step i {id = id} {s₁ = s₁} {public = public} {public₂ = public₂} ex l m u w =
      let here : get_or public₂ i 0 ≡ id = w.before i (omega arith) ∙ get_or-set_same public i id 0 m in
      record {
        more = omega (arith, u.more, w.more);
        few = omega (arith, u.few, w.few);
        rest = record {
          same_locals = w.rest.same_locals ∙ u.rest.same_locals;
          same_undo = w.rest.same_undo ∙ u.rest.same_undo;
          same_ids = w.rest.same_ids ∙ u.rest.same_ids;
        };
        before = λ j q. w.before j (omega arith) ∙ get_or-set_other public i j id 0 (λ (z : j ≡ i). omega arith);
        behind = λ j q. w.behind j (omega arith) ∙ get_or-set_other public i j id 0 (λ (z : j ≡ i). omega arith);
        numbers = λ g h k e.
            let q = u.numbers [] g h k e in
            let z = w.numbers (names q.0 s₁.next) (held-same [] u.rest.same_locals h) q.1.1 refl in
            (z.0, (rw (rows_step count i (public_at b list) l, ← ex, q.1.0, z.1.0, rows_step count i (λ k. get_or public₂ k 0) l, here), z.1.1));
      }

  pub publics-end : (i : ℕ) {s : Scopes} {public : List ℕ} → count ≤ i → Published b list (count - i) i s public s public
  unfolding number_publics return
  publics-end i {s} {public} l = record {
    more = omega arith;
    few = omega arith;
    rest = only-globals s;
    before = λ j q. refl;
    behind = λ j q. refl;
    numbers = λ g h k e. (g.globals, (rw (rows_none count i (public_at b list) l, rows_none count i (λ k. get_or public k 0) l, ← e), k));
  }

  pub publics-start : {s s₂ : Scopes} {public public₂ : List ℕ} → Published b list (count - 0) 0 s public s₂ public₂
      → Published b list count 0 s public s₂ public₂
  publics-start w = let e : count - 0 ≡ count = omega arith in rw e at w
