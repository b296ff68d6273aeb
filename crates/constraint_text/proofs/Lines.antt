-- The lines of a record, by the cases of the code. Assumes nothing.
use Prim.Native.Nat.{ℕ, zero, suc, ◌+◌, ◌*◌, ◌-◌, ◌/◌, ◌≤◌, ◌<◌, min}
use mathlib.Core.Path.{◌≡◌, refl, sym, ap}
use mathlib.Core.Bool.{Bool, true, false}
use mathlib.Core.List.{List, []}
use native.Mathlib.Omega.{arith}
use lib.Dec.{ltb}
use lib.ListN.{length, length-append}
use borrow.Author.Tests.{lt-ltb, le-ltb, ltb-true, ltb-false}
use Rattle.flat.specs.Record.{pick}
use Rattle.constraint.specs.declared.Equality.{Equality as Written}
use Rattle.constraint.specs.declared.reading.Layout.{Layout}
use Rattle.constraint.specs.Record.{EQUALITY-WORDS}
use Rattle.constraint.specs.Reading.{HEADER, equalities, layout_of, written_at}
use Rattle.constraint.proofs.Read.{next-is, equalities-is, equalities-at-is}
use Rattle.constraint_text.specs.Text.{set_bytes, line_text, next_text, equality_text, between}
use Rattle.constraint_text.specs.Reading.{whole, lines, line_of, line_at}

yes : {A : Type 0} (t : Bool) (a b : A) → t ≡ true → pick t a b ≡ a
unfolding pick
yes t a b e = rw e

no : {A : Type 0} (t : Bool) (a b : A) → t ≡ false → pick t a b ≡ b
unfolding pick
no t a b e = rw e

-- ---- how many there are

pub no_line : (b : List ℕ) → length b < 4 * HEADER → 0 ≡ lines b
unfolding lines
no_line b h = sym (yes (ltb (length b) (4 * HEADER)) _ _ (lt-ltb (length b) (4 * HEADER) h))

pub with-header : (b : List ℕ) → 4 * HEADER ≤ length b → lines b ≡ 1 + min (equalities b) (whole b)
unfolding lines
with-header b h = no (ltb (length b) (4 * HEADER)) _ _ (le-ltb (length b) (4 * HEADER) h)

pub counted : (b : List ℕ) {l : Layout} (n : ℕ) → l ≡ layout_of b → 4 * HEADER ≤ length b →
    n ≡ min l.equalities ((length b / 4 - l.equalities_at) / EQUALITY-WORDS) → 1 + n ≡ lines b
unfolding whole
counted b n e h i = omega (arith, with-header b h, equalities-is b e, equalities-at-is b e)

header-by : (b : List ℕ) (t : Bool) → ltb (length b) (4 * HEADER) ≡ t → 0 < lines b → 4 * HEADER ≤ length b
header-by b true e h = omega (arith, no_line b (ltb-true (length b) (4 * HEADER) e))
header-by b false e h = ltb-false (length b) (4 * HEADER) e

-- ---- a line that there is, of n lines

pub has-header : (b : List ℕ) (k n : ℕ) → n ≡ lines b → k < n → 4 * HEADER ≤ length b
has-header b k n e h = header-by b (ltb (length b) (4 * HEADER)) refl (omega arith)

pub has-equality : (b : List ℕ) (k n : ℕ) {l : Layout} → l ≡ layout_of b → n ≡ lines b → k < n → (k ≡ 0 → ⊥) →
    4 * (l.equalities_at + EQUALITY-WORDS * (k - 1) + EQUALITY-WORDS) ≤ length b
unfolding whole
has-equality b k n e i h z = omega (arith, with-header b (has-header b k n i h), equalities-at-is b e)

pub line-few : (b : List ℕ) (k : ℕ) → k < lines b → k < length b
unfolding whole
line-few b k h = let g = has-header b k (lines b) refl h in omega (arith, with-header b g)

pub line-there : (b : List ℕ) (k n : ℕ) → n ≡ lines b → k < n → line_of b k ≡ line_at b k
unfolding line_at
line-there b k n e h = sym (yes (ltb k (lines b)) _ _ (lt-ltb k (lines b) (omega arith)))

pub line-behind : (b : List ℕ) (k n : ℕ) → n ≡ lines b → n ≤ k → [] ≡ line_at b k
unfolding line_at
line-behind b k n e h = sym (no (ltb k (lines b)) _ _ (le-ltb k (lines b) (omega arith)))

pub line-next : (b : List ℕ) (k : ℕ) {l : Layout} → l ≡ layout_of b → k ≡ 0 → next_text l.next ≡ line_of b k
unfolding line_of
line-next b k e z = rw (z, next-is b e)

pub line-equality : (b : List ℕ) (k : ℕ) {l : Layout} (q : Written) → l ≡ layout_of b → (k ≡ 0 → ⊥) →
    q ≡ written_at b l.equalities_at (k - 1) → equality_text q ≡ line_of b k
unfolding line_of
line-equality b zero q e z i = absurd (z refl)
line-equality b (suc k) q e z i = let j : suc k - 1 ≡ k = omega arith in rw (i, equalities-at-is b e, j)

-- ---- where they end: a line has a byte, and behind the last there is none

has-byte : (b : List ℕ) (k : ℕ) → 0 < length (line_of b k)
unfolding line_of next_text line_text equality_text between
has-byte b zero = omega arith
has-byte b (suc k) = simp length-append (omega arith)

more_by : (b : List ℕ) (k : ℕ) (t : Bool) → ltb k (lines b) ≡ t → 0 < length (line_at b k) → k < lines b
more_by b k true e h = ltb-true k (lines b) e
more_by b k false e h = omega (arith, ap length (line-behind b k (lines b) refl (ltb-false k (lines b) e)))

end_by : (b : List ℕ) (k : ℕ) (t : Bool) → ltb k (lines b) ≡ t → length (line_at b k) ≡ 0 → lines b ≤ k
end_by b k true e h = omega (arith, has-byte b k, ap length (line-there b k (lines b) refl (ltb-true k (lines b) e)))
end_by b k false e h = ltb-false k (lines b) e

pub line-more : (b : List ℕ) (k n : ℕ) → n ≡ length (line_at b k) → 0 < n → k < lines b
line-more b k n e h = more_by b k (ltb k (lines b)) refl (omega arith)

pub line-end : (b : List ℕ) (k n : ℕ) → n ≡ length (line_at b k) → n ≤ 0 → lines b ≤ k
line-end b k n e h = end_by b k (ltb k (lines b)) refl (omega arith)

-- ---- a text by another name

abbrev pub Front : List ℕ → List ℕ → List ℕ → ℕ → Type 0
Front b t b' r = (r ≡ length t) × (b' ≡ set_bytes b 0 t)

pub retold : (b t u b' : List ℕ) (r : ℕ) → t ≡ u → Front b t b' r → Front b u b' r
retold b t u b' r e p = rw e at p

pub nothing : (b u : List ℕ) → [] ≡ u → Front b u b 0
unfolding set_bytes
nothing b u e = retold b [] u b 0 e (refl, refl)
