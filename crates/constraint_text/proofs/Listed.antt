-- The bytes of a constraint list have the text of the list, and their lines are those of the text. Assumes nothing.
use Prim.Native.Nat.{ℕ, zero, suc, ◌+◌, ◌*◌, ◌≤◌}
use mathlib.Core.Path.{◌≡◌, refl, sym, ap, ap₂, ◌∙◌}
use mathlib.Core.List.{List, ◌++◌}
use native.Mathlib.Omega.{arith}
use lib.ListN.{length}
use Rattle.flat.specs.Rules.{All}
use Rattle.flat.specs.Record.{rows}
use Rattle.constraint.specs.Trees.{ConstraintModule}
use Rattle.constraint.specs.Record.{constraint_bytes}
use Rattle.constraint.specs.Reading.{HEADER, next, equalities, equalities_offset, equality_at, written_at, constraint_of, SignedEquality}
use Rattle.constraint.proofs.ReadBack.{next-read, equalities-count, equalities-back, length-size}
use Rattle.constraint_text.specs.Text.{equalities_text, next_text, listing}
use Rattle.constraint_text.specs.Reading.{text_of, whole, lines, line_of, line_at, lines_text}
use Rattle.constraint_text.proofs.Lines.{with-header, line-there}

pub text-listed : (c : ConstraintModule) → All SignedEquality c.equalities → text_of (constraint_bytes c) ≡ listing c
unfolding text_of listing constraint_of
text-listed c s = ap₂ ◌++◌ (ap next_text (next-read c)) (ap equalities_text (equalities-back c s))

-- ---- line after line

from-line : (b : List ℕ) (n k : ℕ) → suc k + n ≤ lines b → lines_text b (suc k) n ≡ equalities_text (rows n k (equality_at b (equalities_offset b)))
unfolding lines_text equalities_text rows line_of written_at
from-line b zero k h = refl
from-line b (suc n) k h = ap₂ ◌++◌ (sym (line-there b (suc k) (lines b) refl (omega arith))) (from-line b n (suc k) (omega arith))

-- of bytes that have every equality that they count
pub all_lines : (b : List ℕ) → 4 * HEADER ≤ length b → equalities b ≤ whole b →
    (lines b ≡ suc (equalities b)) × (lines_text b 0 (lines b) ≡ text_of b)
unfolding lines_text text_of listing constraint_of line_of
all_lines b h w =
    let n : lines b ≡ suc (equalities b) = omega (arith, with-header b h) in
    let first : next_text (next b) ≡ line_at b 0 = line-there b 0 (lines b) refl (omega arith) in
    (n, ap (lines_text b 0) n ∙ ap₂ ◌++◌ (sym first) (from-line b (equalities b) 0 (omega arith)))

-- the lines of a constraint list are one and one for each equality, and one after the other they are its text
pub lines-are-text : (c : ConstraintModule) → All SignedEquality c.equalities →
    (lines (constraint_bytes c) ≡ 1 + length c.equalities) × (lines_text (constraint_bytes c) 0 (lines (constraint_bytes c)) ≡ listing c)
unfolding whole
lines-are-text c s =
    let l = all_lines (constraint_bytes c) (omega (arith, length-size c)) (omega (arith, length-size c)) in
    (omega (arith, l.0, equalities-count c), l.1 ∙ text-listed c s)
