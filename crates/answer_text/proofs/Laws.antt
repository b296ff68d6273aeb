-- From what a printer answered to what is asked of the next one.
use Rattle.std.proofs.Common.{◌≡◌, ℕ, ◌≤◌, ◌<◌, cond, List, [], length, take, Option, Result, Ok, Err, slice_range, sym, ap, ◌∙◌, subst}
use Rattle.std.specs.Io.KnownBytes.{Keeps, Appends}
use Rattle.std.proofs.KnownBytes.{Appends-nil, Appends-kept}
use native.Mathlib.Nat.{sub-zero}
use lib.Seq.{take-length}
use borrow.Author.Tests.{lt-ltb, le-ltb}
use Rattle.streams.specs.declared.Failed.{Failed}
use Rattle.streams.specs.Streams.{Added}
use Rattle.constraint_text.specs.Reading.{lines, lines_text}
use Rattle.constraint_text.specs.Text.{refused_text}
use Rattle.answer_text.specs.Answered.{lines_of, printed_of}

-- an output that got a text and was kept then
pub added-kept : (r : Result ℕ Failed) (old mid new : Option (List ℕ)) (text : List ℕ) → Appends old mid text → Keeps mid new → Added r old new text
added-kept (Ok k) old mid new text h kept = Appends-kept old mid new text h kept
added-kept (Err e) old mid new text h kept = (length text, subst (Appends old new) (sym (take-length text)) (Appends-kept old mid new text h kept))

-- one that was kept got none
pub added_none : (r : Result ℕ Failed) (old new : Option (List ℕ)) → Keeps old new → Added r old new []
added_none r old new = added-kept r old old new [] (Appends-nil old)

-- the bytes from the first on
pub range_front : (xs : List ℕ) (n : ℕ) {ys : List ℕ} → ys ≡ slice_range xs 0 n → ys ≡ take n xs
range_front xs n e = e ∙ ap (λ (k : ℕ). take k xs) (sub-zero n)

-- an answer of n bytes where there are not so many, and where there are
pub lines_none : (out : List ℕ) (n : ℕ) → length out < n → 0 ≡ lines_of (Ok n) out
unfolding lines_of
lines_none out n h = ap (λ b. cond b 0 (lines (take n out))) (sym (lt-ltb (length out) n h))

pub printed_none : (out : List ℕ) (n : ℕ) → length out < n → [] ≡ printed_of (Ok n) out
unfolding printed_of
printed_none out n h = ap (λ b. cond b [] (lines_text (take n out) 0 (lines (take n out)))) (sym (lt-ltb (length out) n h))

pub lines-front : (out : List ℕ) (n : ℕ) → n ≤ length out → lines (take n out) ≡ lines_of (Ok n) out
unfolding lines_of
lines-front out n h = ap (λ b. cond b 0 (lines (take n out))) (sym (le-ltb (length out) n h))

pub printed-front : (out : List ℕ) (n : ℕ) → n ≤ length out → lines_text (take n out) 0 (lines (take n out)) ≡ printed_of (Ok n) out
unfolding printed_of
printed-front out n h = ap (λ b. cond b [] (lines_text (take n out) 0 (lines (take n out)))) (sym (le-ltb (length out) n h))

-- a refusal
pub lines-one : (a : Result ℕ ℕ) (r : ℕ) (out : List ℕ) → a ≡ Err r → 1 ≡ lines_of a out
unfolding lines_of
lines-one a r out e = ap (λ x. lines_of x out) (sym e)

pub printed-one : (a : Result ℕ ℕ) (r : ℕ) (out : List ℕ) → a ≡ Err r → refused_text r ≡ printed_of a out
unfolding printed_of
printed-one a r out e = ap (λ x. printed_of x out) (sym e)
