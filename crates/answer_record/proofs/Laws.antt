-- The ways through the code, over plain variables.
use Prim.Native.Nat.{ℕ, suc, ◌+◌, ◌-◌, ◌*◌, ◌≤◌, ◌<◌, min}
use mathlib.Core.Bool.{Bool, true, false}
use lib.Dec.{ltb}
use mathlib.Core.Path.{◌≡◌, refl, sym, ap, ◌∙◌}
use mathlib.Core.List.{List, [], ◌∷◌}
use native.Mathlib.Omega.{arith}
use native.Mathlib.Nat.{sub-zero}
use lib.ListN.{length, get_or, drop, take}
use Rattle.std.specs.Prelude.{slice_range, Option, Some, None, cond, Result, Ok, Err}
use Rattle.std.proofs.Common.{inl, inr}
use Rattle.std.specs.Char.{IsNotAsciiDigit}
use Rattle.std.proofs.KnownBytes.{Appends-nil}
use lib.Seq.{drop-cons, drop-length, length-take-le}
use borrow.Author.Tests.{lt-ltb, le-ltb, le-leb, lt-leb, ltb-true, ltb-false}
use Rattle.streams.specs.declared.Failed.{Failed}
use Rattle.streams.specs.Streams.{Added}
use Rattle.answer_record.specs.Given.{at_most, number_from, number_of, Few, given_of, bytes_of}

by-min : (n most : ℕ) (t : Bool) → ltb most n ≡ t → min n most ≡ cond t most n
by-min n most true e = omega (arith, ltb-true most n e)
by-min n most false e = omega (arith, ltb-false most n e)

-- the lesser of both
pub at-most-min : (n most : ℕ) → min n most ≡ at_most n most
unfolding at_most
at-most-min n most = by-min n most (ltb most n) refl

-- ---- a number

abbrev no_number : Option ℕ
no_number = None

no_digit : (text : List ℕ) → length text ≤ 0 → no_number ≡ number_of text
unfolding number_of
no_digit [] l = refl
no_digit (d ∷ ds) l = absurd (omega (arith, l))

some-digit : (text : List ℕ) → 0 < length text → number_from 0 text ≡ number_of text
unfolding number_of
some-digit [] l = absurd (omega (arith, l))
some-digit (d ∷ ds) l = refl

pub empty-none : (text : List ℕ) → length text ≡ 0 → (no_number ≡ number_of text) × Few no_number
empty-none text z = (no_digit text (omega (arith, z)), tt)

module _ (text : List ℕ) (value k : ℕ) (so : number_from value (drop k text) ≡ number_from 0 text) where
  -- all digits were read
  pub digits-all : k ≡ length text → 0 < length text → value ≤ 100000000 → (Some value ≡ number_of text) × Few (Some value)
  unfolding number_from
  digits-all e some few =
      let rest : drop k text ≡ [] = ap (λ (n : ℕ). drop n text) e ∙ drop-length text in
      (ap (number_from value) (sym rest) ∙ so ∙ some-digit text some, few)

  -- one is read
  module _ {d : ℕ} (l : k < length text) (ed : d ≡ get_or text k 0) where
    here-is : number_from value (d ∷ drop (suc k) text) ≡ number_from value (drop k text)
    here-is = ap (λ (x : ℕ). number_from value (x ∷ drop (suc k) text)) ed ∙ ap (number_from value) (sym (drop-cons text k 0 l))

    at-digit : number_from value (d ∷ drop (suc k) text) ≡ number_of text
    at-digit = here-is ∙ so ∙ some-digit text (omega (arith, l))

    digit_low : d < 48 → no_number ≡ number_of text
    unfolding number_from
    digit_low h = let none : no_number ≡ number_from value (d ∷ drop (suc k) text) = rw (lt-ltb d 48 h) refl in none ∙ at-digit

    digit-high : 48 ≤ d → 57 < d → no_number ≡ number_of text
    unfolding number_from
    digit-high g h = let none : no_number ≡ number_from value (d ∷ drop (suc k) text) = rw (le-ltb d 48 g, lt-ltb 57 d h) refl in none ∙ at-digit

    pub digit-none : IsNotAsciiDigit d → (no_number ≡ number_of text) × Few no_number
    digit-none (inl h) = (digit_low h, tt)
    digit-none (inr h) = (digit-high (omega arith) h, tt)

    pub digit-more : 48 ≤ d → d ≤ 57 → {v : ℕ} → v ≡ at_most (value * 10 + (d - 48)) 100000000 → number_from v (drop (k + 1) text) ≡ number_from 0 text
    unfolding number_from
    digit-more g h e =
        let next : k + 1 ≡ suc k = omega arith in
        let on : number_from value (d ∷ drop (suc k) text) ≡ number_from (at_most (value * 10 + (d - 48)) 100000000) (drop (suc k) text) =
        rw (le-ltb d 48 g, le-ltb 57 d h) refl in
        rw (e, next) (sym on ∙ here-is ∙ so)

-- ---- an answer

-- the bytes from the first on
pub range_front : (xs : List ℕ) (n : ℕ) {ys : List ℕ} → ys ≡ slice_range xs 0 n → ys ≡ take n xs
range_front xs n e = e ∙ ap (λ (k : ℕ). take k xs) (sub-zero n)

pub given-all : (a : Result ℕ ℕ) (n : ℕ) (out : List ℕ) → a ≡ Ok n → n ≤ length out → length (take n out) ≡ given_of a (length out)
unfolding given_of
given-all a n out e l = rw (e, le-leb n (length out) l) (length-take-le n out l)

pub bytes-all : (a : Result ℕ ℕ) (n : ℕ) (out : List ℕ) → a ≡ Ok n → n ≤ length out → take n out ≡ bytes_of a out
unfolding bytes_of
bytes-all a n out e l = rw (e, le-leb n (length out) l) refl

pub given-none : (a : Result ℕ ℕ) (n : ℕ) (out : List ℕ) → a ≡ Ok n → length out < n → 0 ≡ given_of a (length out)
unfolding given_of
given-none a n out e l = rw (e, lt-leb n (length out) l) refl

pub bytes-none : (a : Result ℕ ℕ) (n : ℕ) (out : List ℕ) → a ≡ Ok n → length out < n → [] ≡ bytes_of a out
unfolding bytes_of
bytes-none a n out e l = rw (e, lt-leb n (length out) l) refl

pub given-refused : (a : Result ℕ ℕ) (r : ℕ) (out : List ℕ) → a ≡ Err r → 0 ≡ given_of a (length out)
unfolding given_of
given-refused a r out e = rw e refl

pub bytes-refused : (a : Result ℕ ℕ) (r : ℕ) (out : List ℕ) → a ≡ Err r → [] ≡ bytes_of a out
unfolding bytes_of
bytes-refused a r out e = rw e refl

-- an output that was left alone
pub added_none : (r : Result ℕ Failed) (held : Option (List ℕ)) → Added r held held []
added_none (Ok n) held = Appends-nil held
added_none (Err e) held = (0, Appends-nil held)
