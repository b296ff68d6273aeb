-- The values at n indices from one on, as a list. Assumes nothing.
use Prim.Native.Nat.{ℕ, zero, suc, ◌+◌, ◌-◌, ◌≤◌, ◌<◌}
use mathlib.Core.Path.{◌≡◌, refl, ap, ◌∙◌}
use mathlib.Core.List.{List, [], ◌∷◌, ◌++◌}
use native.Mathlib.Numerals.{add-one}
use native.Mathlib.Omega.{arith}
use lib.ListN.{length, get_or, take, drop}
use lib.Seq.{take_at, drop_at}
use Rattle.flat.specs.Record.{rows}

module _ {A : Type 0} (f : ℕ → A) where
  pub length-rows : (n at : ℕ) → length (rows n at f) ≡ n
  unfolding rows
  length-rows zero at = refl
  length-rows (suc n) at = ap suc (length-rows n (suc at))

  -- each value
  pub rows_at : (n at k : ℕ) (d : A) → k < n → get_or (rows n at f) k d ≡ f (at + k)
  unfolding rows
  rows_at zero at k d l = absurd (omega arith)
  rows_at (suc n) at zero d l = let e : at ≡ at + 0 = omega arith in ap f e
  rows_at (suc n) at (suc k) d l = let e : suc at + k ≡ at + suc k = omega arith in rows_at n (suc at) k d (omega arith) ∙ ap f e

  -- the first, and the rest
  pub rows-first : (n at : ℕ) → 0 < n → rows n at f ≡ f at ∷ rows (n - 1) (at + 1) f
  unfolding rows
  rows-first zero at l = absurd (omega arith)
  rows-first (suc n) at l = let e : suc n - 1 ≡ n = omega arith in rw (e, add-one)

  -- n of them, and m more
  pub rows_append : (n m at : ℕ) → rows (n + m) at f ≡ rows n at f ++ rows m (at + n) f
  unfolding rows
  rows_append zero m at = let e : 0 + m ≡ m = omega arith in let g : at + 0 ≡ at = omega arith in rw (e, g)
  rows_append (suc n) m at =
      let e : suc n + m ≡ suc (n + m) = omega arith in
      let g : at + suc n ≡ suc at + n = omega arith in
      rw (e, g) (ap (λ (l : List A). f at ∷ l) (rows_append n m (suc at)))

  -- one more at the end
  pub rows_more : (n at : ℕ) → rows (n + 1) at f ≡ rows n at f ++ (f (at + n) ∷ [])
  unfolding rows
  rows_more n at = rows_append n 1 at

  pub take-rows : (k n at : ℕ) → k ≤ n → take k (rows n at f) ≡ rows k at f
  take-rows k n at l =
      let e : n ≡ k + (n - k) = omega arith in
      ap (λ (m : ℕ). take k (rows m at f)) e
      ∙ ap (λ (s : List A). take k s) (rows_append k (n - k) at)
      ∙ take_at (rows k at f) (rows (n - k) (at + k) f) k (length-rows k at)

  pub drop-rows : (k n at : ℕ) → k ≤ n → drop k (rows n at f) ≡ rows (n - k) (at + k) f
  drop-rows k n at l =
      let e : n ≡ k + (n - k) = omega arith in
      ap (λ (m : ℕ). drop k (rows m at f)) e
      ∙ ap (λ (s : List A). drop k s) (rows_append k (n - k) at)
      ∙ drop_at (rows k at f) (rows (n - k) (at + k) f) k (length-rows k at)

-- functions with the same values there
pub rows_same : {A : Type 0} (f g : ℕ → A) (n at : ℕ) → ((k : ℕ) → at ≤ k → k < at + n → f k ≡ g k) → rows n at f ≡ rows n at g
unfolding rows
rows_same f g zero at h = refl
rows_same f g (suc n) at h = rw (h at (omega arith) (omega arith), rows_same f g n (suc at) (λ k l m. h k (omega arith) (omega arith)))
