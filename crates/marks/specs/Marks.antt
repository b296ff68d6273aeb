-- Marks of nodes, each by its index: how often it is used, told as far as "exactly once" asks.
use Rattle.std.specs.Prelude.{ℕ, zero, suc, ◌+◌, ◌<◌, ◌≡◌, List, Bool, true, false, length, get_or, replicate, set, take}
use Rattle.std.specs.List.{list_all}
use Rattle.marks.specs.declared.Uses.{Uses}
use Rattle.marks.specs.declared.Uses.TheVariants.{Never, Once, Again}

-- the mark of a count of uses
unfoldable pub mark_of : ℕ → Uses
mark_of zero = Never
mark_of (suc zero) = Once
mark_of (suc (suc n)) = Again

-- a mark after one use more
unfoldable pub more : Uses → Uses
more Never = Once
more Once = Again
more Again = Again

unfoldable pub is_once : Uses → Bool
is_once Never = false
is_once Once = true
is_once Again = false

-- n nodes that nothing uses; node x used once more; whether each of the first n is used once
unfoldable pub no_marks : ℕ → List Uses
no_marks n = replicate n Never

unfoldable pub used : List Uses → ℕ → List Uses
used m x = set m x (more (get_or m x Never))

unfoldable pub all_once : List Uses → ℕ → Bool
all_once m n = list_all is_once (take n m)

-- marks that hold a count of uses
abbrev pub Marked : List Uses → (ℕ → ℕ) → Type 0
Marked m f = (k : ℕ) → k < length m → get_or m k Never ≡ mark_of (f k)

-- marks after g more uses
pub record Adds (m m' : List Uses) (g : ℕ → ℕ) : Type 0 where
  pub long : length m' ≡ length m
  pub adds : (f : ℕ → ℕ) → Marked m f → Marked m' (λ k. f k + g k)
