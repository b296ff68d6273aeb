-- What holds of a text in bytes. Assumes nothing.
use Prim.Native.Nat.{ℕ, suc, ◌+◌, ◌≤◌}
use mathlib.Core.Path.{◌≡◌, refl, sym, ◌∙◌}
use mathlib.Core.List.{List, [], ◌∷◌, ◌++◌}
use native.Mathlib.Omega.{arith}
use lib.ListN.{length, set, take, drop, length-set}
use lib.Seq.{sets, sets-eq, take_at}
use Rattle.constraint_text.specs.Text.{set_bytes}

pub length-set_bytes : (xs b : List ℕ) (i : ℕ) → length (set_bytes b i xs) ≡ length b
unfolding set_bytes
length-set_bytes [] b i = refl
length-set_bytes (x ∷ xs) b i = length-set_bytes xs (set b i x) (i + 1) ∙ length-set b i x

-- what is written is read
set_bytes-sets : (xs b : List ℕ) (i : ℕ) → set_bytes b i xs ≡ sets b i xs
unfolding set_bytes
set_bytes-sets [] b i = refl
set_bytes-sets (x ∷ xs) b i = let e : i + 1 ≡ suc i = omega arith in rw e (set_bytes-sets xs (set b i x) (suc i))

pub written-text : (t b : List ℕ) → length t ≤ length b → take (length t) (set_bytes b 0 t) ≡ t
written-text t b h = rw (set_bytes-sets t b 0 ∙ sets-eq {A = ℕ} t b 0 (omega arith)) (take_at {A = ℕ} t _ (length t) refl)

-- a text in the place of the first bytes
pub set_front : (b t : List ℕ) → length t ≤ length b → t ++ drop (length t) b ≡ set_bytes b 0 t
set_front b t h = let z : 0 + length t ≡ length t = omega arith in sym (set_bytes-sets t b 0 ∙ rw z at (sets-eq {A = ℕ} t b 0 (omega arith)))
