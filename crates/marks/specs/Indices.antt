-- For all indices below a count: a test, a sum; the values at n indices from one on; a choice by a test; how often an index names another.
use Rattle.std.specs.Prelude.{ℕ, zero, suc, ◌+◌, List, [], ◌∷◌, Bool, true, false, ◌&&◌, cond, eqb}

unfoldable pub every : ℕ → (ℕ → Bool) → Bool
every zero p = true
every (suc n) p = every n p && p n

unfoldable pub total : ℕ → (ℕ → ℕ) → ℕ
total zero f = 0
total (suc n) f = total n f + f n

unfoldable pub rows : {A : Type 0} → ℕ → ℕ → (ℕ → A) → List A
rows zero at f = []
rows (suc n) at f = f at ∷ rows n (suc at) f

unfoldable pub pick : {A : Type 0} → Bool → A → A → A
pick t a b = cond t a b

-- how often the index x uses node k
unfoldable pub same : ℕ → ℕ → ℕ
same x k = pick (eqb x k) 1 0
