-- Tests that exclude one another, and calls at nodes before a node. Assumes nothing.
use Prim.Native.Nat.{ℕ, ◌+◌, ◌*◌, ◌<◌}
use native.Mathlib.Omega.{arith}
use mathlib.Core.Path.{◌≡◌, sym, ◌∙◌}
use mathlib.Core.Bool.{Bool, true, false, ◌||◌, true≢false}

pub not-both : {t : Bool} → t ≡ false → t ≡ true → ⊥
not-both p q = true≢false (sym q ∙ p)

-- one of two holds, and the first does not
pub or-second : (a b : Bool) → (a || b) ≡ true → a ≡ false → b ≡ true
or-second true b e q = absurd (not-both q e)
or-second false b e q = e

-- a call at a node before node k, by the measures of the walks: over a node or a chain, over a node in a scope, over a pattern or parameters
module _ {R : Type 0} {k x t : ℕ} where
  pub at-node : 2 * k + 1 ≡ t → (x < k) × R → (2 * x + 1 < t) × R
  at-node e w = (omega (arith, e, w.0), w.1)

  pub in-scope : 2 * k + 1 ≡ t → (x < k) × R → (2 * x + 2 < t) × R
  in-scope e w = (omega (arith, e, w.0), w.1)

  pub at-pattern : k ≡ t → (x < k) × R → (x < t) × R
  at-pattern e w = (omega (arith, e, w.0), w.1)
