-- The public names, one after the other. Assumes nothing.
use Prim.Native.Nat.{ℕ, ◌+◌, ◌≤◌, ◌<◌}
use mathlib.Core.Path.{◌≡◌, sym}
use mathlib.Core.List.{List}
use mathlib.Core.Bool.{true, false}
use lib.Dec.{ltb}
use borrow.Author.Tests.{lt-ltb, le-ltb}
use Rattle.source.specs.Nodes.{publics_fit}
use Rattle.source.specs.Layout.{public_at}
use Rattle.marks.proofs.Indices.{every-none, every_more, every-fails}

pub publics-fail : (b : List ℕ) (names list n k : ℕ) {v : ℕ} → k < n → v ≡ public_at b list k → names ≤ v → publics_fit b names list n ≡ false
unfolding publics_fit
publics-fail b names list n k l e h = sym (every-fails n k (λ j. ltb (public_at b list j) names) l (rw (← e) (le-ltb _ names h)))

pub publics-none : (b : List ℕ) (names list : ℕ) → publics_fit b names list 0 ≡ true
unfolding publics_fit
publics-none b names list = every-none _

pub publics-more : (b : List ℕ) (names list k : ℕ) {v : ℕ} → publics_fit b names list k ≡ true → v ≡ public_at b list k → v < names →
    publics_fit b names list (k + 1) ≡ true
unfolding publics_fit
publics-more b names list k h e l = every_more k (λ j. ltb (public_at b list j) names) h (rw (← e) (lt-ltb _ names l))
