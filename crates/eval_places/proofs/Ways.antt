-- The loop that fills, over plain variables. Assumes nothing.
use Prim.Native.Nat.{ℕ, suc, ◌+◌, ◌-◌, ◌<◌, ◌≤◌}
use mathlib.Core.Path.{◌≡◌, sym, ap, ap₂, ◌∙◌}
use mathlib.Core.List.{List}
use native.Mathlib.Numerals.{add-one}
use native.Mathlib.Omega.{arith}
use Rattle.eval_places.specs.Places.{put_place, filled}

module _ (k x to : ℕ) (all : List ℕ) where
  pub fill-more : (i : ℕ) (w : List ℕ) {w1 : List ℕ} → i < to → w1 ≡ put_place w k i x → filled k x (to - i) i w ≡ all
      → filled k x (to - (i + 1)) (i + 1) w1 ≡ all
  unfolding filled
  fill-more i w l e h =
      let n : to - i ≡ suc (to - (i + 1)) = omega arith in
      ap₂ (λ (j : ℕ) (v : List ℕ). filled k x (to - (i + 1)) j v) (add-one i) e ∙ sym (ap (λ (m : ℕ). filled k x m i w) n) ∙ h

  pub fill-end : (i : ℕ) (w : List ℕ) → to ≤ i → filled k x (to - i) i w ≡ all → w ≡ all
  unfolding filled
  fill-end i w l h =
      let n : to - i ≡ 0 = omega arith in
      sym (ap (λ (m : ℕ). filled k x m i w) n) ∙ h
