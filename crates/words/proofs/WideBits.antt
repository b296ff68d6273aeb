-- A signed 64-bit number is read back from its two words. Assumes nothing.
use Rattle.std.specs.Prelude.{◌≡◌, ℕ, ◌+◌, ◌*◌, ◌/◌, ◌%◌, ℤ}
use Rattle.std.proofs.Common.{to_z, of_z, SFits}
use Rattle.std.specs.Int.{w64}
use mathlib.Core.Path.{ap, ◌∙◌}
use native.Mathlib.Nat.{div-add-mod'}
use mir.ValLaws.{to_z-of_z}
use Rattle.words.specs.Words.{integer, low_word, high_word}

split-bits : (n : ℕ) → n / 4294967296 * 4294967296 + n % 4294967296 ≡ n
split-bits n = div-add-mod' n 4294967296

pub integer-back : (z : ℤ) → SFits w64 z → integer (low_word z) (high_word z) ≡ z
unfolding integer low_word high_word
integer-back z f = ap (to_z w64) (split-bits (of_z w64 z)) ∙ to_z-of_z w64 z f
