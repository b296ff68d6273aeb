-- The constants of flat records.
use Rattle.std.specs.Prelude.{cond, ltb, ℤ, pos, negsuc}
use Rattle.field.specs.Prime.{P}
use Rattle.field.specs.Element.{elem}

-- The number that a flat list has for a constant: signed 32 bits stay as they are, every other number goes as its element. `negsuc n` is -(n + 1)
unfoldable pub narrow : ℤ → ℤ
narrow (pos n) = cond (ltb n 2147483648) (pos n) (elem P (pos n))
narrow (negsuc n) = cond (ltb n 2147483648) (negsuc n) (elem P (negsuc n))
