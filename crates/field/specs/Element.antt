-- Elements: of each residue modulo p the number nearest to 0. Definitions for any p; what holds of them is in proofs/Elements.antt and proofs/Modular.antt.
use Rattle.std.specs.Prelude.{true, false, cond, ℕ, zero, suc, ◌*◌, ◌/◌, ◌%◌, ◌-◌, leb, ℤ, pos, negsuc}

-- the residue of an integer: -(n + 1) is p - (n % p + 1) more than a multiple of p
unfoldable pub res : ℕ → ℤ → ℕ
res p (pos n) = n % p
res p (negsuc n) = p - suc (n % p)

-- the number nearest to 0 with the residue r: r up to half of p, r - p above
unfoldable pub centre : ℕ → ℕ → ℤ
centre p r = cond (leb r (p / 2)) (pos r) (negsuc (p - suc r))

unfoldable pub elem : ℕ → ℤ → ℤ
elem p z = centre p (res p z)

-- the inverse of b: b itself at 0 and 1; else that of p % b, which is smaller, times p - p / b, since b * (p - p / b) and p % b have one residue.
-- The first number is the turns left, and b of them suffice
unfoldable pub inv_from : ℕ → ℕ → ℕ → ℕ
inv_from p zero b = 0
inv_from p (suc f) b = elim (leb b 1) [ true ↦ b | false ↦ (p - p / b) * inv_from p f (p % b) % p ]

unfoldable pub inv : ℕ → ℕ → ℕ
inv p b = inv_from p b b
