-- `field::table_inverse` meets its contract: the table's rule is one test, which antt computes over all 512 entries.
-- Assumes nothing.
use mathlib.Core.Path.{◌≡◌, refl, subst}
use mathlib.Core.Bool.{Bool}
use mathlib.Core.List.{List}
use Prim.Native.Nat.{ℕ, suc, ◌*◌, ◌-◌, ◌%◌, ◌<◌, ◌≤◌}
use native.Mathlib.Omega.{arith}
use lib.Dec.{T, eqb, ltb, eqb→eq, ltb→lt}
use lib.ListN.{length, get_or}
use Rattle.field.specs.Prime.{P}
use Rattle.field.specs.Element.{inv}
use Rattle.field.proofs.Primality.{P-prime}
use Rattle.field.proofs.Modular.{inv_unique}
use Rattle.field.proofs.Table.{both, both_left, both_right, every, at}
use Rattle.field.specs.declared.inverses.TheConstants.{INVERSES}
use Rattle.field.proofs.inverses.table_inverse.Goals as goal

-- the entry at the place k, counted from 0: its product with k + 1 has the residue 1, and it is a residue
abbrev right : ℕ → ℕ → Bool
right k x = both (eqb (x * suc k % P) 1) (ltb x P)

entry : (xs : List ℕ) → T (every right 0 xs) → length xs ≡ 512 → (b : ℕ) → 0 < b → b ≤ 512 → get_or xs (b - 1) 0 ≡ inv P b
entry xs t e b h l =
    inv_unique P P-prime b x h (omega arith) (ltb→lt x P (both_right (eqb (x * suc (b - 1) % P) 1) (ltb x P) k))
    (subst (λ (n : ℕ). x * n % P ≡ 1) one_less (eqb→eq (x * suc (b - 1) % P) 1 (both_left (eqb (x * suc (b - 1) % P) 1) (ltb x P) k)))
  where
    x : ℕ
    x = get_or xs (b - 1) 0

    one_less : suc (b - 1) ≡ b
    one_less = omega arith

    k : T (right (b - 1) x)
    k = at right xs t (b - 1) (omega arith)

pub returns : goal.returns
returns c = entry INVERSES tt refl c.args.b c.requires.0 c.requires.1
