-- What the check's answer tells its caller. Assumes nothing.
use Prim.Native.Nat.{ℕ}
use mathlib.Core.Path.{◌≡◌, refl}
use mathlib.Core.List.{List}
use native.Mathlib.Omega.{arith}
use Rattle.source.specs.Trees.{Module}
use Rattle.source.specs.Record.{Read, module_of, source_of}
use Rattle.source.specs.Readable.{Readable}
use Rattle.source.proofs.Accepted.{passed, accepts-passed, readable}
use Rattle.std.specs.Prelude.{Ok}
use Rattle.source_check.specs.Answer.{checked}

checked-at : (r : Read) → Ok tt ≡ checked r → (m : Module) × (r ≡ Read.module-of m)
unfolding checked
checked-at (Read.module-of m) e = (m, refl)
checked-at (Read.refused n) e = let z : ◌≡◌ {A = ℕ} 0 1 = cc in absurd (omega arith)

pub checked-accepted : (b : List ℕ) → Ok tt ≡ checked (source_of b) → (source_of b ≡ Read.module-of (module_of b)) × Readable b
checked-accepted b e =
    let w = checked-at (source_of b) e in
    let p = passed b w.0 w.1 in
    (accepts-passed b p.0, readable b p.0)
