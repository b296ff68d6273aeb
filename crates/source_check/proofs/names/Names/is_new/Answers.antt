-- `source_check::names::Names::is_new` meets its contract. Assumes nothing.
use Prim.Native.Nat.{◌+◌}
use mathlib.Core.Path.{◌≡◌, refl}
use mathlib.Core.Bool.{not}
use borrow.Author.Tests.{tests}
use borrow.Author.Rules.{rules}
use native.Mathlib.Omega.{arith}
use Rattle.source.specs.Names.{name_new, same_name}
use Rattle.marks.proofs.Indices.{every-from_all}
use Rattle.source_check.proofs.names.Names.is_new.Goals as goal

pub returns : goal.returns
unfolding name_new
returns c =
    let names = c.args.self.now in
    every-from_all _ _ _ _ _ (λ j. not (same_name names.bytes.now names.text j c.args.k)) _ _ _ _ c.all.ensures.ran (λ x b q k. search (rules, tests))
    refl (omega arith) (λ j l. let e : 0 + j ≡ j = omega arith in rw e)
