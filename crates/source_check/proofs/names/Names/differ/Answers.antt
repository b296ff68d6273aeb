-- `source_check::names::Names::differ` meets its contract. Assumes nothing.
use Prim.Native.Nat.{◌+◌}
use mathlib.Core.Path.{◌≡◌, refl}
use borrow.Author.Tests.{tests}
use borrow.Author.Rules.{rules}
use native.Mathlib.Omega.{arith}
use Rattle.source.specs.Names.{name_new, names_differ}
use Rattle.marks.proofs.Indices.{every-from_all}
use Rattle.source_check.proofs.names.Names.differ.Goals as goal

pub returns : goal.returns
unfolding names_differ
returns c =
    let names = c.args.self.now in
    every-from_all _ _ _ _ _ (name_new names.bytes.now names.text) _ _ _ _ c.all.ensures.ran (λ x b q k. search (rules, tests))
    refl (omega arith) (λ k l. let e : 0 + k ≡ k = omega arith in rw e)
