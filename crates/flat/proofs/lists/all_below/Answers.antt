-- `flat::lists::all_below` meets its contract. Assumes nothing.
use Prim.Native.Nat.{◌+◌}
use mathlib.Core.Path.{◌≡◌, refl}
use lib.Dec.{ltb}
use borrow.Author.Tests.{tests}
use borrow.Author.Rules.{rules}
use native.Mathlib.Omega.{arith}
use Rattle.words.specs.Words.{word_at}
use Rattle.flat.specs.Record.{all_below}
use Rattle.marks.proofs.Indices.{every-from_all}
use Rattle.flat.proofs.lists.all_below.Goals as goal

pub returns : goal.returns
unfolding all_below
returns c =
    every-from_all _ _ _ _ _ (λ k. ltb (word_at c.args.s.now (c.args.at + k)) c.args.limit) _ _ _ _ c.all.ensures.ran (λ x b q k. search (rules, tests))
    refl (omega arith) (λ k l. let e : 0 + k ≡ k = omega arith in rw e)
