-- `flat::lists::rises` meets its contract. Assumes nothing.
use Prim.Native.Nat.{◌+◌, ◌-◌}
use mathlib.Core.Path.{◌≡◌, refl}
use lib.Dec.{ltb}
use borrow.Author.Tests.{tests}
use borrow.Author.Rules.{rules}
use native.Mathlib.Omega.{arith}
use Rattle.words.specs.Words.{word_at}
use Rattle.flat.specs.Record.{rising}
use Rattle.marks.proofs.Indices.{every-from_all}
use Rattle.flat.proofs.lists.rises.Goals as goal

pub returns : goal.returns
unfolding rising
returns c =
    every-from_all _ _ _ _ _ (λ k. ltb (word_at c.args.s.now (c.args.at + k - 1)) (word_at c.args.s.now (c.args.at + k))) _ _ _ _ c.all.ensures.ran
    (λ x b q k. search (rules, tests)) refl refl
    (λ k l. let e : c.args.at + (1 + k) - 1 ≡ c.args.at + k = omega arith in let f : c.args.at + (1 + k) ≡ c.args.at + k + 1 = omega arith in rw (e, f))
