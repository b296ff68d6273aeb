-- `pass_copies::used_definitions` meets its contract. Assumes nothing.
use borrow.Author.Rules.{rules}
use borrow.Author.Tests.{tests}
use native.Mathlib.Omega.{arith}
use mathlib.Core.Path.{ap, ◌∙◌}
use Prim.Native.Nat.{ℕ}
use lib.ListN.{length}
use Rattle.std.specs.List.{filter, range_with_len}
use Rattle.std.proofs.lemmas.Iterator.{serves_from_Range, YieldsList-from_range}
use Rattle.std.proofs.lemmas.Iterator.Consumers.{count_from_yields_List, YieldsList-from_filter}
use Rattle.pass_classify.proofs.Laid.{definitions-laid}
use Rattle.pass_copies.proofs.Used.{used-at, used-read, used_all}
use Rattle.pass_copies.proofs.used_definitions.Goals as goal

pub count-requires-clause-can : goal.count-requires-clause-can
count-requires-clause-can c =
    let n = definitions-laid _ c.args.record.now.laid in
    (tt, tt, serves_from_Range (λ x q k. search (rules, tests)) (λ x l h. search (rules, n)))

pub returns : goal.returns
returns c =
    let read = c.args.record.now in
    let test = used-at read.readable c.args.usage.now in
    let n = definitions-laid read.bytes.now read.laid in
    let range = YieldsList-from_range 0 _ read.layout.definitions c.filter.ensures.source (omega arith) in
    count_from_yields_List _ _ c.count.ensures.ran
    (YieldsList-from_filter _ test range c.filter.ensures.closure (λ x t q k. search (rules, tests, used-read)))
    ∙ ap (λ (m : ℕ). length (filter test (range_with_len 0 m))) n ∙ used_all read.readable c.args.usage.now
