-- `numbering::registering::index_of` meets its contract. Assumes nothing.
use Rattle.std.proofs.Common.{IfSome, ◌<◌, ℕ, Option, refl, sym, subst, arith, ◌∙◌, rules}
use borrow.Author.Tests.{tests}
use Rattle.std.proofs.lemmas.Iterator.{YieldsList-from_range}
use Rattle.std.proofs.lemmas.Iterator.Adapters.{option_map_id}
use Rattle.std.proofs.lemmas.Iterator.Search.{find_from_yields_List}
use Rattle.numbering.proofs.First.{is_named, text_is, found-below}
use Rattle.numbering.proofs.registering.index_of.Goals as goal

pub returns-clause-first : goal.returns-clause-first
returns-clause-first c =
    let names = c.args.names.now in
    sym (option_map_id c.find.result)
    ∙ find_from_yields_List (is_named names.bytes.now c.args.t.now names.text) _ _ _ c.find.ensures.ran
    (YieldsList-from_range 0 names.count names.count refl (omega arith)) (λ x b q k. search (rules, tests, text_is))

pub returns-clause-below : goal.returns-clause-below
returns-clause-below c = subst (λ (o : Option ℕ). IfSome o (λ k. k < c.args.names.now.count)) (sym (returns-clause-first c))
    (found-below (is_named c.args.names.now.bytes.now c.args.t.now c.args.names.now.text) c.args.names.now.count 0 _ (omega arith))
