-- `marks::Marks::all_once` meets its contract. `taken` names the nodes that are looked at. Assumes nothing.
use borrow.Author.Tests.{tests}
use Rattle.std.proofs.Common.{rules, ◌≡◌, ◌∙◌, ap, take}
use Rattle.std.proofs.lemmas.Iterator.{YieldsList-from_slice}
use Rattle.std.proofs.lemmas.Iterator.Search.{all_from_yields_List}
use Rattle.marks.specs.Marks.{all_once, is_once}
use Rattle.marks.proofs.Marks.all_once.Goals as goal

pub returns : goal.returns
unfolding all_once is_once
returns g c =
    let taken : c.iter.result.rest.now ≡ take c.args.n c.args.self.now = c.iter.ensures.rest ∙ ap (take c.args.n) c.self.view_is in
    all_from_yields_List is_once _ _ _ c.all.ensures.ran (YieldsList-from_slice (take c.args.n c.args.self.now) taken) (λ x b q k. search (rules, tests))
