-- `source::entries::zeros` meets its contract. `seen` and `zero` name the words that are looked at, and what each has to be. Assumes nothing.
use Rattle.std.proofs.Common.{rules, arith, ◌≡◌, eqb}
use Rattle.std.proofs.lemmas.Iterator.{YieldsList-from_slice}
use Rattle.std.proofs.lemmas.Iterator.Search.{all_from_yields_List}
use Rattle.source.proofs.entries.zeros.Goals as goal

pub returns : goal.returns
returns c =
    let seen : c.iter.result.rest.now ≡ c.args.words.now = c.iter.ensures.rest in
    all_from_yields_List (λ w. eqb w 0) _ _ _ c.all.ensures.ran (YieldsList-from_slice c.args.words.now seen) (λ x b q k. (
      search rules,
      let zero : b ≡ eqb x.now 0 = grind arith in zero,
    ))
