-- `pass_entry::lists::put_publics` meets its contract. Assumes nothing.
use native.Mathlib.Omega.{arith}
use mathlib.Core.Path.{ap, ◌∙◌}
use Prim.Native.Nat.{ℕ}
use Rattle.words.specs.Words.{set_words}
use Rattle.flat.specs.Layout.{public_at}
use Rattle.flat.specs.Record.{module_of, rows}
use Rattle.pass_classify.proofs.Laid.{publics-laid}
use Rattle.pass_entry.proofs.lists.put_publics.Goals as goal

pub copy_words-requires : goal.copy_words-requires
copy_words-requires c =
    let read = c.args.record.now in
    let p = publics-laid read.bytes.now read.laid in
    (omega (arith, read.readable.long, p), omega (arith, c.requires, p))

pub returns : goal.returns
unfolding module_of
returns c =
    let read = c.args.record.now in
    c.copy_words.ensures ∙ ap (λ (n : ℕ). set_words c.args.body.now 0 (rows n 0 (public_at read.bytes.now))) (publics-laid read.bytes.now read.laid)
