-- `words::put_word` meets its contract. Assumes nothing.
use Rattle.std.proofs.Common.{◌≡◌, ◌/◌, ◌%◌, arith}
use lib.ListN.{length-set}
use Rattle.words.specs.Words.{set_word}
use Rattle.words.proofs.put_word.Goals as goal

pub bounds-s-at-2 : goal.bounds-s-at-2
bounds-s-at-2 c = simp length-set (omega arith)

pub bounds-s-at-3 : goal.bounds-s-at-3
bounds-s-at-3 c = simp length-set (omega arith)

pub bounds-s-at-4 : goal.bounds-s-at-4
bounds-s-at-4 c = simp length-set (omega arith)

pub returns : goal.returns
unfolding set_word
returns c =
    let last : c.args.w / 16777216 % 256 ≡ c.args.w / 16777216 = omega arith in
    rw (c.to_le_bytes.ensures, last)
