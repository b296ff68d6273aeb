-- `pass_entry::lists::copy_words` meets its contract. Assumes nothing.
use native.Mathlib.Omega.{arith}
use Prim.Native.Nat.{◌-◌, ◌*◌}
use lib.ListN.{length, drop, length-drop}
use Rattle.std.proofs.lemmas.List.{length-take}
use Rattle.pass_entry.proofs.Turns.{words-pasted}
use Rattle.pass_entry.proofs.lists.copy_words.Goals as goal

pub copy_to-requires : goal.copy_to-requires
copy_to-requires c =
    let s = c.args.s.now in
    let at = 4 * c.args.at in
    (omega (arith, length-take (length s - at) (drop at s), length-drop at s, c.requires.0), omega (arith, c.requires.1))

pub returns : goal.returns
returns c = words-pasted _ _ _ c.requires.0 (λ k. (c.type_inv.s k).fits) _ _ (omega arith) c.requires.1 c.copy_to.ensures
