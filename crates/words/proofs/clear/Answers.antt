-- `words::clear` meets its contract: each byte is 0. Assumes nothing.
use Rattle.std.proofs.Common.{◌≡◌, ℕ, ◌<◌, List, length, get_or, replicate, sym, ◌∙◌, arith}
use Rattle.std.proofs.lemmas.Grind.{common_steps}
use Rattle.std.proofs.Math.ListN.{length-replicate}
use Rattle.std.proofs.lemmas.List.{ext_get_or, get_or-replicate, get_or_append_left, length-take, length-append, length-drop}
use Rattle.std.proofs.Math.Seq.{get_or-append_right}
use Rattle.words.proofs.clear.Goals as goal

zeros : (s t : List ℕ) → length t ≡ length s → ((k : ℕ) → k < length s → get_or t k 0 ≡ 0) → t ≡ replicate (length s) 0
zeros s t e h =
    ext_get_or 0 _ _ (e ∙ sym (length-replicate (length s) 0)) (λ k l. h k (rw e at l) ∙ sym (get_or-replicate (length s) k 0 0 (rw e at l)))

pub returns : goal.returns
returns c =
    zeros _ _
    (grind (arith, common_steps))
    (λ k l. grind (arith, c.fill.ensures.clones k 0, get_or_append_left, get_or-append_right, length-take, length-append, length-drop))
