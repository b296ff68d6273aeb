use Rattle.std.proofs.Common.{◌≡◌, ℕ, ◌+◌, ◌≤◌, ◌<◌, arith, List, ◌++◌, rules, length, take, sym, ap, ◌∙◌, subst, le_refl, drop_at, length-take-le}
use Rattle.std.proofs.lemmas.Slice.{take-put_mid_below}
use Rattle.std.specs.Io.KnownBytes.{Consumes}
use Rattle.std.proofs.KnownBytes.{Consumes-trans}
use borrow.Rule.Slice.PartMut.{put_mid, post_of}
use lib.Seq.{take-add, take-append-le}
use Rattle.streams.proofs.read_input.Goals as goal

-- n bytes read to the place `a` of a buffer stand behind the first a
joined : (a k n : ℕ) (xs ys : List ℕ) → a ≤ length xs → n ≤ length ys → take a xs ++ take n ys ≡ take (a + n) (put_mid a k xs ys)
joined a k n xs ys within fits =
    let front = take-put_mid_below a k xs ys a (le_refl a) within in
    let rest = drop_at (take a xs) (ys ++ post_of a k xs) a (length-take-le a xs within) in
    ap (λ l. l ++ take n ys) (sym front)
    ∙ ap (λ l. take a (put_mid a k xs ys) ++ l) (sym (ap (take n) rest ∙ take-append-le n ys (post_of a k xs) fits))
    ∙ sym (take-add a n (put_mid a k xs ys))

pub loop-done-preserved : goal.loop-done-preserved
loop-done-preserved g c = (
  search rules,
  subst (Consumes _ _) (joined _ _ _ _ _ c.loop-done.invariant.0 (search rules)) (Consumes-trans _ _ _ _ _ c.loop-done.invariant.1 c.in_ok-n.ensures.bytes.0),
)

-- a read that goes on gave a byte, so that the room falls
pub loop-done-smaller : goal.loop-done-smaller
loop-done-smaller g c =
    let gave : 0 < c.in_ok-n.n = omega (arith, c.in_default) in
    search rules
