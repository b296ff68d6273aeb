use Rattle.std.proofs.Common.{◌≡◌, ◌+◌, ◌≤◌, ◌∙◌, ap, sym, ◌++◌, List, ℕ, length, take, arith}
use Rattle.std.proofs.lemmas.List.{take_min, length-take-le}
use Rattle.test_report.specs.Lines.{LINE}
use Rattle.test_report.proofs.Laws.{on-ok, room-append}
use Rattle.test_report.proofs.line.push_text.Goals as goal

pub returns : goal.returns
returns c =
    let room = c.remaining_capacity.result in
    let items = c.args.line.now.items in
    let text = c.args.text.now in
    let made = c.try_extend_from_slice-fits.ensures in
    let full : room + length items ≡ LINE = c.remaining_capacity.ensures in
    let few : length items + length (take c.min-n.result text) ≤ LINE = omega (arith, length-take-le c.min-n.result text, c.min-n.ensures, full) in
    let cut : take c.min-n.result text ≡ take room text = rw c.min-n.ensures (take_min room text) in
    on-ok _ (made.variant.1 few) made.ok ∙ ap (λ (t : List ℕ). items ++ t) cut ∙ sym (rw full at (room-append items text room))
