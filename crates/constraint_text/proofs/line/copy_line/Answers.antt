use Rattle.std.proofs.Common.{arith, ◌∙◌}
use Rattle.constraint_text.proofs.Bytes.{set_front}
use Rattle.constraint_text.proofs.line.copy_line.Goals as goal

pub returns-clause-value : goal.returns-clause-value
returns-clause-value c =
    let n = c.len-n.ensures.value in
    let text = c.as_bytes.ensures.value ∙ c.as_str.ensures.value in
    let front = set_front c.args.out.now c.args.line.now.bytes (omega (arith, c.len-n.ensures.fits, n, c.fits-out)) in
    (n, rw (c.copy_from_slice.ensures.after, text, n) front)
