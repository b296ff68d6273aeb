-- `pass_classify::record::Record::equation` meets its contract. Assumes nothing.
use native.Mathlib.Omega.{arith}
use mathlib.Core.Path.{ap, ◌∙◌}
use Prim.Native.Nat.{ℕ}
use Rattle.flat.specs.Layout.{equation_entry}
use Rattle.flat.proofs.Parts.{left_is, right_is}
use Rattle.flat.proofs.Reading.{equation-below}
use Rattle.pass_classify.proofs.Laid.{equations-at-laid}
use Rattle.pass_classify.proofs.record.Record.equation.Goals as goal

pub equation_at-requires : goal.equation_at-requires
equation_at-requires c = let r = c.args.self.now.readable in omega (arith, equations-at-laid c.args.self.now.bytes.now c.args.self.now.laid, r.long)

pub returns : goal.returns
returns c =
    let b = c.args.self.now.bytes.now in
    let r = c.args.self.now.readable in
    let k = c.args.k in
    let value = c.equation_at.ensures ∙ ap (λ (at : ℕ). equation_entry b at k) (equations-at-laid b c.args.self.now.laid) in
    let w = equation-below r k c.requires in
    let i = left_is value in
    let n = right_is value in
    record { value = value; within = (omega (arith, i, w.0), omega (arith, n, w.1)) }
