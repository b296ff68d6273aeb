-- `pass_classify::record::Record::prover` meets its contract. Assumes nothing.
use native.Mathlib.Omega.{arith}
use mathlib.Core.Path.{ap, ◌∙◌}
use Prim.Native.Nat.{ℕ}
use Rattle.flat.specs.Layout.{prover_at}
use Rattle.flat.proofs.Reading.{prover-below}
use Rattle.pass_classify.proofs.Laid.{provers-at-laid}
use Rattle.pass_classify.proofs.record.Record.prover.Goals as goal

pub prover_at-requires : goal.prover_at-requires
prover_at-requires c = let r = c.args.self.now.readable in omega (arith, provers-at-laid c.args.self.now.bytes.now c.args.self.now.laid, r.long)

pub returns : goal.returns
returns c =
    let b = c.args.self.now.bytes.now in
    let r = c.args.self.now.readable in
    let k = c.args.k in
    let value = c.prover_at.ensures ∙ ap (λ (at : ℕ). prover_at b at k) (provers-at-laid b c.args.self.now.laid) in
    record { value = value; within = omega (arith, value, prover-below r k c.requires) }
