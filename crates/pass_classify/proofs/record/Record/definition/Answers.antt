-- `pass_classify::record::Record::definition` meets its contract. Assumes nothing.
use native.Mathlib.Omega.{arith}
use mathlib.Core.Path.{ap, ◌∙◌}
use Prim.Native.Nat.{ℕ}
use Rattle.flat.specs.Layout.{definition_entry}
use Rattle.flat.proofs.Parts.{id-is, node-is}
use Rattle.flat.proofs.Reading.{definition-below}
use Rattle.pass_classify.proofs.Laid.{definitions-at-laid}
use Rattle.pass_classify.proofs.record.Record.definition.Goals as goal

pub definition_at-requires : goal.definition_at-requires
definition_at-requires c = let r = c.args.self.now.readable in omega (arith, definitions-at-laid c.args.self.now.bytes.now c.args.self.now.laid, r.long)

pub returns : goal.returns
returns c =
    let b = c.args.self.now.bytes.now in
    let r = c.args.self.now.readable in
    let k = c.args.k in
    let value = c.definition_at.ensures ∙ ap (λ (at : ℕ). definition_entry b at k) (definitions-at-laid b c.args.self.now.laid) in
    let w = definition-below r k c.requires in
    let i = id-is value in
    let n = node-is value in
    record { value = value; within = (omega (arith, i, w.0), omega (arith, n, w.1)) }
