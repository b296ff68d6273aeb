-- `pass_classify::record::Record::node` meets its contract. Assumes nothing.
use native.Mathlib.Omega.{arith}
use mathlib.Core.Path.{sym, ap, ◌∙◌}
use Prim.Native.Nat.{ℕ}
use Rattle.flat.specs.Record.{node_of}
use Rattle.pass_classify.proofs.Walks.{below-at, tree-at}
use Rattle.pass_classify.proofs.Laid.{nodes-at-laid}
use Rattle.pass_classify.proofs.record.Record.node.Goals as goal

pub node_at-requires : goal.node_at-requires
node_at-requires c = let r = c.args.self.now.readable in omega (arith, nodes-at-laid c.args.self.now.bytes.now c.args.self.now.laid, r.long)

pub returns : goal.returns
returns c =
    let b = c.args.self.now.bytes.now in
    let r = c.args.self.now.readable in
    let k = c.args.k in
    let value = c.node_at.ensures ∙ ap (λ (at : ℕ). node_of b at k) (nodes-at-laid b c.args.self.now.laid) in
    let within = below-at r k c.requires (sym value) in
    record { value = value; within = within; tree = tree-at b k _ within (sym value) }
