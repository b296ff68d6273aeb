use Prim.Native.Nat.{◌≤◌}
use Rattle.source.specs.Uses.{chain_uses}
use Rattle.source_check.proofs.Links.{Way, Onward}
use Rattle.source_check.proofs.nodes.Nodes.use_chain.Given as goal

abbrev pub invariant-loop-link : goal.invariant-loop-link
invariant-loop-link l = record {
  way : Way l.self.bytes.now l.self.at l.chain l.self.count l.first l.above l.link;
  onward : Onward l.initial.marks l.marks (chain_uses l.self.bytes.now l.self.at l.chain l.self.count l.first)
      (chain_uses l.self.bytes.now l.self.at l.chain l.above l.link);
  below : l.above ≤ l.self.count;
}

abbrev pub decreases-loop-link : goal.decreases-loop-link
decreases-loop-link l = l.above
