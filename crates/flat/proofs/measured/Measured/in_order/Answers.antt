-- `Measured::in_order` meets its contract. Assumes nothing.
use native.Mathlib.Omega.{arith}
use Prim.Native.Nat.{◌-◌, ◌<◌}
use lib.ListN.{length, length-set}
use Rattle.flat.specs.Record.{definition_at}
use Rattle.flat.proofs.Parts.{id-is, node-is}
use Rattle.flat.proofs.Order.{order-start, order-double, order-used, order-more, definition-fits}
use Rattle.flat.proofs.measured.Measured.in_order.Goals as goal
use Rattle.flat.proofs.measured.Measured.in_order.Goals.{After-definition_at-d}

pub loop-k-init : goal.loop-k-init
loop-k-init c =
    let l = c.args.self.now.layout in
    let w = order-start l.definitions (definition_at c.args.self.now.bytes.now l.definitions_at l.nodes_at l.nodes) in
    (w.0.0, w.0.1, w.1)

-- the definition that was read fits
fits : (c : After-definition_at-d)
    → (c.definition_at-d.result.id < c.args.self.now.layout.next)
    × (c.definition_at-d.result.node < c.args.self.now.layout.nodes)
fits c = definition-fits _ _ _ _ _ (c.loop-k.k - 1) c.requires.definitions (omega arith) c.definition_at-d.ensures

-- and its id is marked
marked : (c : After-definition_at-d) → c.definition_at-d.result.id < length c.loop-k.later
marked c = omega (arith, (fits c).0, c.loop-k.invariant.2, c.requires.ids)

pub bounds-later-id : goal.bounds-later-id
bounds-later-id c = omega (arith, (fits (goal.at.bounds-later-id c).After-definition_at-d).0)

pub returns-then-later-id : goal.returns-then-later-id
returns-then-later-id c =
    let l = c.loop-k in
    let read = c.definition_at-d.ensures in
    order-double _ _ _ _ _ _ c.loop-k-test.true l.auto.k l.later l.invariant.1 _ _ (id-is read) (node-is read) c.if-later-id.true

pub bounds-later-id-in-loop-k : goal.bounds-later-id-in-loop-k
bounds-later-id-in-loop-k c = omega (arith, (fits (goal.at.bounds-later-id-in-loop-k c).After-definition_at-d).0)

pub free-requires-clause-node : goal.free-requires-clause-node
free-requires-clause-node c = (fits (goal.at.free-requires-clause-node c).After-definition_at-d).1

pub returns-then-not-free : goal.returns-then-not-free
returns-then-not-free c =
    let at-d = (goal.at.returns-then-not-free c).After-definition_at-d in
    let l = c.loop-k in
    let read = c.definition_at-d.ensures in
    order-used _ _ _ _ _ _ c.loop-k-test.true l.auto.k l.later l.invariant.1 _ _ (id-is read) (node-is read) _
    c.if-later-id.false (marked at-d) (fits at-d).1 c.free.ensures c.if-not-free.true

pub loop-k-preserved : goal.loop-k-preserved
loop-k-preserved c =
    let at-d = (goal.at.loop-k-preserved c).After-definition_at-d in
    let l = c.loop-k in
    let read = c.definition_at-d.ensures in
    let w = order-more _ _ _ _ _ _ c.loop-k-test.true l.auto.k l.later l.invariant.1 _ _ (id-is read) (node-is read) _
    c.if-later-id.false (marked at-d) (fits at-d).1 c.free.ensures c.if-not-free.false l.invariant.0 in
    (w.0, w.1, simp length-set l.invariant.2)
