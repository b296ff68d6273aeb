-- `source_check::nodes::Nodes::use_chain` meets its contract. Assumes nothing.
use native.Mathlib.Omega.{arith}
use mathlib.Core.Path.{◌≡◌, refl, ap, ◌∙◌}
use Rattle.std.specs.Prelude.{Some}
use Rattle.source.specs.declared.Node.{Node}
use Rattle.source.specs.Nodes.{entry_of}
use Rattle.source_check.proofs.Marks.{judged-yes, judged-no, judged-stop, there, missing}
use Rattle.source_check.proofs.Links.{way-late, way-none, way-other, way-item, way-result, way_end, way_on, onward-start}
use Rattle.source_check.proofs.nodes.Nodes.use_chain.Goals as goal
use Rattle.source_check.proofs.nodes.Nodes.use_chain.Goals.{In-Link}

pub loop-link-init : goal.loop-link-init
loop-link-init c = record { way = record { alike = refl }; onward = onward-start _ _; below = omega arith }

-- the link that was read
is-link : (c : In-Link)
    → entry_of c.args.self.now.bytes.now c.args.self.now.at c.loop-link.link ≡ Some (Node.Link c.in-Link.item c.in-Link.next c.in-Link.result)
is-link c = there c.read.ensures c.in_ok-item.was ∙ ap (λ (n : Node). Some n) c.in-Link.is

pub returns-in_err-item : goal.returns-in_err-item
returns-in_err-item c =
    let w = missing c.read.ensures c.in_err-item.was c.from_residual.ensures.1 in
    judged-no _ w.1 (way-none c.loop-link.invariant.way c.loop-link-test.true w.0)

pub returns-in_default : goal.returns-in_default
returns-in_default c =
    judged-no _ refl (way-other c.loop-link.invariant.way c.loop-link-test.true (there c.read.ensures c.in_ok-item.was) c.in_default.not-Link)

pub returns-in_err-use_item : goal.returns-in_err-use_item
returns-in_err-use_item c =
    let e = c.first-before.ensures in
    judged-stop _ _ (rw (e.same.0, e.same.1.0, e.count) at c.use_item.ensures) c.in_err-use_item.was c.from_residual-in_err-use_item.ensures.1
    (way-item c.loop-link.invariant.way c.loop-link-test.true
    (is-link (goal.at.returns-in_err-use_item c).In-Link))

pub returns-in_err-use_result : goal.returns-in_err-use_result
returns-in_err-use_result c =
    let e = c.first-before.ensures in
    judged-stop _ _ (rw (e.same.0, e.same.1.0, e.count) at c.use_result.ensures) c.in_err-use_result.was c.from_residual-in_err-use_result.ensures.1
    (way-result c.loop-link.invariant.way c.loop-link-test.true
    (is-link (goal.at.returns-in_err-use_result c).In-Link))

pub returns-then-next-eq-NO_LINK : goal.returns-then-next-eq-NO_LINK
returns-then-next-eq-NO_LINK c =
    let e = c.first-before.ensures in
    let item = rw (e.same.0, e.same.1.0, e.count) at c.use_item.ensures in
    let result = rw (e.same.0, e.same.1.0, e.count) at c.use_result.ensures in
    let w =
    way_end c.loop-link.invariant.way c.loop-link-test.true
    (is-link (goal.at.returns-then-next-eq-NO_LINK c).In-Link) c.add.ensures item c.in_ok-use_item.was result c.in_ok-use_result.was
    c.loop-link.invariant.onward c.if-next-eq-NO_LINK.true in
    judged-yes _ w.0 w.1

pub loop-link-preserved : goal.loop-link-preserved
loop-link-preserved c =
    let e = c.first-before.ensures in
    let item = rw (e.same.0, e.same.1.0, e.count) at c.use_item.ensures in
    let result = rw (e.same.0, e.same.1.0, e.count) at c.use_result.ensures in
    let w =
    way_on c.loop-link.invariant.way c.loop-link-test.true
    (is-link (goal.at.loop-link-preserved c).In-Link) c.add.ensures item c.in_ok-use_item.was result c.in_ok-use_result.was
    c.loop-link.invariant.onward c.if-next-eq-NO_LINK.false in
    record { way = w.0; onward = w.1; below = omega arith }

pub returns : goal.returns
returns c =
    judged-no _ refl (way-late c.loop-link.invariant.way c.loop-link-test.false)
