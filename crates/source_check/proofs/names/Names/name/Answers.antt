-- `source_check::names::Names::name` meets its contract. Assumes nothing.
use Prim.Native.Nat.{◌+◌, ◌-◌, ◌≤◌}
use native.Mathlib.Omega.{arith}
use mathlib.Core.Path.{◌≡◌}
use lib.ListN.{length}
use Rattle.source.specs.Names.{name_of, offset_of, length_of}
use Rattle.source.proofs.Parts.{offset-is, size_is}
use Rattle.source.proofs.Names.{named-at, inside}
use Rattle.source_check.proofs.names.Names.name.Goals as goal
use Rattle.source_check.proofs.names.Names.name.Goals.{After-name_at-name}

-- the bytes of the name that was read lie in the file
name-inside : (c : After-name_at-name) →
    let names = c.args.self.now in
    let name = c.name_at-name.result in
    names.text + name.offset + name.size ≤ length names.bytes.now
name-inside c =
    let names = c.args.self.now in
    let read = c.name_at-name.ensures.value in
    inside names.bytes.now _ _ (size_is read) (offset-is read) (named-at names.bytes.now names.text names.count c.args.k names.fit c.requires)

pub overflow_add-start : goal.overflow_add-start
overflow_add-start c = omega (arith, name-inside (goal.at.overflow_add-start c).After-name_at-name)

pub overflow_add-result : goal.overflow_add-result
overflow_add-result c = omega (arith, name-inside (goal.at.overflow_add-result c).After-name_at-name)

pub slice_bounds-result-end : goal.slice_bounds-result-end
slice_bounds-result-end c = name-inside (goal.at.slice_bounds-result-end c).After-name_at-name

pub returns : goal.returns
unfolding name_of offset_of length_of
returns c =
    let names = c.args.self.now in
    let name = c.name_at-name.result in
    let e : names.text + name.offset + name.size - (names.text + name.offset) ≡ name.size = omega arith in
    rw (e, c.name_at-name.ensures.value)
