-- `source_check::naming::name_fits` meets its contract. Assumes nothing.
use Prim.Native.Nat.{◌+◌, ◌-◌, ◌≤◌}
use native.Mathlib.Omega.{arith}
use mathlib.Core.Path.{◌≡◌, ◌∙◌}
use lib.ListN.{length}
use Rattle.source_check.proofs.Prints.{all-printed}
use Rattle.source.proofs.Parts.{offset-is, size_is}
use Rattle.source.proofs.Names.{printed-past, name-starts-off, name-empty, name-long, name-sized}
use Rattle.source_check.proofs.naming.name_fits.Goals as goal

pub returns-then-offset-end : goal.returns-then-offset-end
returns-then-offset-end c = name-starts-off c.args.s.now _ _ (offset-is c.name_at-name.ensures.value) c.requires.1.1 c.if-offset-end.true

pub returns-then-n-lt1 : goal.returns-then-n-lt1
returns-then-n-lt1 c =
    let read = c.name_at-name.ensures.value in
    name-empty c.args.s.now _ _ (offset-is read) c.requires.1.1 c.if-offset-end.false (size_is read) c.if-n-lt1.true

pub returns-then-n-gt-NAME_BYTES : goal.returns-then-n-gt-NAME_BYTES
returns-then-n-gt-NAME_BYTES c =
    let read = c.name_at-name.ensures.value in
    name-long c.args.s.now _ _ (offset-is read) c.requires.1.1 c.if-offset-end.false (size_is read)
    c.if-n-lt1.false
    c.if-n-gt-NAME_BYTES.true

pub returns-then-s-start : goal.returns-then-s-start
returns-then-s-start c =
    let read = c.name_at-name.ensures.value in
    name-sized c.args.s.now _ _ (offset-is read) c.requires.1.1 c.if-offset-end.false (size_is read)
    c.if-n-lt1.false
    c.if-n-gt-NAME_BYTES.false
    (printed-past c.args.s.now _ _ c.if-n-lt1.false c.if-s-start.true)

pub returns : goal.returns
returns c =
    let start = c.args.text + c.name_at-name.result.offset in
    let n = c.name_at-name.result.size in
    let fits : start + n ≤ length c.args.s.now = omega arith in
    let read = c.name_at-name.ensures.value in
    name-sized c.args.s.now _ _ (offset-is read) c.requires.1.1 c.if-offset-end.false (size_is read)
    c.if-n-lt1.false
    c.if-n-gt-NAME_BYTES.false
    (c.prints.ensures ∙ (let e : start + n - start ≡ n = omega arith in rw e (all-printed c.args.s.now start n fits)))
