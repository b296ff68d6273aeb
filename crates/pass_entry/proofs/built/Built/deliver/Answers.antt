-- `pass_entry::built::Built::deliver` meets its contract. Assumes nothing.
use native.Mathlib.Omega.{arith}
use Rattle.pass_entry.proofs.Delivered.{not-delivered, delivered}
use Rattle.pass_entry.proofs.built.Built.deliver.Goals as goal

pub returns-then-out-size : goal.returns-then-out-size
returns-then-out-size c = λ m w. not-delivered m _ _ _ w _ (omega (arith, c.bytes-size.ensures, c.if-out-size.true))

pub returns : goal.returns
returns c =
    λ m w.
    delivered m _ _ _ w _ c.equality_count.ensures _ _ _ _ _ c.bytes-size.ensures c.if-out-size.false c.requires.0 c.put_header.ensures
    c.copy_to.ensures c.copy_to-2.ensures
