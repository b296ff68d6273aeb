-- `field::centred` meets its contract. Assumes nothing.
use mathlib.Core.Path.{◌≡◌, ap, sym, ◌∙◌}
use mathlib.Core.Bool.{Bool, cond}
use Prim.Native.Nat.{suc, ◌-◌, ◌/◌}
use native.Mathlib.Omega.{arith}
use lib.IntN.{negsuc, pos, ◌-ℤ◌}
use borrow.Author.Tests.{le-leb, lt-leb}
use mir.Syntax.{w64}
use mir.Val.{to_z}
use Rattle.field.specs.Prime.{P}
use Rattle.field.specs.Element.{centre}
use Rattle.field.proofs.Signed.{to_z-small, opposite, negsuc-fits, back-neg}
use Rattle.field.proofs.residues.centred.Goals as goal
use Rattle.field.proofs.residues.centred.Goals.{Else-r-le-HALF}

made : (c : Else-r-le-HALF) → pos 0 -ℤ to_z w64 (P - c.args.r) ≡ negsuc (P - suc c.args.r)
made c = opposite (P - c.args.r) (P - suc c.args.r) (omega arith) (omega arith)

pub overflow_sub-result-else-r-le-HALF : goal.overflow_sub-result-else-r-le-HALF
overflow_sub-result-else-r-le-HALF c = negsuc-fits _ (P - suc c.args.r) (made c) (omega arith)

pub returns-then-r-le-HALF : goal.returns-then-r-le-HALF
unfolding centre
returns-then-r-le-HALF c =
    to_z-small c.args.r (omega arith)
    ∙ ap (λ (b : Bool). cond b (pos c.args.r) (negsuc (P - suc c.args.r))) (sym (le-leb c.args.r (P / 2) c.if-r-le-HALF.true))

pub returns-else-r-le-HALF : goal.returns-else-r-le-HALF
unfolding centre
returns-else-r-le-HALF c =
    back-neg _ (P - suc c.args.r) (made c) (omega arith)
    ∙ ap (λ (b : Bool). cond b (pos c.args.r) (negsuc (P - suc c.args.r))) (sym (lt-leb c.args.r (P / 2) c.if-r-le-HALF.false))
