-- `field::subtract` meets its contract. Assumes nothing.
use mathlib.Core.Path.{ap₂, sym, ◌∙◌}
use Prim.Native.Nat.{ℕ, ◌+◌, ◌-◌, ◌%◌}
use Rattle.field.specs.Prime.{P}
use Rattle.field.specs.Element.{res, centre}
use Rattle.field.proofs.Steps.{difference-is}
use Rattle.field.proofs.Calls.{passed, returned}
use Rattle.field.proofs.subtract.Goals as goal

pub returns : goal.returns
returns c =
    returned _ c.centred.type_inv
    (c.centred.ensures
    ∙ ap₂ (λ (m n : ℕ). centre P ((m + (P - n)) % P))
    (passed (res P) c.args.a c.ranges.a c.residue.ensures.value)
    (passed (res P) c.args.b c.ranges.b c.residue-2.ensures.value)
    ∙ sym (difference-is c.args.a c.args.b))
