-- `field::divide_z` meets its contract: by whether the dividend stands for 0. Assumes nothing.
use mathlib.Core.Path.{sym, ◌∙◌}
use Rattle.field.specs.Prime.{P}
use Rattle.field.specs.Element.{res}
use Rattle.field.specs.Operations.{divide_of}
use Rattle.field.proofs.Steps.{divide_z-zero, divide_z-else}
use Rattle.field.proofs.Calls.{passed, passed2}
use Rattle.field.proofs.divide_z.Goals as goal

pub returns-then-residue-eq0 : goal.returns-then-residue-eq0
returns-then-residue-eq0 c =
    sym (divide_z-zero c.args.a c.args.b (sym (passed (res P) c.args.a c.ranges.a c.residue.ensures.value) ∙ c.if-residue-eq0.true))

pub returns : goal.returns
returns c =
    passed2 (divide_of P) c.args.a c.args.b c.ranges.a c.ranges.b c.divide.ensures
    ∙ sym (divide_z-else c.args.a c.args.b (λ e. c.if-residue-eq0.false (passed (res P) c.args.a c.ranges.a c.residue.ensures.value ∙ e)))
