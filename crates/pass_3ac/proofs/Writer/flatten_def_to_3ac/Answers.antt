-- `pass_3ac::Writer::flatten_def_to_3ac` meets its contract. Assumes nothing.
use mathlib.Core.Path.{refl, sym, ◌∙◌}
use Rattle.pass_3ac.proofs.Definitions.{way-unused, way-prover, way-counted}
use Rattle.pass_3ac.proofs.Writers.{left}
use Rattle.pass_3ac.proofs.Writer.flatten_def_to_3ac.Goals as goal

pub returns-then-is_never : goal.returns-then-is_never
returns-then-is_never c =
    record { defs_put = way-unused c.args.classes.now.classified _ _ _ _ _ _ _ _ (sym c.is_never.ensures ∙ c.if-is_never.true); lent = refl; steps = refl }

pub returns-then-is_prover : goal.returns-then-is_prover
returns-then-is_prover c =
    let used = sym c.is_never.ensures ∙ c.if-is_never.false in
    let prover = sym c.is_prover.ensures ∙ c.if-is_prover.true in
    record { defs_put = way-prover c.args.classes.now.classified _ _ _ _ _ _ _ _ used prover; lent = refl; steps = refl }

pub returns : goal.returns
returns c =
    let used = sym c.is_never.ensures ∙ c.if-is_never.false in
    let counted = sym c.is_prover.ensures ∙ c.if-is_prover.false in
    let cut = c.flatten_expr_to_3ac.ensures in
    let put = way-counted c.args.classes.now.classified _ _ _ _ _ _ _ _ _ used counted (left cut) c.substitute.ensures.0 in
    record { defs_put = put; lent = cut.lent; steps = c.substitute.ensures.1 }
