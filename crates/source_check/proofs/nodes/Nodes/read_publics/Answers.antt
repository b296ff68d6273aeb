-- `source_check::nodes::Nodes::read_publics` meets its contract. Assumes nothing.
use native.Mathlib.Omega.{arith}
use Prim.Native.Nat.{◌<◌}
use mathlib.Core.Path.{◌≡◌, ◌∙◌, sym}
use Rattle.marks.proofs.Indices.{every-none, every_more, every-fails}
use Rattle.records.specs.declared.refusals.Refusal.{Refusal}
use Rattle.source.specs.Nodes.{publics_fit}
use Rattle.source_check.proofs.Marks.{accepts, refuses, accepted, refused, passes-on}
use Rattle.source_check.proofs.nodes.Nodes.read_publics.Goals as goal

pub loop-k-init : goal.loop-k-init
unfolding publics_fit
loop-k-init c = every-none _

pub returns-in_err-use_name : goal.returns-in_err-use_name
unfolding publics_fit
returns-in_err-use_name c =
    let l : c.loop-k.k < c.args.n = omega arith in
    let no = refused Refusal.Entry _ c.use_name.ensures c.in_err-use_name.was in
    passes-on Refusal.Entry _ c.use_name.ensures c.in_err-use_name.was c.from_residual.ensures.1
    ∙ refuses Refusal.Entry _ (sym (every-fails _ c.loop-k.k _ l (rw (← c.public_at.ensures.value, no.0))))

pub loop-k-preserved : goal.loop-k-preserved
unfolding publics_fit
loop-k-preserved c =
    every_more _ _ c.loop-k.invariant (rw (← c.public_at.ensures.value, accepted Refusal.Entry _ c.use_name.ensures c.in_ok-use_name.was))

pub returns : goal.returns
returns c =
    let e : c.loop-k.k ≡ c.args.n = omega arith in
    accepts Refusal.Entry _ (rw e at c.loop-k.invariant)
