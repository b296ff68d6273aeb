-- `pass_classify::mark_definitions` meets its contract. Assumes nothing.
use native.Mathlib.Omega.{arith}
use mathlib.Core.Path.{◌≡◌}
use Prim.Native.Nat.{◌+◌, ◌-◌}
use Rattle.pass_classify.proofs.Laid.{definitions-laid}
use Rattle.pass_classify.proofs.Turns.{classified-start, classified-turn, classified-end}
use Rattle.pass_classify.proofs.mark_definitions.Goals as goal

pub loop-k-init : goal.loop-k-init
loop-k-init c =
    let n = definitions-laid _ c.args.record.now.laid in
    record { most = omega (arith, n); marks = classified-start _ _ (omega (arith, n)); long = c.told-usage }

pub loop-k-preserved : goal.loop-k-preserved
loop-k-preserved c =
    let i = c.loop-k.invariant in
    let d = c.definition-d.ensures in
    let u = c.override_usage-u.ensures in
    let back : c.loop-k.k - 1 + 1 ≡ c.loop-k.k = omega arith in
    record {
      most = omega arith;
      marks = classified-turn _ _ _ _ _ (omega (arith, i.most)) d.value d.within c.requires (rw back i.marks) u.value u.uses c.mark_used.ensures;
      long = c.mark_used.ensures.long;
    }

pub returns : goal.returns
returns c =
    let i = c.loop-k.invariant in
    let none : c.loop-k.k ≡ 0 = omega arith in
    classified-end _ _ _ (rw none at i.marks) i.long
