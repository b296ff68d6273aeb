-- `pass_classify::cuttable_defs` meets its contract. Assumes nothing.
use borrow.Author.Tests.{tests}
use borrow.Author.Rules.{rules}
use native.Mathlib.Omega.{arith}
use mathlib.Core.Path.{◌≡◌, refl, ap, ◌∙◌}
use Prim.Native.Nat.{ℕ, ◌+◌}
use Rattle.std.proofs.lemmas.Iterator.{serves_from_Range}
use Rattle.marks.specs.Indices.{every}
use Rattle.marks.proofs.Indices.{every-from_all}
use Rattle.pass_classify.proofs.Laid.{definitions-laid}
use Rattle.pass_classify.proofs.Turns.{counted-at, counted-read, counted-every}
use Rattle.pass_classify.proofs.cuttable_defs.Goals as goal

pub all-requires-clause-callable : goal.all-requires-clause-callable
all-requires-clause-callable c =
    let n = definitions-laid _ c.args.classes.now.record.laid in
    serves_from_Range (λ x q k. search (rules, tests)) (λ x l h. search (rules, n))

pub returns : goal.returns
returns c =
    let classes = c.args.classes.now in
    let b = classes.record.bytes.now in
    let p = counted-at b classes.usage.now classes.provers.now in
    let n = definitions-laid b classes.record.laid in
    every-from_all _ _ _ _ _ p p _ _ _ c.all.ensures.ran (λ x t q k. search (rules, tests, counted-read))
    refl (omega arith) (λ k l. let e : 0 + k ≡ k = omega arith in rw e)
    ∙ ap (λ (m : ℕ). every m p) n ∙ counted-every b classes.usage.now classes.provers.now classes.record.readable classes.classified
