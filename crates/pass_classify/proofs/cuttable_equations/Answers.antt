-- `pass_classify::cuttable_equations` meets its contract. Assumes nothing.
use borrow.Author.Tests.{tests}
use borrow.Author.Rules.{rules}
use native.Mathlib.Omega.{arith}
use mathlib.Core.Path.{◌≡◌, refl, ap, ◌∙◌}
use Prim.Native.Nat.{ℕ, ◌+◌}
use Rattle.std.proofs.lemmas.Iterator.{serves_from_Range}
use Rattle.marks.specs.Indices.{every}
use Rattle.marks.proofs.Indices.{every-from_all}
use Rattle.pass_classify.proofs.Laid.{equations-laid}
use Rattle.pass_classify.proofs.Turns.{cuttable-at, cuttable-read, cuttable-every}
use Rattle.pass_classify.proofs.cuttable_equations.Goals as goal

pub all-requires-clause-callable : goal.all-requires-clause-callable
all-requires-clause-callable c =
    let n = equations-laid _ c.args.record.now.laid in
    serves_from_Range (λ x q k. search (rules, tests)) (λ x l h. search (rules, n))

pub returns : goal.returns
returns c =
    let b = c.args.record.now.bytes.now in
    let n = equations-laid b c.args.record.now.laid in
    every-from_all _ _ _ _ _ (cuttable-at b) (cuttable-at b) _ _ _ c.all.ensures.ran (λ x t q k. search (rules, tests, cuttable-read))
    refl (omega arith) (λ k l. let e : 0 + k ≡ k = omega arith in rw e)
    ∙ ap (λ (m : ℕ). every m (cuttable-at b)) n ∙ cuttable-every b c.args.record.now.readable
