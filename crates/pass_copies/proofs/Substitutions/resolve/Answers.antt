-- `pass_copies::Substitutions::resolve` meets its contract. Assumes nothing.
use native.Mathlib.Omega.{arith}
use borrow.Author.Rules.{rules}
use mathlib.Core.Path.{refl, ap, ◌∙◌}
use mir.ValLaws.{to_z-of_z}
use mir.Syntax.{w32}
use Rattle.constraint.specs.declared.Term.{Term}
use Rattle.pass_copies.proofs.Walks.{stands-past, stands-none, stands-variable, stands-constant, ends-none, ends-steps, ends-constant, turns}
use Rattle.pass_copies.proofs.Substitutions.resolve.Goals as goal

pub loop-left-init : goal.loop-left-init
loop-left-init c = refl

pub returns-then-i-ge-ID_COUNT : goal.returns-then-i-ge-ID_COUNT
returns-then-i-ge-ID_COUNT c =
    let m = c.args.self.now.terms in
    ends-none m _ _ _ c.loop-left.invariant (stands-past m _ (omega (arith, c.args.self.now.long, c.if-i-ge-ID_COUNT.true)))

pub returns-in-Itself : goal.returns-in-Itself
returns-in-Itself c =
    let m = c.args.self.now.terms in
    ends-none m _ _ _ c.loop-left.invariant (stands-none m _ c.in-Itself.is)

pub returns-in-Constant : goal.returns-in-Constant
returns-in-Constant c =
    let m = c.args.self.now.terms in
    ap Term.Constant (to_z-of_z w32 _ (search rules)) ∙ ends-constant m _ _ _ c.loop-left.invariant (stands-constant m _ c.in-Constant.is) c.loop-left-test.true

pub loop-left-preserved : goal.loop-left-preserved
loop-left-preserved c =
    let m = c.args.self.now.terms in
    turns m _ _ _ c.loop-left.invariant _ (stands-variable m _ c.in-Variable.is) c.loop-left-test.true

pub returns : goal.returns
returns c = ends-steps c.args.self.now.terms _ _ _ c.loop-left.invariant (omega arith)
