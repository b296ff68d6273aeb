use mathlib.Core.Path.{◌≡◌}
use Rattle.constraint.specs.declared.Term.{Term}
use Rattle.pass_trees.specs.Passes.{walk}
use Rattle.pass_copies.specs.Substituted.{subst_of}
use Rattle.pass_copies.proofs.Substitutions.resolve.Given as goal

abbrev pub invariant-loop-left : goal.invariant-loop-left
invariant-loop-left l = (walk l._left (subst_of l.self.terms) (Term.Variable l.id) ≡ walk l.self.steps (subst_of l.self.terms) (Term.Variable l.v))
