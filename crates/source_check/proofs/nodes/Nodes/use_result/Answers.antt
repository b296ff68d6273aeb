-- `source_check::nodes::Nodes::use_result` meets its contract. Assumes nothing.
use mathlib.Core.Path.{refl}
use Rattle.std.proofs.lemmas.Bool.{eq-eqb, ne_eqb}
use Rattle.marks.proofs.Counted.{adds_none}
use Rattle.source.specs.Nodes.{result_fits, expression_fits}
use Rattle.source.specs.Uses.{result_uses}
use Rattle.source_check.specs.Marks.{is_of, sort_fits}
use Rattle.source_check.proofs.Marks.{judged-yes, judged-no}
use Rattle.std.proofs.Common.{inl, inr}
use Rattle.source_check.proofs.nodes.Nodes.use_result.Goals as goal

pub returns-in-Arms : goal.returns-in-Arms
unfolding result_fits result_uses expression_fits sort_fits is_of
returns-in-Arms c = rw c.in-Arms.is c.use_node.ensures

pub returns-then-x-eq0 : goal.returns-then-x-eq0
unfolding result_fits result_uses
returns-then-x-eq0 c = elim c.in-Parameters.is [
  | inl e ↦ rw e (judged-yes _ (eq-eqb c.args.x 0 c.if-x-eq0.true) (adds_none _ _ (λ k. refl)))
  | inr e ↦ rw e (judged-yes _ (eq-eqb c.args.x 0 c.if-x-eq0.true) (adds_none _ _ (λ k. refl)))
]

pub returns-else-x-eq0 : goal.returns-else-x-eq0
unfolding result_fits
returns-else-x-eq0 c = elim c.in-Parameters.is [
  | inl e ↦ rw e (judged-no _ refl (ne_eqb c.args.x 0 c.if-x-eq0.false))
  | inr e ↦ rw e (judged-no _ refl (ne_eqb c.args.x 0 c.if-x-eq0.false))
]
