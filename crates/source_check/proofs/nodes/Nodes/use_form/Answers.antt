-- `source_check::nodes::Nodes::use_form` meets its contract. Assumes nothing.
use mathlib.Core.Path.{◌≡◌, refl, ap}
use Rattle.std.proofs.Common.{inl, inr}
use Rattle.source.specs.declared.Chain.{Chain}
use Rattle.source.specs.Children.{Child}
use Rattle.source.specs.Nodes.{form_children, child_fits, expression_fits, pattern_fits, three}
use Rattle.source.specs.Uses.{child_uses}
use Rattle.source_check.specs.Marks.{is_of, sort_fits}
use Rattle.source_check.proofs.Marks.{judged-none}
use Rattle.source_check.proofs.Lists.{uses-none, uses-one, uses-two, uses-three, first-stops, second-stops}
use Rattle.source_check.proofs.nodes.Nodes.use_form.Goals as goal
use Rattle.source_check.proofs.nodes.Nodes.use_form.Goals.{In-Product}

pub returns-in-Unit : goal.returns-in-Unit
unfolding child_fits child_uses expression_fits pattern_fits sort_fits is_of
returns-in-Unit c =
    elim c.in-Unit.is [
      | inl e ↦ uses-none c.args.self.now (ap form_children e)
      | inr (inl e) ↦ uses-none c.args.self.now (ap form_children e)
      | inr (inr (n, e)) ↦ uses-none c.args.self.now (ap form_children e)
    ]

pub returns-in-Variable : goal.returns-in-Variable
unfolding child_fits child_uses expression_fits pattern_fits sort_fits is_of
returns-in-Variable c =
    uses-one c.args.self.now (Child.Name c.in-Variable.v) (ap form_children c.in-Variable.is)
    (judged-none _ c.use_name.ensures refl (λ k. refl))

pub returns-in-Negate : goal.returns-in-Negate
unfolding child_fits child_uses expression_fits pattern_fits sort_fits is_of
returns-in-Negate c =
    uses-one c.args.self.now (Child.Expression c.in-Negate.x) (ap form_children
    c.in-Negate.is) c.use_node.ensures

-- the two expressions of four forms
two : (c : In-Product) → form_children c.args.form ≡ three (Child.Expression c.in-Product.x) (Child.Expression c.in-Product.y) Child.Nothing
two c = elim c.in-Product.is [
  | inl e ↦ ap form_children e
  | inr (inl e) ↦ ap form_children e
  | inr (inr (inl (o, e))) ↦ ap form_children e
  | inr (inr (inr e)) ↦ ap form_children e
]

pub returns-in_err-use_node-in-Product : goal.returns-in_err-use_node-in-Product
unfolding child_fits child_uses expression_fits pattern_fits sort_fits is_of
returns-in_err-use_node-in-Product c =
    let e = two (goal.at.returns-in_err-use_node-in-Product c).In-Product in
    rw e (first-stops c.args.self.now _ c.use_node-in-Product.ensures
    c.in_err-use_node-in-Product.was c.from_residual-in_err-use_node-in-Product.ensures.1)

pub returns-in_ok-use_node-in-Product : goal.returns-in_ok-use_node-in-Product
unfolding child_fits child_uses expression_fits pattern_fits sort_fits is_of
returns-in_ok-use_node-in-Product c =
    uses-two c.args.self.now (Child.Expression c.in-Product.x) (Child.Expression c.in-Product.y)
    (two (goal.at.returns-in_ok-use_node-in-Product c).In-Product) c.use_node-in-Product.ensures c.in_ok-use_node-in-Product.was
    c.use_node-in-Product-2.ensures

pub returns-in_err-use_chain-in-Function : goal.returns-in_err-use_chain-in-Function
unfolding child_fits child_uses expression_fits pattern_fits sort_fits is_of
returns-in_err-use_chain-in-Function c =
    rw c.in-Function.is (first-stops c.args.self.now _ c.use_chain.ensures
    c.in_err-use_chain-in-Function.was c.from_residual.ensures.1)

pub returns-in_ok-use_chain-in-Function : goal.returns-in_ok-use_chain-in-Function
unfolding child_fits child_uses expression_fits pattern_fits sort_fits is_of
returns-in_ok-use_chain-in-Function c =
    uses-two c.args.self.now (Child.Links Chain.Parameters c.in-Function.l)
    (Child.Expression c.in-Function.y) (ap form_children c.in-Function.is)
    c.use_chain.ensures c.in_ok-use_chain-in-Function.was c.use_node-in-Function.ensures

pub returns-in_err-use_node-in-Let : goal.returns-in_err-use_node-in-Let
unfolding child_fits child_uses expression_fits pattern_fits sort_fits is_of
returns-in_err-use_node-in-Let c =
    rw c.in-Let.is (first-stops c.args.self.now _ c.use_node-in-Let.ensures
    c.in_err-use_node-in-Let.was c.from_residual-in_err-use_node-in-Let.ensures.1)

pub returns-in_err-use_node-in-Let-2 : goal.returns-in_err-use_node-in-Let-2
unfolding child_fits child_uses expression_fits pattern_fits sort_fits is_of
returns-in_err-use_node-in-Let-2 c =
    rw c.in-Let.is (second-stops c.args.self.now _ c.use_node-in-Let.ensures
    c.in_ok-use_node-in-Let.was
    c.use_node-in-Let-2.ensures c.in_err-use_node-in-Let-2.was c.from_residual-in_err-use_node-in-Let-2.ensures.1)

pub returns-in_ok-use_node-in-Let-2 : goal.returns-in_ok-use_node-in-Let-2
unfolding child_fits child_uses expression_fits pattern_fits sort_fits is_of
returns-in_ok-use_node-in-Let-2 c =
    rw c.in-Let.is (uses-three c.args.self.now _ c.use_node-in-Let.ensures
    c.in_ok-use_node-in-Let.was
    c.use_node-in-Let-2.ensures c.in_ok-use_node-in-Let-2.was c.use_node-in-Let-3.ensures)

pub returns-in_err-use_node-in-Match : goal.returns-in_err-use_node-in-Match
unfolding child_fits child_uses expression_fits pattern_fits sort_fits is_of
returns-in_err-use_node-in-Match c =
    rw c.in-Match.is (first-stops c.args.self.now _ c.use_node-in-Match.ensures
    c.in_err-use_node-in-Match.was c.from_residual-in_err-use_node-in-Match.ensures.1)

pub returns-in_ok-use_node-in-Match : goal.returns-in_ok-use_node-in-Match
unfolding child_fits child_uses expression_fits pattern_fits sort_fits is_of
returns-in_ok-use_node-in-Match c =
    uses-two c.args.self.now (Child.Expression c.in-Match.x) (Child.Links Chain.Arms
    c.in-Match.l) (ap form_children c.in-Match.is)
    c.use_node-in-Match.ensures c.in_ok-use_node-in-Match.was c.use_chain-in-Match.ensures

pub returns-in-Sequence : goal.returns-in-Sequence
unfolding child_fits child_uses expression_fits pattern_fits sort_fits is_of
returns-in-Sequence c =
    uses-one c.args.self.now (Child.Links Chain.Items c.in-Sequence.l) (ap form_children
    c.in-Sequence.is) c.use_chain-in-Sequence.ensures
