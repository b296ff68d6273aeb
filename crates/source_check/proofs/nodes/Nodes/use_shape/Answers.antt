-- `source_check::nodes::Nodes::use_shape` meets its contract. Assumes nothing.
use mathlib.Core.Path.{◌≡◌, refl, ap}
use Rattle.std.proofs.Common.{inl, inr}
use Rattle.source.specs.Children.{Child}
use Rattle.source.specs.Nodes.{shape_children, child_fits, expression_fits, pattern_fits, three}
use Rattle.source.specs.Uses.{child_uses}
use Rattle.source_check.specs.Marks.{is_of, sort_fits}
use Rattle.source_check.proofs.Marks.{judged-none}
use Rattle.source_check.proofs.Lists.{uses-none, uses-one, uses-two, first-stops}
use Rattle.source_check.proofs.nodes.Nodes.use_shape.Goals as goal
use Rattle.source_check.proofs.nodes.Nodes.use_shape.Goals.{In-Product}

pub returns-in-Unit : goal.returns-in-Unit
unfolding child_fits child_uses expression_fits pattern_fits sort_fits is_of
returns-in-Unit c =
    elim c.in-Unit.is [
      | inl e ↦ uses-none c.args.self.now (ap shape_children e)
      | inr (inl e) ↦ uses-none c.args.self.now (ap shape_children e)
      | inr (inr (n, e)) ↦ uses-none c.args.self.now (ap shape_children e)
    ]

pub returns-in-Variable : goal.returns-in-Variable
unfolding child_fits child_uses expression_fits pattern_fits sort_fits is_of
returns-in-Variable c =
    uses-one c.args.self.now (Child.Name c.in-Variable.v) (ap shape_children c.in-Variable.is)
    (judged-none _ c.use_name.ensures refl (λ k. refl))

pub returns-in_err-use_node-in-As : goal.returns-in_err-use_node-in-As
unfolding child_fits child_uses expression_fits pattern_fits sort_fits is_of
returns-in_err-use_node-in-As c =
    rw c.in-As.is (first-stops c.args.self.now _ c.use_node.ensures
    c.in_err-use_node-in-As.was c.from_residual.ensures.1)

pub returns-in_ok-use_node-in-As : goal.returns-in_ok-use_node-in-As
unfolding child_fits child_uses expression_fits pattern_fits sort_fits is_of
returns-in_ok-use_node-in-As c =
    uses-two c.args.self.now (Child.Pattern c.in-As.p) (Child.Name c.in-As.v) (ap
    shape_children c.in-As.is)
    c.use_node.ensures c.in_ok-use_node-in-As.was (judged-none _ c.use_name-in-As.ensures refl (λ k. refl))

-- the two patterns of two shapes
two : (c : In-Product) → shape_children c.args.shape ≡ three (Child.Pattern c.in-Product.p) (Child.Pattern c.in-Product.q) Child.Nothing
two c = elim c.in-Product.is [ inl e ↦ ap shape_children e | inr e ↦ ap shape_children e ]

pub returns-in_err-use_node-in-Product : goal.returns-in_err-use_node-in-Product
unfolding child_fits child_uses expression_fits pattern_fits sort_fits is_of
returns-in_err-use_node-in-Product c =
    let e = two (goal.at.returns-in_err-use_node-in-Product c).In-Product in
    rw e (first-stops c.args.self.now _ c.use_node-in-Product.ensures
    c.in_err-use_node-in-Product.was c.from_residual-in_err-use_node-in-Product.ensures.1)

pub returns-in_ok-use_node-in-Product : goal.returns-in_ok-use_node-in-Product
unfolding child_fits child_uses expression_fits pattern_fits sort_fits is_of
returns-in_ok-use_node-in-Product c =
    uses-two c.args.self.now (Child.Pattern c.in-Product.p) (Child.Pattern c.in-Product.q)
    (two (goal.at.returns-in_ok-use_node-in-Product c).In-Product) c.use_node-in-Product.ensures c.in_ok-use_node-in-Product.was
    c.use_node-in-Product-2.ensures
