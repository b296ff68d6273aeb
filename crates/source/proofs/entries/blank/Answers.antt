-- `source::entries::blank` meets its contract. Assumes nothing.
use Rattle.std.proofs.Common.{◌≡◌, ℕ, List, [], ◌∷◌, Bool, true, false, refl, sym, ap, ◌∙◌, eqb, ◌&&◌}
use Rattle.std.specs.Prelude.{Option, Some, None}
use Rattle.std.specs.Bool.{then_some}
use Rattle.std.specs.List.{list_all}
use Rattle.source.specs.declared.Node.{Node}
use Rattle.source.specs.Nodes.{all_unused}
use Rattle.marks.specs.Indices.{pick}
use Rattle.source.proofs.entries.blank.Goals as goal

pick-and : (t u : Bool) (o : Option Node) {p : Option Node} → p ≡ pick u o None → pick t p None ≡ pick (t && u) o None
unfolding pick
pick-and true u o e = e
pick-and false u o e = refl

unused-zeros : (ws : List ℕ) (e : Option Node) → all_unused ws e ≡ pick (list_all (λ w. eqb w 0) ws) e None
unfolding pick
unused-zeros [] e = refl
unused-zeros (w ∷ ws) e = pick-and (eqb w 0) _ e (unused-zeros ws e)

kept-some : (t : Bool) (n : Node) → then_some t n ≡ pick t (Some n) None
unfolding pick
kept-some true n = refl
kept-some false n = refl

pub returns : goal.returns
returns c = c.then_some.ensures ∙ ap (λ (t : Bool). then_some t c.args.node) c.zeros.ensures ∙ kept-some _ _ ∙ sym (unused-zeros c.args.unused.now _)
