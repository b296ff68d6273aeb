-- `Measured::trees_hold` meets its contract. Assumes nothing.
use mathlib.Core.Path.{◌∙◌, sym}
use Rattle.std.proofs.lemmas.Bool.{both_ways}
use Rattle.flat.proofs.Answers.{trees-1, trees-2, trees-3, trees-all}
use Rattle.flat.proofs.measured.Measured.trees_hold.Goals as goal
use Rattle.flat.proofs.measured.Measured.trees_hold.Goals.{then-read_definitions, else-read_definitions, then-read_equations, else-read_equations}

pub returns-then-read_nodes : goal.returns-then-read_nodes
returns-then-read_nodes c =
    let fit = c.read_definitions.ensures.fit in
    elim c.if-read_equations.branch [
      | then-read_equations w ↦ elim c.if-read_definitions.branch [
        | then-read_definitions v ↦
            let yes = v.if-read_definitions.true in
            let sides = sym v.value-is ∙ w.if-read_equations.true in
            let nodes = sym w.value-is ∙ c.if-read_nodes.true in
            trees-all _ _ _ _ _ _ _ _ fit yes v.read_equations.ensures.fit sides w.read_nodes.ensures.fit nodes c.args.self.now.within.few c.new-marks.ensures
            (c.read_definitions.ensures.marks yes) (v.read_equations.ensures.marks sides) (rw v.marks-is at (w.read_nodes.ensures.marks nodes))
            (rw w.marks-is at c.all_once.ensures)
        | else-read_definitions v ↦ absurd (both_ways _ v.if-read_definitions.false (sym v.value-is ∙ w.if-read_equations.true))
      ]
      | else-read_equations w ↦ absurd (both_ways _ w.if-read_equations.false (sym w.value-is ∙ c.if-read_nodes.true))
    ]

pub returns-else-read_nodes : goal.returns-else-read_nodes
returns-else-read_nodes c =
    let fit = c.read_definitions.ensures.fit in
    elim c.if-read_equations.branch [
      | then-read_equations w ↦ elim c.if-read_definitions.branch [
        | then-read_definitions v ↦
            w.value-is ∙ trees-3 _ _ _ _ _ _ _ _ fit v.if-read_definitions.true v.read_equations.ensures.fit (sym v.value-is ∙ w.if-read_equations.true)
            w.read_nodes.ensures.fit (sym w.value-is ∙ c.if-read_nodes.false)
        | else-read_definitions v ↦ absurd (both_ways _ v.if-read_definitions.false (sym v.value-is ∙ w.if-read_equations.true))
      ]
      | else-read_equations w ↦ elim c.if-read_definitions.branch [
        | then-read_definitions v ↦
            w.value-is ∙ v.value-is ∙ trees-2 _ _ _ _ _ _ _ _ fit v.if-read_definitions.true v.read_equations.ensures.fit
            (sym v.value-is ∙ w.if-read_equations.false)
        | else-read_definitions v ↦ w.value-is ∙ v.value-is ∙ trees-1 _ _ _ _ _ _ _ _ fit v.if-read_definitions.false
      ]
    ]
