-- `Measured::rules_hold` meets its contract. Assumes nothing.
use mathlib.Core.Bool.{true}
use mathlib.Core.Path.{◌≡◌, ◌∙◌, sym}
use Rattle.std.proofs.lemmas.Bool.{both_ways}
use Rattle.marks.proofs.Indices.{and_no, and-on}
use Rattle.flat.proofs.Answers.{hold-definitions, hold-nodes, rules-by, next-small}
use Rattle.flat.specs.Record.{trees_hold, ids_hold}
use Rattle.flat.proofs.measured.Measured.rules_hold.Goals as goal
use Rattle.flat.proofs.measured.Measured.rules_hold.Goals.{Then-trees_hold, then-ids_hold, else-ids_hold}

-- where both tests hold
both : (c : Then-trees_hold) →
    (ids_hold c.args.self.now.bytes.now c.args.self.now.layout ≡ true)
    × (trees_hold c.args.self.now.bytes.now c.args.self.now.layout.next c.args.self.now.layout.definitions_at c.args.self.now.layout.definitions
    c.args.self.now.layout.equations_at c.args.self.now.layout.equations c.args.self.now.layout.nodes_at c.args.self.now.layout.nodes ≡ true)
both c =
    elim c.if-ids_hold.branch [
      | then-ids_hold w ↦ (sym c.ids_hold.ensures ∙ w.if-ids_hold.true, sym w.trees_hold.ensures ∙ sym w.value-is ∙ c.if-trees_hold.true)
      | else-ids_hold w ↦ absurd (both_ways _ w.if-ids_hold.false (sym w.value-is ∙ c.if-trees_hold.true))
    ]

pub in_order-requires-clause-definitions : goal.in_order-requires-clause-definitions
in_order-requires-clause-definitions c = hold-definitions _ _ _ _ _ _ _ _ (both c).1

pub in_order-requires-clause-fit : goal.in_order-requires-clause-fit
in_order-requires-clause-fit c = hold-nodes _ _ _ _ _ _ _ _ (both c).1

pub in_order-requires-clause-ids : goal.in_order-requires-clause-ids
in_order-requires-clause-ids c = next-small _ _ (both c).0

pub returns-then-trees_hold : goal.returns-then-trees_hold
returns-then-trees_hold c =
    let laid = c.args.self.now.laid in
    elim c.if-ids_hold.branch [
      | then-ids_hold w ↦
          and-on _ (sym c.ids_hold.ensures ∙ w.if-ids_hold.true)
          (and-on _ (sym w.trees_hold.ensures ∙ sym w.value-is ∙ c.if-trees_hold.true) c.in_order.ensures) ∙ rules-by _ laid
      | else-ids_hold w ↦ absurd (both_ways _ w.if-ids_hold.false (sym w.value-is ∙ c.if-trees_hold.true))
    ]

pub returns-else-trees_hold : goal.returns-else-trees_hold
returns-else-trees_hold c =
    let laid = c.args.self.now.laid in
    let no = c.if-trees_hold.false in
    elim c.if-ids_hold.branch [
      | then-ids_hold w ↦
          no ∙ and-on _ (sym c.ids_hold.ensures ∙ w.if-ids_hold.true) (and_no _ _ (sym w.trees_hold.ensures ∙ sym w.value-is ∙ no)) ∙ rules-by _ laid
      | else-ids_hold w ↦ no ∙ and_no _ _ (sym c.ids_hold.ensures ∙ w.if-ids_hold.false) ∙ rules-by _ laid
    ]
