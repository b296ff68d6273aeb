-- `source_check::reading::read_trees` meets its contract. Assumes nothing.
use mathlib.Core.Path.{◌≡◌, ◌∙◌}
use mathlib.Core.Bool.{true, and-false}
use Rattle.source.specs.Record.{shaped, used_once}
use Rattle.records.specs.declared.refusals.Refusal.{Refusal}
use Rattle.source_check.proofs.Marks.{accepted}
use Rattle.source_check.proofs.Answers.{room, shaped-is, trees-stop, trees-marked, trees-once, trees-not-once}
use Rattle.source_check.proofs.reading.read_trees.Goals as goal
use Rattle.source_check.proofs.reading.read_trees.Goals.{After-used_once}

pub invariant_of-nodes : goal.invariant_of-nodes
invariant_of-nodes c = record { inside = (room c.args.s.now _ c.requires.0 c.requires.1.0).nodes-in; few = c.requires.1.1 }

pub read_publics-requires : goal.read_publics-requires
read_publics-requires c = (room c.args.s.now _ c.requires.0 c.requires.1.0).publics-in

pub read_definitions-requires : goal.read_definitions-requires
read_definitions-requires c = (room c.args.s.now _ c.requires.0 c.requires.1.0).definitions-in

pub read_expressions-requires : goal.read_expressions-requires
read_expressions-requires c = (room c.args.s.now _ c.requires.0 c.requires.1.0).expressions-in

pub returns-in_err-read_nodes : goal.returns-in_err-read_nodes
returns-in_err-read_nodes c =
    let is = shaped-is c.args.s.now c.requires.0 in
    trees-stop c.args.s.now c.requires.0 _ c.read_nodes.ensures.0 c.in_err-read_nodes.was c.from_residual.ensures.1 (λ f. is ∙ rw f)

pub returns-in_err-read_publics : goal.returns-in_err-read_publics
returns-in_err-read_publics c =
    let is = shaped-is c.args.s.now c.requires.0 in
    trees-stop c.args.s.now c.requires.0 _ c.read_publics.ensures c.in_err-read_publics.was c.from_residual-in_err-read_publics.ensures.1
    (λ f. is ∙ rw (f, and-false))

pub returns-in_err-read_definitions : goal.returns-in_err-read_definitions
returns-in_err-read_definitions c =
    let is = shaped-is c.args.s.now c.requires.0 in
    trees-stop c.args.s.now c.requires.0 _ c.read_definitions.ensures.0 c.in_err-read_definitions.was c.from_residual-in_err-read_definitions.ensures.1
    (λ f. is ∙ rw (f, and-false, and-false))

pub returns-in_err-read_expressions : goal.returns-in_err-read_expressions
returns-in_err-read_expressions c =
    let is = shaped-is c.args.s.now c.requires.0 in
    trees-stop c.args.s.now c.requires.0 _ c.read_expressions.ensures.0 c.in_err-read_expressions.was c.from_residual-in_err-read_expressions.ensures.1
    (λ f. is ∙ rw (f, and-false, and-false, and-false))

-- all fit, and the marks say whether each node is used once
all-fit : (c : After-used_once) → shaped c.args.s.now ≡ true
all-fit c = shaped-is c.args.s.now c.requires.0 ∙ rw (
  accepted Refusal.Entry _ c.read_nodes.ensures.0 c.in_ok-read_nodes.was,
  accepted Refusal.Entry _ c.read_publics.ensures c.in_ok-read_publics.was,
  accepted Refusal.Entry _ c.read_definitions.ensures.0 c.in_ok-read_definitions.was,
  accepted Refusal.Entry _ c.read_expressions.ensures.0 c.in_ok-read_expressions.was,
)

marked : (c : After-used_once) → c.used_once.result ≡ used_once c.args.s.now
marked c =
    trees-marked c.args.s.now c.requires.0 c.requires.1.1 c.new-marks.ensures (c.read_nodes.ensures.1 c.in_ok-read_nodes.was)
    (c.read_definitions.ensures.1 c.in_ok-read_definitions.was)
    (c.read_expressions.ensures.1 c.in_ok-read_expressions.was)
    c.used_once.ensures

pub returns-then-used_once : goal.returns-then-used_once
returns-then-used_once c =
    let after = (goal.at.returns-then-used_once c).After-used_once in
    trees-once c.args.s.now (all-fit after) (marked after) c.if-used_once.true

pub returns-else-used_once : goal.returns-else-used_once
returns-else-used_once c =
    let after = (goal.at.returns-else-used_once c).After-used_once in
    trees-not-once c.args.s.now (all-fit after) (marked after) c.if-used_once.false
