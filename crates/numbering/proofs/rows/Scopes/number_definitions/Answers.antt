use Rattle.source.proofs.Parts.{pattern-is, value-is}
use Rattle.numbering.proofs.Listed.{definitions-all, definitions-start, definitions-first, definitions-rest, definitions-step, definitions-end}
use Rattle.numbering.proofs.rows.Scopes.number_definitions.Goals as goal

pub loop-i-init : goal.loop-i-init
loop-i-init c = record { ready = definitions-all _ _ _ _ _ c.requires.ready; left = λ s w. definitions-start _ _ _ _ _ w }

pub number_def_variables-requires : goal.number_def_variables-requires
number_def_variables-requires c =
    let read = c.definition_at-d.ensures in
    definitions-first _ _ _ _ _ _ _ (pattern-is read) (value-is read) c.requires.fit c.loop-i-test.true c.loop-i.invariant.ready

pub loop-i-preserved : goal.loop-i-preserved
loop-i-preserved c =
    let v = c.number_def_variables.ensures in
    let less = c.loop-i-test.true in
    let inv = c.loop-i.invariant in
    let p = pattern-is c.definition_at-d.ensures in
    let x = value-is c.definition_at-d.ensures in record {
      ready = definitions-rest _ _ _ _ _ _ p x less inv.ready v;
      left = λ s w. inv.left s (definitions-step _ _ _ _ _ _ p x less inv.ready v w);
    }

pub returns : goal.returns
returns c = c.loop-i.invariant.left _ (definitions-end _ _ _ _ _ _ c.loop-i-test.false)
