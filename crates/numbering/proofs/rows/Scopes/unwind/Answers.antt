use Rattle.std.proofs.Common.{List, Option, ℕ, arith, ap, ap₂, sym, ◌∙◌, length}
use Rattle.arrayvec.specs.Iter.{drain_kept}
use Rattle.numbering.specs.declared.rows.Undo.{Undo}
use Rattle.numbering.proofs.Held.{last-names, rest-left, unwound-last, unwound-none}
use Rattle.numbering.proofs.rows.Scopes.unwind.Goals as goal

pub next_back-requires : goal.next_back-requires
next_back-requires c = (omega arith, (c.loop-entry.invariant.placed.0, c.loop-entry.invariant.placed.1, omega arith))

pub bounds-self-entry : goal.bounds-self-entry
bounds-self-entry c = last-names _ _ _ _ _ c.in-Some.ensures.steps.0 c.loop-entry.invariant.items c.requires.names

pub loop-entry-preserved : goal.loop-entry-preserved
loop-entry-preserved c =
    let turn = c.loop-entry.invariant in
    let steps = c.in-Some.ensures.steps in
    let next = c.in-Some.ensures.goes.keeps in
    record {
      rows = unwound-last _ _ _ _ _ steps.0 turn.items _ ∙ turn.rows;
      items = rest-left c.args.self.now.undo.items c.args.base _ _ _ steps.0 turn.items;
      lender = steps.1.0 ∙ turn.lender;
      kept = steps.1.1 ∙ turn.kept;
      placed = (next.0, next.1);
    }

pub returns : goal.returns
returns c =
    let first = c.args.self.now in
    let turn = c.loop-entry.invariant in
    let steps = c.in_default.ensures.steps in
    let rows = sym (unwound-none first.undo.items c.args.base c.loop-entry.self.1.0 (ap length steps.0)) ∙ turn.rows in
    let kept = c.drop-entries.ensures (omega arith) ∙ ap drain_kept steps.1 ∙ turn.kept in
    ap₂ (λ (r : List (Option ℕ)) (u : List Undo). record first { locals = r; undo = record { items = u } }) rows kept
