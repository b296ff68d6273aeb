-- `numbering::number_checked` meets its contract. Assumes nothing.
use Rattle.std.proofs.Common.{◌≡◌, ℕ, [], ◌≤◌, ◌+◌, arith, ap, sym, ◌∙◌, length}
use Rattle.std.proofs.Math.ListN.{length-replicate}
use Rattle.numbering.specs.Outcome.{Outcome}
use Rattle.arrayvec.specs.ArrayVec.{array_vec_len}
use Rattle.numbering.specs.Walks.{Holds, depth, no_entries, no_publics}
use Rattle.numbering.specs.declared.rows.Scopes.{Scopes}
use Rattle.numbering.specs.declared.Numbering.{Numbering}
use Rattle.numbering.proofs.Entire.{no-row-holds, names-asked, nodes-asked, publics-asked, definitions-asked, expressions-asked, entire-at}
use Rattle.numbering.proofs.number_checked.Goals as goal
use Rattle.numbering.proofs.number_checked.Goals.{After-register_intrinsics, After-number_publics-publics}

-- what `register_intrinsics` leaves of the new rows
next-first : (c : After-register_intrinsics) → c.register_intrinsics.new.self.next ≡ 9
next-first c = c.register_intrinsics.ensures.rest.1 ∙ ap (λ (s : Scopes). s.next) c.new-scopes.ensures

next_few : (c : After-number_publics-publics) → c.number_publics-publics.new.self.next ≤ 9 + c.layout_of-l.result.publics
next_few c =
    let e : c.register_intrinsics.new.self.next ≡ 9 = c.register_intrinsics.ensures.rest.1 ∙ ap (λ (s : Scopes). s.next) c.new-scopes.ensures in
    omega (arith, c.number_publics-publics.ensures.few, e)

top_none : (c : After-number_publics-publics) → depth c.number_publics-publics.new.self ≡ 0
top_none c =
    ap array_vec_len (c.number_publics-publics.ensures.rest.same_undo ∙ c.register_intrinsics.ensures.rest.0.same_undo) ∙ ap depth c.new-scopes.ensures

pub invariant_of-names : goal.invariant_of-names
invariant_of-names c = let w = names-asked _ c.requires.1 _ c.layout_of-l.ensures in record { listed = w.0.1; fit = w.0.0; few = w.1 }

pub invariant_of-nodes : goal.invariant_of-nodes
invariant_of-nodes c = let w = nodes-asked _ c.requires.1 _ c.layout_of-l.ensures in record { inside = w.0; few = w.1 }

pub number_publics-publics-requires : goal.number_publics-publics-requires
number_publics-publics-requires c =
    let w = publics-asked _ c.requires.1 _ c.layout_of-l.ensures in record {
      long = w.0.0;
      fit = w.0.1;
      few = (w.1, omega (arith, next-first (goal.at.number_publics-publics-requires c).After-register_intrinsics));
    }

pub number_definitions-requires : goal.number_definitions-requires
number_definitions-requires c =
    let d = (goal.at.number_definitions-requires c).After-number_publics-publics in
    let w = definitions-asked _ c.requires.1 _ c.layout_of-l.ensures c.number_publics-publics.new.self (next_few d) (top_none d) in record {
      long = w.0.0;
      fit = w.0.1;
      ready = w.1;
    }

pub number_expressions-requires : goal.number_expressions-requires
number_expressions-requires c =
    let d = (goal.at.number_expressions-requires c).After-number_publics-publics in
    let w = expressions-asked _ c.requires.1 _ c.layout_of-l.ensures (next_few d) (top_none d) c.number_definitions.ensures in record {
      long = w.0.0;
      fit = w.0.1;
      ready = w.1;
    }

pub returns : goal.returns
unfolding Outcome no_entries no_publics
returns c =
    let new = c.new-scopes.ensures in
    let first = c.register_intrinsics.ensures in
    let hl : Holds c.register_intrinsics.new.self.locals [] = rw (first.rest.0.same_locals, new) no-row-holds in
    let same : c.register_intrinsics.new.self.ids ≡ no_entries = first.rest.0.same_ids ∙ ap (λ (s : Scopes). s.ids) new in
    let last = c.answered.ensures in
    let li = ap (λ (n : Numbering). length n.ids) (sym last.parts) ∙ last.long.0 ∙ sym (ap length same ∙ length-replicate {A = ℕ} 2048 0) in
    let lp = ap (λ (n : Numbering). length n.publics) (sym last.parts) ∙ last.long.1 ∙ sym (length-replicate {A = ℕ} 64 0) in
    let w = entire-at _ c.requires.1 _ c.layout_of-l.ensures c.number_publics-publics.ensures c.number_definitions.ensures c.number_expressions.ensures
    (next-first (goal.at.returns c).After-register_intrinsics) hl (first.holds (rw new no-row-holds)) li lp in
    rw last.parts (c.requires.0, rw same at w)
