use Rattle.std.proofs.Common.{◌≡◌, ◌-◌, ◌≤◌, length, take, drop}
use Rattle.arrayvec.specs.Iter.{drain_items, drain_kept, drain_lender}
use Rattle.numbering.specs.Walks.{depth, unwound}
use Rattle.numbering.proofs.rows.Scopes.unwind.Given as goal

abbrev pub invariant-loop-entry : goal.invariant-loop-entry
invariant-loop-entry l =
    let first = l.fn.self in
    let left = drain_items l.entries in record {
      rows : unwound first.undo.items l.base (length left) l.self.1.0 ≡ unwound first.undo.items l.base (depth first - l.base) first.locals;
      items : left ≡ take (length left) (drop l.base first.undo.items);
      placed : (l.entries.keep ≤ l.entries.front) × (l.entries.back ≤ length l.entries.vec.now.items);
      lender : drain_lender l.entries ≡ drain_lender l.initial.entries;
      kept : drain_kept l.entries ≡ take l.base first.undo.items;
    }

abbrev pub decreases-loop-entry : goal.decreases-loop-entry
decreases-loop-entry l = length (drain_items l.entries)
