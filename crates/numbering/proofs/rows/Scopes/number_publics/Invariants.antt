use Rattle.std.proofs.Common.{◌≡◌, ◌≤◌, ◌+◌, ◌-◌, List, ℕ, length}
use Rattle.numbering.specs.Walks.{Published, no_publics}
use Rattle.numbering.specs.declared.rows.Scopes.{Scopes}
use Rattle.numbering.proofs.rows.Scopes.number_publics.Given as goal

abbrev pub invariant-loop-i : goal.invariant-loop-i
invariant-loop-i l = record {
  few : l.self.next ≤ l.initial.self.next + l.i;
  long : length l.publics ≡ 64;
  left : (s : Scopes) (p : List ℕ) → Published l.names.bytes.now l.list (l.count - l.i) l.i l.self l.publics s p
      → Published l.names.bytes.now l.list l.count 0 l.initial.self no_publics s p;
}
