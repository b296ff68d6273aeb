-- How long a constraint record can be. Proved in proofs/Longest.antt.
use Rattle.std.specs.Prelude.{◌≡◌, List, ℕ, ◌≤◌, length}
use Rattle.constraint.specs.Trees.{ConstraintModule}
use Rattle.constraint.specs.Record.{constraint_bytes}
use Rattle.pass_trees.specs.Passes.{cut}
use Rattle.pass_entry.specs.Cut.{cut_record}
use Rattle.pass_entry.specs.Body.{OUTPUT-BYTES}

-- THE LONGEST CONSTRAINT RECORD of a lent flat record has 786,712 bytes: an output of so many is never too short
abbrev pub LongestLent : Type 0
LongestLent = (b : List ℕ) (c : ConstraintModule) → cut_record b ≡ cut c → length (constraint_bytes c) ≤ OUTPUT-BYTES
