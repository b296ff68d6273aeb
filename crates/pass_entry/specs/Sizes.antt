-- How long the port's own lists are, and where the parts of a record that is made in them may stand.
use Rattle.std.specs.Prelude.{ℕ, ◌+◌, ◌*◌, ◌≤◌}
use Rattle.std.specs.Coded.{le_prop}
use Rattle.constraint.specs.Record.{EQUALITY-WORDS, KEPT-WORDS}
use Rattle.records.specs.FlatRecord.{IDS, LISTED, NODES, PUBLICS}
use Rattle.records.specs.Kinds.{NODE-WORDS}

-- the most that a flat record can give: publics, prover ids, an equality for each node, kept definitions; and the nodes of these
abbrev pub BODY-WORDS : ℕ
BODY-WORDS = PUBLICS + IDS + EQUALITY-WORDS * NODES + KEPT-WORDS * LISTED

abbrev pub BODY-BYTES : ℕ
BODY-BYTES = 4 * BODY-WORDS

abbrev pub LIST-BYTES : ℕ
LIST-BYTES = 4 * (NODE-WORDS * NODES)

-- the numbers that say where the parts of a record stand in the lists follow each other, and are no more. At most one proof says so
abbrev pub Ordered : ℕ → ℕ → ℕ → ℕ → Type 0
Ordered publics start equalities kept = (publics ≤ start) × ((start ≤ equalities) × (equalities ≤ kept))

pub ordered-prop : {publics start equalities kept : ℕ} → IsProp (Ordered publics start equalities kept)
ordered-prop = hlevel le_prop

abbrev pub Bounded : ℕ → ℕ → Type 0
Bounded kept nodes = (kept ≤ BODY-WORDS) × (nodes ≤ NODES)

pub bounded-prop : {kept nodes : ℕ} → IsProp (Bounded kept nodes)
bounded-prop = hlevel le_prop
