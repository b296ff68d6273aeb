-- What a step does to a writer. Assumes nothing.
use Rattle.std.specs.Prelude.{◌≡◌, List, ℕ, ◌+◌, ◌*◌}
use Rattle.words.specs.Words.{set_words}
use Rattle.flat.specs.Trees.{Flat}
use Rattle.constraint.specs.Record.{root_from, next_from}
use Rattle.pass_keep.specs.declared.Writer.{Writer}
use Rattle.pass_keep.specs.Keeping.{Kept, NodeRoom, WordRoom, put_tree}

-- where it writes next
abbrev pub place_of : Writer → Kept
place_of w = record { at = w.at; nodes = w.nodes }

-- room in its list for n nodes, and in its body for so many definitions
abbrev pub NodesIn : ℕ → Writer → Type 0
NodesIn n w = NodeRoom n w.nodes w.list.now

abbrev pub WordsIn : ℕ → Writer → Type 0
WordsIn count w = WordRoom count w.at w.body.now

-- the slices that it is lent stay the same ones
pub record Lent (old new : Writer) : Type 0 where
  pub body : new.body ≡ record old.body { now = new.body.now }
  pub list : new.list ≡ record old.list { now = new.list.now }

-- the list after nodes are written, the index of the last of them, which the step answers, and the index after it; the body stays
pub record Listed (list : List ℕ) (root next result : ℕ) (old new : Writer) : Type 0 where
  pub list-is : new.list.now ≡ list
  pub root_is : result ≡ root
  pub next-is : new.nodes ≡ next
  pub body_is : new.body ≡ old.body
  pub at_is : new.at ≡ old.at
  pub lent : new.list ≡ record old.list { now = new.list.now }

-- one node is written
abbrev pub NodePut : List ℕ → ℕ → Writer → Writer → Type 0
NodePut words result old new = Listed (set_words old.list.now (4 * old.nodes) words) old.nodes (old.nodes + 1) result old new

-- the nodes of a tree are written
abbrev pub TreePut : Flat → ℕ → Writer → Writer → Type 0
TreePut e result old new = Listed (put_tree old.list.now old.nodes e) (root_from old.nodes e) (next_from old.nodes e) result old new
