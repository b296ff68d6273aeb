-- The four words of a node, as they are read: node k of those that start at word `at` of the bytes `b`.
use Rattle.std.specs.Prelude.{ℕ, ◌+◌, ◌*◌, List}
use Rattle.words.specs.Words.{word_at}
use Rattle.records.specs.declared.nodes.NodeEntry.{NodeEntry}
use Rattle.records.specs.Kinds.{NODE-WORDS}

abbrev pub node_entry : List ℕ → ℕ → ℕ → NodeEntry
node_entry b at k =
    let i = at + NODE-WORDS * k in
    record { kind = word_at b i; a = word_at b (i + 1); b = word_at b (i + 2); c = word_at b (i + 3) }
