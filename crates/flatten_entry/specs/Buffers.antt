-- Zeros for a record, a store and an output.
use Rattle.std.specs.Prelude.{ℕ, ◌+◌, List, replicate}
use Rattle.source.specs.Layout.{BYTES}
use Rattle.pass_entry.specs.Body.{OUTPUT-BYTES}

-- the longest source record, and one byte more; 16 bytes for each node that a store may hold
abbrev pub LONGEST-SOURCE : ℕ
LONGEST-SOURCE = BYTES

abbrev pub RECORD-BYTES : ℕ
RECORD-BYTES = LONGEST-SOURCE + 1

abbrev pub STORE-BYTES : ℕ
STORE-BYTES = 1048560

unfoldable pub record_buffer : List ℕ
record_buffer = replicate RECORD-BYTES 0

unfoldable pub store_buffer : List ℕ
store_buffer = replicate STORE-BYTES 0

unfoldable pub output_buffer : List ℕ
output_buffer = replicate OUTPUT-BYTES 0
