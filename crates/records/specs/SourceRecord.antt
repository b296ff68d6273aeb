-- The source record: words of its header, the most of each list, and of a name's bytes.
use Rattle.std.specs.Prelude.{ℕ}

abbrev pub HEADER : ℕ
HEADER = 5

abbrev pub NAMES : ℕ
NAMES = 512

abbrev pub PUBLICS : ℕ
PUBLICS = 64

abbrev pub DEFINITIONS : ℕ
DEFINITIONS = 512

abbrev pub EXPRESSIONS : ℕ
EXPRESSIONS = 512

abbrev pub NODES : ℕ
NODES = 2048

abbrev pub NAME-BYTES : ℕ
NAME-BYTES = 64

-- the next link of the last one
abbrev pub NO-LINK : ℕ
NO-LINK = 4294967295
