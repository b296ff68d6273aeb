-- The flat record: words of its header, and the most of each list.
use Rattle.std.specs.Prelude.{ℕ}

abbrev pub HEADER : ℕ
HEADER = 6

abbrev pub PUBLICS : ℕ
PUBLICS = 64

-- "4,096 of each other list": prover ids, definitions, equations
abbrev pub LISTED : ℕ
LISTED = 4096

abbrev pub LAST-LISTED : ℕ
LAST-LISTED = 4095

abbrev pub NODES : ℕ
NODES = 16384

-- "Ids to 65,535, next id to 65,536"
abbrev pub IDS : ℕ
IDS = 65536

abbrev pub LAST-ID : ℕ
LAST-ID = 65535
