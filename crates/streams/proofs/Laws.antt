-- What holds of a front, and of what was written.
use Rattle.std.proofs.Common.{ℕ, ◌≤◌, List, Option, Result, Ok, Err, IsErr, length, length-take-le, take, sym, rules}
use Rattle.std.specs.Io.KnownBytes.{Appends}
use Rattle.streams.specs.declared.Failed.{Failed}
use Rattle.streams.specs.Streams.{IsPrefixLen, Added}

pub prefix_len : (n : ℕ) (xs : List ℕ) → n ≤ length xs → IsPrefixLen n xs
prefix_len n xs h = (h, sym (length-take-le n xs h))

-- a fault after a front of the bytes
pub added-cut : (r : Result ℕ Failed) (old new : Option (List ℕ)) (bytes : List ℕ) (k : ℕ) → IsErr r → Appends old new (take k bytes) → Added r old new bytes
added-cut (Ok n) old new bytes k e a = search rules
added-cut (Err f) old new bytes k e a = (k, a)
