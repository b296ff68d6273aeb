use Rattle.std.specs.Io.KnownBytes.{Appends}
use Rattle.constraint_text.specs.Reading.{lines_text}
use Rattle.constraint_text.proofs.print_equalities.Given as goal

abbrev pub invariant-loop-k : goal.invariant-loop-k
invariant-loop-k g l = Appends (g.W.Write.contents l.initial.out) (g.W.Write.contents l.out) (lines_text l.s 0 l.k)
