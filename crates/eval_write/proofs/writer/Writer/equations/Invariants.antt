use Rattle.eval_write.specs.Writers.{Wrote}
use Rattle.eval_write.specs.Written.{write_equations}
use Rattle.eval_write.proofs.writer.Writer.equations.Given as goal

abbrev pub invariant-loop-e : goal.invariant-loop-e
invariant-loop-e l =
    Wrote (write_equations l.memory.fixed l.memory.store.now l.initial.self.at l.memory.rows l.places.words l.list l.e) l.initial.self l.self
