use Rattle.eval_write.specs.Writers.{Wrote}
use Rattle.eval_write.specs.Written.{write_definitions}
use Rattle.eval_write.proofs.writer.Writer.definitions.Given as goal

abbrev pub invariant-loop-d : goal.invariant-loop-d
invariant-loop-d l =
    Wrote (write_definitions l.memory.fixed l.memory.store.now l.initial.self.at l.memory.rows l.places.words l.list l.d) l.initial.self l.self
