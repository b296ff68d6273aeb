-- What a step does to a writer. Assumes nothing.
use Rattle.std.specs.Prelude.{◌≡◌}
use Rattle.eval_write.specs.declared.writer.Writer.{Writer}
use Rattle.eval_write.specs.Written.{Written, written}

-- its nodes and bytes
abbrev pub written_of : Writer → Written
written_of w = written w.nodes w.out.now

-- the step is one on these, and all else stays
pub record Wrote (step : Written → Written) (old new : Writer) : Type 0 where
  pub runs : written_of new ≡ step (written_of old)
  pub at : new.at ≡ old.at
  pub memory : new.memory ≡ old.memory
  pub out : new.out ≡ record old.out { now = new.out.now }
