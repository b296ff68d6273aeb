-- What the words of a node must be.
use Rattle.std.specs.Prelude.{ℕ}
use Rattle.source.specs.declared.Chain.{Chain}

-- nothing, a name, an expression, a pattern, or the first link of a chain; of no node, nothing can serve
pub data Child : Type 0 where
  Nothing : Child
  Name : ℕ → Child
  Expression : ℕ → Child
  Pattern : ℕ → Child
  Links : Chain → ℕ → Child
  Wrong : Child

pub record Children : Type 0 where
  pub first : Child
  pub second : Child
  pub third : Child
