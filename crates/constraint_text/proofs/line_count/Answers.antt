-- `constraint_text::line_count` meets its contract. Assumes nothing.
use native.Mathlib.Omega.{arith}
use Rattle.constraint_text.proofs.Lines.{no_line, counted}
use Rattle.constraint_text.proofs.line_count.Goals as goal

pub returns-then-s-lt-HEADER_BYTES : goal.returns-then-s-lt-HEADER_BYTES
returns-then-s-lt-HEADER_BYTES c = no_line _ c.if-s-lt-HEADER_BYTES.true

pub returns : goal.returns
returns c = counted _ _ c.layout_of-l.ensures c.if-s-lt-HEADER_BYTES.false (omega arith)
