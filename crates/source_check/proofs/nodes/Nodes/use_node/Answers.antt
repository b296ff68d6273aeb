-- `source_check::nodes::Nodes::use_node` meets its contract. Assumes nothing.
use mathlib.Core.Path.{◌≡◌, refl}
use mathlib.Core.Bool.{false, and-false}
use Rattle.std.specs.Prelude.{None}
use Rattle.source.specs.Nodes.{is_expression, is_pattern}
use Rattle.source_check.specs.declared.reading.Sort.{Sort}
use Rattle.std.proofs.lemmas.Bool.{lt-ltb, le-ltb}
use Rattle.marks.proofs.Counted.{adds-use}
use Rattle.source_check.specs.Marks.{is_of, sort_fits}
use Rattle.source_check.proofs.Marks.{judged-yes, judged-no, there, missing}
use Rattle.source_check.proofs.nodes.Nodes.use_node.Goals as goal

none-of : (s : Sort) → is_of s None ≡ false
unfolding is_of is_expression is_pattern
none-of Sort.Expression = refl
none-of Sort.Pattern = refl

pub returns-then-self-x : goal.returns-then-self-x
unfolding sort_fits
returns-then-self-x c = judged-no _ refl (rw (le-ltb c.args.x c.args.self.now.count c.if-self-x.true))

pub returns-in_err-read : goal.returns-in_err-read
unfolding sort_fits
returns-in_err-read c =
    let w = missing c.read.ensures c.in_err-read.was c.from_residual.ensures.1 in
    judged-no _ w.1 (rw (w.0, none-of c.args.sort, and-false))

pub returns-then-not-is_of : goal.returns-then-not-is_of
unfolding sort_fits
returns-then-not-is_of c = judged-no _ refl (rw (there c.read.ensures c.in_ok-read.was, ← c.is_of.ensures, c.if-not-is_of.true, and-false))

pub returns : goal.returns
unfolding sort_fits
returns c = judged-yes _ (rw (
  there c.read.ensures c.in_ok-read.was,
  ← c.is_of.ensures,
  c.if-not-is_of.false,
  lt-ltb c.args.x c.args.self.now.count
      c.if-self-x.false,
)) (adds-use c.args.x c.add.ensures)
