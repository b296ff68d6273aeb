-- `eval_write::writer::Writer::equations` meets its contract: an equation's entry has the roots of its sides. Assumes nothing.
use borrow.Author.Rules.{rules}
use Rattle.std.proofs.Common.{◌≡◌, ◌+◌, ◌*◌}
use Rattle.words.specs.Words.{set_words}
use Rattle.flat.specs.Layout.{equation_words}
use Rattle.eval_places.specs.Places.{column_number}
use Rattle.eval_write.specs.Written.{write_sides, write_equation}
use Rattle.eval_write.proofs.Laws.{lists}
use Rattle.eval_write.proofs.writer.Writer.equations.Goals as goal

pub loop-e-preserved : goal.loop-e-preserved
unfolding write_sides write_equation column_number
loop-e-preserved c =
    let put : c.put_equation.new.out
    ≡ set_words c.tree-in-loop-e.new.self.out.now (c.args.list + 3 * c.loop-e.e)
    (equation_words c.last-left.result c.last-right.result c.place-emitter.result) =
    c.put_equation.ensures in
    search (rules, lists)
