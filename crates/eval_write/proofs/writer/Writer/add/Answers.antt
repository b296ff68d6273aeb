-- `eval_write::writer::Writer::add` meets its contract: the words that are put are the node's. Assumes nothing.
use borrow.Author.Rules.{rules}
use Rattle.std.proofs.Common.{◌≡◌, ◌+◌, ◌*◌}
use Rattle.words.specs.Words.{set_words}
use Rattle.flat.specs.Layout.{node_words}
use Rattle.eval_write.specs.Written.{add_node}
use Rattle.eval_write.proofs.writer.Writer.add.Goals as goal

pub returns : goal.returns
unfolding add_node
returns c =
    let w = c.args.self.now in
    let put : c.put_node.new.out ≡ set_words w.out.now (w.at + 4 * w.nodes) (node_words c.args.kind c.args.a c.args.b c.args.c) = c.put_node.ensures in
    search rules
