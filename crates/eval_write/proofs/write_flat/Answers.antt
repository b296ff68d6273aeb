-- `eval_write::write_flat` meets its contract: the header that is put is the record's. Assumes nothing.
use borrow.Author.Rules.{rules}
use Rattle.std.proofs.Common.{◌≡◌, length}
use Rattle.words.specs.Words.{set_words}
use Rattle.flat.specs.Layout.{header_words, layout_by}
use Rattle.eval_write.specs.Written.{write_flat, write_ids}
use Rattle.eval_write.proofs.write_flat.Goals as goal

pub returns : goal.returns
unfolding write_flat write_ids layout_by
returns c =
    let s = c.args.memory.now.state in
    let header : c.put_header.new.out
    ≡ set_words c.args.out.now 0 (header_words s.next (length c.args.publics.now) s.provers s.definitions s.equations s.nodes) = c.put_header.ensures in
    search rules
