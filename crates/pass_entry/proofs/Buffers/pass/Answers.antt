-- `pass_entry::Buffers::pass` meets its contract. Assumes nothing.
use borrow.Author.Rules.{rules}
use Rattle.pass_classify.proofs.Whole.{classified-of}
use Rattle.pass_entry.proofs.Buffers.pass.Goals as goal

pub invariant_of-classes : goal.invariant_of-classes
invariant_of-classes c = record { classified = classified-of c.new-record.result.readable c.classify_defs.ensures.0 c.classify_defs.ensures.1 }

pub run_passes-requires : goal.run_passes-requires
run_passes-requires c = record { few = rw c.new-record.ensures c.requires.1; body_len = search rules }

pub returns : goal.returns
returns c =
    let q = rw c.new-record.ensures at c.run_passes.ensures in
    record { value = q.value; body_after = q.body_after; list_after = q.list_after }
