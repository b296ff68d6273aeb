-- `source_check::check_source` meets its contract. Assumes nothing.
use mathlib.Core.Path.{◌∙◌, sym}
use Rattle.source_check.proofs.Answers.{room, is-short, is-over, is-unlisted, is-unnamed, is-equal, is-trees, few-names, few-nodes, long-lists}
use Rattle.source_check.proofs.check_source.Goals as goal

pub returns-then-size-lt-HEADER_BYTES : goal.returns-then-size-lt-HEADER_BYTES
returns-then-size-lt-HEADER_BYTES c = is-short c.args.s.now c.if-size-lt-HEADER_BYTES.true

pub returns-then-not-has_few : goal.returns-then-not-has_few
returns-then-not-has_few c = is-over c.args.s.now c.if-size-lt-HEADER_BYTES.false c.layout_of-l.ensures c.has_few.ensures c.if-not-has_few.true

pub returns-then-not-is_whole : goal.returns-then-not-is_whole
returns-then-not-is_whole c =
    is-unlisted c.args.s.now c.if-size-lt-HEADER_BYTES.false c.layout_of-l.ensures c.has_few.ensures c.if-not-has_few.false c.is_whole.ensures
    c.if-not-is_whole.true

pub names_fit-requires : goal.names_fit-requires
names_fit-requires c = (
  (room c.args.s.now _ c.layout_of-l.ensures (long-lists _ _ _ (sym c.is_whole.ensures ∙ c.if-not-is_whole.false))).names_in,
  (long-lists _ _ _ (sym c.is_whole.ensures ∙ c.if-not-is_whole.false)),
)

pub returns-then-not-names_fit : goal.returns-then-not-names_fit
returns-then-not-names_fit c =
    is-unnamed c.args.s.now c.if-size-lt-HEADER_BYTES.false c.layout_of-l.ensures c.has_few.ensures c.if-not-has_few.false c.is_whole.ensures
    c.if-not-is_whole.false c.names_fit.ensures c.if-not-names_fit.true

pub invariant_of-names : goal.invariant_of-names
invariant_of-names c = record {
  listed = (room c.args.s.now _ c.layout_of-l.ensures (long-lists _ _ _ (sym c.is_whole.ensures ∙ c.if-not-is_whole.false))).names_in;
  fit = sym c.names_fit.ensures ∙ c.if-not-names_fit.false;
  few = few-names c.layout_of-l.result (sym c.has_few.ensures ∙ c.if-not-has_few.false);
}

pub returns-then-not-differ : goal.returns-then-not-differ
returns-then-not-differ c =
    is-equal c.args.s.now c.if-size-lt-HEADER_BYTES.false c.layout_of-l.ensures c.has_few.ensures c.if-not-has_few.false c.is_whole.ensures
    c.if-not-is_whole.false c.names_fit.ensures c.if-not-names_fit.false
    c.differ.ensures c.if-not-differ.true

pub read_trees-requires : goal.read_trees-requires
read_trees-requires c = (
  c.layout_of-l.ensures,
  ((long-lists _ _ _ (sym c.is_whole.ensures ∙ c.if-not-is_whole.false)), few-nodes c.layout_of-l.result (sym c.has_few.ensures ∙ c.if-not-has_few.false)),
)

pub returns : goal.returns
returns c =
    is-trees c.args.s.now c.if-size-lt-HEADER_BYTES.false c.layout_of-l.ensures c.has_few.ensures c.if-not-has_few.false c.is_whole.ensures
    c.if-not-is_whole.false c.names_fit.ensures c.if-not-names_fit.false
    c.differ.ensures c.if-not-differ.false c.read_trees.ensures
