-- A module with every kind of node, and with constants beyond 32 bits, written and read back by computation. Assumes nothing.
use mathlib.Core.Path.{◌≡◌, refl}
use mathlib.Core.List.{[], ◌∷◌}
use lib.IntN.{pos, negsuc}
use Rattle.words.specs.Words.{integer, low_word, high_word, word_at, bytes_of}
use Rattle.field.specs.declared.InfixOp.{InfixOp}
use Rattle.source.specs.Trees.{Pat, Expr, Items, Arms, Env, Module}
use Rattle.marks.specs.Indices.{every, total, rows, pick, same}
use Rattle.source.specs.Layout.{counted, listed}
use Rattle.source.specs.Names.{offset_of, length_of, end_of, printed, name_fits, names_fit, same_bytes, same_name, name_new, names_differ, name_of}
use Rattle.source.specs.Nodes.{operator_of, infix_for, entry_for, entry_of, is_expression, is_pattern, expression_fits, pattern_fits, item_fits}
use Rattle.source.specs.Nodes.{result_fits, link_fits, chain_fits, child_fits, children_fit, nodes_fit, definitions_fit, expressions_fit, publics_fit}
use Rattle.source.specs.Uses.{result_uses, link_uses, chain_uses, child_uses, children_use, by_nodes, by_definitions, by_expressions}
use Rattle.source.specs.Record.{Read, expression_of, pattern_of, link_of, grown, tree, definition_at}
use Rattle.source.specs.Record.{expression_at, module_of, shaped, used_once, unless, source_of}
use Rattle.source.specs.Encoding.{root_of, link_to, pat_count, pats_count, expr_count, pat_nodes, pats_nodes}
use Rattle.source.specs.Encoding.{expr_nodes, definitions_count, definitions_nodes, definitions_words, expressions_count}
use Rattle.source.specs.Encoding.{expressions_nodes, expressions_words, pair_words, joined, record_words, record_of}

-- it has the least signed 64-bit number
abbrev wide : Pat
wide = Pat.as_p (Pat.product_p (Pat.variable_p 0) (Pat.constant_p (negsuc 9223372036854775807))) 1

abbrev sample : Module
sample = record {
  names = (97 ∷ []) ∷ (98 ∷ 99 ∷ []) ∷ [];
  publics = 1 ∷ 1 ∷ [];
  definitions = (
    wide,
    Expr.function (Pat.variable_p 0 ∷ Pat.unit_p ∷ []) (Expr.variable 0) Env.empty,
  )
      ∷ (Pat.cons_p Pat.unit_p Pat.nil_p, Expr.nil) ∷ [];
  expressions =
      Expr.binary InfixOp.Equal
      (Expr.matching (Expr.variable 1) (Arms.arm Pat.nil_p Expr.unit (Arms.arm (Pat.variable_p 1) (Expr.constant (negsuc 0)) Arms.no_arm)))
      (Expr.sequence (Items.◌then◌ Expr.unit (Items.last (Expr.negate (Expr.constant (pos 4294967301))))))
      ∷ Expr.letting (Pat.variable_p 0) (Expr.cons Expr.unit Expr.nil) (Expr.application (Expr.variable 0) (Expr.product Expr.unit Expr.unit)) ∷ [];
}

pub sample-read-back : source_of (record_of sample) ≡ Read.module-of sample
unfolding word_at bytes_of every total rows pick counted listed offset_of length_of end_of printed name_fits names_fit same_bytes same_name name_new
    names_differ name_of operator_of infix_for entry_for entry_of is_expression is_pattern expression_fits pattern_fits item_fits result_fits link_fits
    chain_fits child_fits children_fit nodes_fit definitions_fit expressions_fit publics_fit same result_uses link_uses chain_uses child_uses children_use
    by_nodes by_definitions by_expressions expression_of pattern_of link_of grown tree definition_at expression_at module_of shaped used_once unless
    source_of root_of link_to pat_count pats_count expr_count pat_nodes pats_nodes expr_nodes definitions_count definitions_nodes definitions_words
    expressions_count expressions_nodes expressions_words pair_words joined record_words record_of integer low_word high_word
sample-read-back = refl
