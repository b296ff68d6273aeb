-- What a source record is: its module, or the first of the refusals 1 to 6. For a reader with docs/RECORDS.md, "Source record" and "Refusals",
-- beside it.
use Rattle.std.specs.Prelude.{ℕ, zero, suc, ◌+◌, List, [], ◌∷◌, Bool, true, false, ◌&&◌, length, leb, eqb}
use Rattle.std.specs.Prelude.{Option, Some, None}
use Rattle.source.specs.declared.Node.{Node}
use Rattle.source.specs.declared.Form.{Form}
use Rattle.source.specs.declared.Shape.{Shape}
use Rattle.source.specs.Trees.{Pat, Expr, Items, Arms, Env, Module}
use Rattle.marks.specs.Indices.{every, rows}
use Rattle.source.specs.Layout.{names, publics, definitions, expressions, nodes}
use Rattle.source.specs.Layout.{publics_offset, definitions_offset, expressions_offset, nodes_offset, text_offset}
use Rattle.source.specs.Layout.{public_at, definition_entry, expression_root, counted, listed}
use Rattle.source.specs.Names.{names_fit, names_differ, name_of}
use Rattle.source.specs.Nodes.{entry_of, nodes_fit, publics_fit, definitions_fit, expressions_fit}
use Rattle.source.specs.Uses.{by_nodes, by_definitions, by_expressions}
use Rattle.records.specs.declared.refusals.Refusal.{Refusal}
use Rattle.records.specs.SourceRecord.{NO-LINK}

-- ---- trees

-- what a node stands for: an expression, a pattern, or, of a link, the parameters, the arms or the items from it on. Only what its sort and its owner say is
-- ever asked of it
pub record Tree : Type 0 where
  pub expression : Expr
  pub pattern : Pat
  pub parameters : List Pat
  pub arms : Arms
  pub items : Items

abbrev pub as_expression : Expr → Tree
as_expression e = record { expression = e; pattern = Pat.unit_p; parameters = []; arms = Arms.no_arm; items = Items.last Expr.unit }

abbrev pub as_pattern : Pat → Tree
as_pattern p = record { expression = Expr.unit; pattern = p; parameters = []; arms = Arms.no_arm; items = Items.last Expr.unit }

-- where `below` gives what the nodes before it stand for
module _ (below : ℕ → Tree) where
  unfoldable pub expression_of : Form → Expr
  expression_of Form.Unit = Expr.unit
  expression_of Form.Nil = Expr.nil
  expression_of (Form.Product x y) = Expr.product (below x).expression (below y).expression
  expression_of (Form.Cons x y) = Expr.cons (below x).expression (below y).expression
  expression_of (Form.Infix o x y) = Expr.binary o (below x).expression (below y).expression
  expression_of (Form.Negate x) = Expr.negate (below x).expression
  expression_of (Form.Application x y) = Expr.application (below x).expression (below y).expression
  expression_of (Form.Constant n) = Expr.constant n
  expression_of (Form.Variable v) = Expr.variable v
  expression_of (Form.Function l y) = Expr.function (below l).parameters (below y).expression Env.empty
  expression_of (Form.Let p x y) = Expr.letting (below p).pattern (below x).expression (below y).expression
  expression_of (Form.Match x l) = Expr.matching (below x).expression (below l).arms
  expression_of (Form.Sequence l) = Expr.sequence (below l).items

  unfoldable pub pattern_of : Shape → Pat
  pattern_of Shape.Unit = Pat.unit_p
  pattern_of Shape.Nil = Pat.nil_p
  pattern_of (Shape.As p v) = Pat.as_p (below p).pattern v
  pattern_of (Shape.Product p q) = Pat.product_p (below p).pattern (below q).pattern
  pattern_of (Shape.Cons p q) = Pat.cons_p (below p).pattern (below q).pattern
  pattern_of (Shape.Variable v) = Pat.variable_p v
  pattern_of (Shape.Constant n) = Pat.constant_p n

  unfoldable pub link_of : ℕ → ℕ → ℕ → Tree
  link_of item next result =
      let i = below item in
      let e = below result in
      let rest = below next in
      let ends = eqb next NO-LINK in
      record {
        expression = Expr.unit;
        pattern = Pat.unit_p;
        parameters = i.pattern ∷ elim ends [ true ↦ [] | false ↦ rest.parameters ];
        arms = Arms.arm i.pattern e.expression (elim ends [ true ↦ Arms.no_arm | false ↦ rest.arms ]);
        items = elim ends [ true ↦ Items.last i.expression | false ↦ Items.◌then◌ i.expression rest.items ];
      }

  unfoldable pub grown : Option Node → Tree
  grown (Some (Node.Expression f)) = as_expression (expression_of f)
  grown (Some (Node.Pattern p)) = as_pattern (pattern_of p)
  grown (Some (Node.Link item next result)) = link_of item next result
  grown None = as_expression Expr.unit

-- node k of the first n, by falling index: "A child stands before its parent"
unfoldable pub tree : List ℕ → ℕ → ℕ → ℕ → Tree
tree b at zero k = as_expression Expr.unit
tree b at (suc n) k = elim (eqb k n) [ true ↦ grown (tree b at n) (entry_of b at n) | false ↦ tree b at n k ]

-- node k, which no later node changes
abbrev pub node_tree : List ℕ → ℕ → ℕ → Tree
node_tree b at k = tree b at (k + 1) k

-- ---- the module

unfoldable pub definition_at : List ℕ → ℕ → ℕ → ℕ → ℕ → Pat × Expr
definition_at b at count list k =
    ((tree b at count (definition_entry b list k).pattern).pattern, (tree b at count (definition_entry b list k).value).expression)

unfoldable pub expression_at : List ℕ → ℕ → ℕ → ℕ → ℕ → Expr
expression_at b at count list k = (tree b at count (expression_root b list k)).expression

unfoldable pub module_of : List ℕ → Module
module_of b = record {
  names = rows (names b) 0 (name_of b (text_offset b));
  publics = rows (publics b) 0 (public_at b (publics_offset b));
  definitions = rows (definitions b) 0 (definition_at b (nodes_offset b) (nodes b) (definitions_offset b));
  expressions = rows (expressions b) 0 (expression_at b (nodes_offset b) (nodes b) (expressions_offset b));
}

-- ---- the refusals

-- not 5, Entry: "nodes by index, then publics, definitions, expressions"
unfoldable pub shaped : List ℕ → Bool
shaped b =
    nodes_fit b (nodes_offset b) (names b) (nodes b)
    && (publics_fit b (names b) (publics_offset b) (publics b)
    && (definitions_fit b (nodes_offset b) (nodes b) (definitions_offset b) (definitions b)
    && expressions_fit b (nodes_offset b) (nodes b) (expressions_offset b) (expressions b)))

-- not 6, Uses: "every node is used exactly once"
unfoldable pub used_once : List ℕ → Bool
used_once b =
    every (nodes b) (λ k.
    eqb (by_nodes b (nodes_offset b) (nodes b) k
    + (by_definitions b (definitions_offset b) (definitions b) k + by_expressions b (expressions_offset b) (expressions b) k)) 1)

pub data Read : Type 0 where
  module-of : Module → Read
  refused : Refusal → Read

-- the refusal where a test fails, else what follows
unfoldable pub unless : Bool → Refusal → Read → Read
unless true n r = r
unless false n r = Read.refused n

-- in the order of the table
unfoldable pub source_of : List ℕ → Read
source_of b =
    unless (leb 20 (length b)) Refusal.Length
    (unless (counted b) Refusal.Count
    (unless (listed b) Refusal.Length
    (unless (names_fit b (text_offset b) (names b)) Refusal.Name
    (unless (names_differ b (text_offset b) (names b)) Refusal.EqualNames
    (unless (shaped b) Refusal.Entry
    (unless (used_once b) Refusal.Uses
    (Read.module-of (module_of b))))))))
