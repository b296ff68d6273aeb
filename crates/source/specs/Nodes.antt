-- The nodes of a record with the bytes b, whose nodes start at word `at`: what each says, what its children are, and what 5 says of them.
-- 5 is one number for all its rules, so their order says nothing.
use Rattle.std.specs.Prelude.{ℕ, zero, suc, List, [], ◌∷◌, Bool, true, false, ◌&&◌, ◌||◌, leb, ltb, eqb}
use Rattle.words.specs.Words.{integer}
unfoldable pub use Rattle.field.specs.Operators.{operator_of}
use Rattle.std.specs.Prelude.{Option, Some, None}
use Rattle.source.specs.declared.Node.{Node}
use Rattle.source.specs.declared.Form.{Form}
use Rattle.source.specs.declared.Shape.{Shape}
use Rattle.source.specs.declared.Chain.{Chain}
use Rattle.source.specs.Children.{Child, Children}
use Rattle.marks.specs.Indices.{every, pick}
use Rattle.source.specs.Layout.{public_at, definition_entry, expression_root, node_entry}
use Rattle.records.specs.Kinds.{APPLICATION, AS-PATTERN, CONS, CONS-PATTERN, CONSTANT, CONSTANT-PATTERN, FUNCTION, INFIX, LET, LINK, MATCH}
use Rattle.records.specs.Kinds.{NEGATE, NIL, NIL-PATTERN, PRODUCT, PRODUCT-PATTERN, SEQUENCE, UNIT, UNIT-PATTERN, VARIABLE, VARIABLE-PATTERN}
use Rattle.records.specs.SourceRecord.{NO-LINK}

-- ---- what a node says

-- "Unused words are 0"
abbrev pub unused : ℕ → Option Node → Option Node
unused w e = pick (eqb w 0) e None

-- "Unused words are 0", of several
abbrev pub all_unused : List ℕ → Option Node → Option Node
all_unused [] e = e
all_unused (w ∷ ws) e = unused w (all_unused ws e)

unfoldable pub infix_for : ℕ → ℕ → ℕ → Option Node
infix_for c x y = pick (leb c 8) (Some (Node.Expression (Form.Infix (operator_of c) x y))) None

-- a node's kind and its words a, b, c: "bad kind, operator .. or unused word" is no node
unfoldable pub entry_for : ℕ → ℕ → ℕ → ℕ → Option Node
entry_for kind x y z =
    pick (eqb kind UNIT) (unused x (unused y (unused z (Some (Node.Expression Form.Unit)))))
    (pick (eqb kind NIL) (unused x (unused y (unused z (Some (Node.Expression Form.Nil)))))
    (pick (eqb kind PRODUCT) (unused z (Some (Node.Expression (Form.Product x y))))
    (pick (eqb kind CONS) (unused z (Some (Node.Expression (Form.Cons x y))))
    (pick (eqb kind INFIX) (infix_for z x y)
    (pick (eqb kind NEGATE) (unused y (unused z (Some (Node.Expression (Form.Negate x)))))
    (pick (eqb kind APPLICATION) (unused z (Some (Node.Expression (Form.Application x y))))
    (pick (eqb kind CONSTANT) (unused z (Some (Node.Expression (Form.Constant (integer x y)))))
    (pick (eqb kind VARIABLE) (unused y (unused z (Some (Node.Expression (Form.Variable x)))))
    (pick (eqb kind FUNCTION) (unused z (Some (Node.Expression (Form.Function x y))))
    (pick (eqb kind LET) (Some (Node.Expression (Form.Let x y z)))
    (pick (eqb kind MATCH) (unused z (Some (Node.Expression (Form.Match x y))))
    (pick (eqb kind SEQUENCE) (unused y (unused z (Some (Node.Expression (Form.Sequence x)))))
    (pick (eqb kind LINK) (Some (Node.Link x y z))
    (pick (eqb kind UNIT-PATTERN) (unused x (unused y (unused z (Some (Node.Pattern Shape.Unit)))))
    (pick (eqb kind NIL-PATTERN) (unused x (unused y (unused z (Some (Node.Pattern Shape.Nil)))))
    (pick (eqb kind AS-PATTERN) (unused z (Some (Node.Pattern (Shape.As x y))))
    (pick (eqb kind PRODUCT-PATTERN) (unused z (Some (Node.Pattern (Shape.Product x y))))
    (pick (eqb kind CONS-PATTERN) (unused z (Some (Node.Pattern (Shape.Cons x y))))
    (pick (eqb kind VARIABLE-PATTERN) (unused y (unused z (Some (Node.Pattern (Shape.Variable x)))))
    (pick (eqb kind CONSTANT-PATTERN) (unused z (Some (Node.Pattern (Shape.Constant (integer x y)))))
    None))))))))))))))))))))

-- node k
unfoldable pub entry_of : List ℕ → ℕ → ℕ → Option Node
entry_of b at k = let n = node_entry b at k in entry_for n.kind n.a n.b n.c

-- ---- what a node asks of its words

abbrev pub three : Child → Child → Child → Children
three x y z = record { first = x; second = y; third = z }

abbrev pub form_children : Form → Children
form_children Form.Unit = three Child.Nothing Child.Nothing Child.Nothing
form_children Form.Nil = three Child.Nothing Child.Nothing Child.Nothing
form_children (Form.Product x y) = three (Child.Expression x) (Child.Expression y) Child.Nothing
form_children (Form.Cons x y) = three (Child.Expression x) (Child.Expression y) Child.Nothing
form_children (Form.Infix o x y) = three (Child.Expression x) (Child.Expression y) Child.Nothing
form_children (Form.Negate x) = three (Child.Expression x) Child.Nothing Child.Nothing
form_children (Form.Application x y) = three (Child.Expression x) (Child.Expression y) Child.Nothing
form_children (Form.Constant n) = three Child.Nothing Child.Nothing Child.Nothing
form_children (Form.Variable v) = three (Child.Name v) Child.Nothing Child.Nothing
form_children (Form.Function l y) = three (Child.Links Chain.Parameters l) (Child.Expression y) Child.Nothing
form_children (Form.Let p x y) = three (Child.Pattern p) (Child.Expression x) (Child.Expression y)
form_children (Form.Match x l) = three (Child.Expression x) (Child.Links Chain.Arms l) Child.Nothing
form_children (Form.Sequence l) = three (Child.Links Chain.Items l) Child.Nothing Child.Nothing

abbrev pub shape_children : Shape → Children
shape_children Shape.Unit = three Child.Nothing Child.Nothing Child.Nothing
shape_children Shape.Nil = three Child.Nothing Child.Nothing Child.Nothing
shape_children (Shape.As p v) = three (Child.Pattern p) (Child.Name v) Child.Nothing
shape_children (Shape.Product p q) = three (Child.Pattern p) (Child.Pattern q) Child.Nothing
shape_children (Shape.Cons p q) = three (Child.Pattern p) (Child.Pattern q) Child.Nothing
shape_children (Shape.Variable v) = three (Child.Name v) Child.Nothing Child.Nothing
shape_children (Shape.Constant n) = three Child.Nothing Child.Nothing Child.Nothing

-- "A chain of links is judged at its function, match or sequence": a link by itself asks nothing
abbrev pub children_of : Option Node → Children
children_of (Some (Node.Expression f)) = form_children f
children_of (Some (Node.Pattern p)) = shape_children p
children_of (Some (Node.Link item next result)) = three Child.Nothing Child.Nothing Child.Nothing
children_of None = three Child.Wrong Child.Nothing Child.Nothing

-- ---- not 5, Entry

unfoldable pub is_expression : Option Node → Bool
is_expression (Some (Node.Expression f)) = true
is_expression (Some (Node.Pattern p)) = false
is_expression (Some (Node.Link item next result)) = false
is_expression None = false

unfoldable pub is_pattern : Option Node → Bool
is_pattern (Some (Node.Expression f)) = false
is_pattern (Some (Node.Pattern p)) = true
is_pattern (Some (Node.Link item next result)) = false
is_pattern None = false

module _ (b : List ℕ) (at : ℕ) where
  -- x is an expression (a pattern) that stands before k: "A child stands before its parent"
  unfoldable pub expression_fits : ℕ → ℕ → Bool
  expression_fits k x = ltb x k && is_expression (entry_of b at x)

  unfoldable pub pattern_fits : ℕ → ℕ → Bool
  pattern_fits k x = ltb x k && is_pattern (entry_of b at x)

  -- the item of link k: parameters and arms have patterns, sequences expressions
  unfoldable pub item_fits : Chain → ℕ → ℕ → Bool
  item_fits Chain.Parameters k x = pattern_fits k x
  item_fits Chain.Arms k x = pattern_fits k x
  item_fits Chain.Items k x = expression_fits k x

  -- its arm result: an expression in a match, else an unused word
  unfoldable pub result_fits : Chain → ℕ → ℕ → Bool
  result_fits Chain.Parameters k x = eqb x 0
  result_fits Chain.Arms k x = expression_fits k x
  result_fits Chain.Items k x = eqb x 0

  -- link k, where `rest` says of a link before k whether the chain from it on fits: "link (item a, next link b or 4,294,967,295, arm result c)"
  unfoldable pub link_fits : Chain → (ℕ → Bool) → ℕ → Option Node → Bool
  link_fits h rest k (Some (Node.Expression f)) = false
  link_fits h rest k (Some (Node.Pattern p)) = false
  link_fits h rest k (Some (Node.Link item next result)) = item_fits h k item && (result_fits h k result && (eqb next NO-LINK || rest next))
  link_fits h rest k None = false

  -- x is a link that stands before n, and so is each next link, before the one that names it: by the falling index of the link
  unfoldable pub chain_fits : Chain → ℕ → ℕ → Bool
  chain_fits h zero x = false
  chain_fits h (suc n) x = elim (eqb x n) [ true ↦ link_fits h (chain_fits h n) n (entry_of b at n) | false ↦ chain_fits h n x ]

  -- what node k asks of one of its words, in a record with so many names
  unfoldable pub child_fits : ℕ → ℕ → Child → Bool
  child_fits names k Child.Nothing = true
  child_fits names k (Child.Name v) = ltb v names
  child_fits names k (Child.Expression x) = expression_fits k x
  child_fits names k (Child.Pattern x) = pattern_fits k x
  child_fits names k (Child.Links h x) = chain_fits h k x
  child_fits names k Child.Wrong = false

  unfoldable pub children_fit : ℕ → ℕ → Children → Bool
  children_fit names k c = child_fits names k c.first && (child_fits names k c.second && child_fits names k c.third)

  -- the first n nodes
  unfoldable pub nodes_fit : ℕ → ℕ → Bool
  nodes_fit names n = every n (λ k. children_fit names k (children_of (entry_of b at k)))

  -- n definitions, n expressions from word `list` on: pairs of a pattern and an expression, and expressions, of the first `nodes` nodes
  unfoldable pub definitions_fit : ℕ → ℕ → ℕ → Bool
  definitions_fit nodes list n =
      every n (λ k. pattern_fits nodes (definition_entry b list k).pattern && expression_fits nodes (definition_entry b list k).value)

  unfoldable pub expressions_fit : ℕ → ℕ → ℕ → Bool
  expressions_fit nodes list n = every n (λ k. expression_fits nodes (expression_root b list k))

-- n public name indices from word `list` on
unfoldable pub publics_fit : List ℕ → ℕ → ℕ → ℕ → Bool
publics_fit b names list n = every n (λ k. ltb (public_at b list k) names)
