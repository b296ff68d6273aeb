-- The numbered module of a source record with the bytes b, by an array that has an id for each node that names a variable, and an array with an id for each
-- public.
use Rattle.std.specs.Prelude.{ℕ, zero, suc, ◌≤◌, ◌≡◌, List, Bool, true, false, ◌||◌, length, get_or, eqb}
use Rattle.std.specs.Prelude.{Option, Some, None}
use Rattle.source.specs.declared.Node.{Node}
use Rattle.source.specs.declared.Form.{Form}
use Rattle.source.specs.declared.Shape.{Shape}
use Rattle.source.specs.Children.{Child}
use Rattle.source.specs.Trees.{Pat, Expr}
use Rattle.marks.specs.Indices.{rows}
use Rattle.source.specs.Layout.{publics, definitions, expressions, nodes}
use Rattle.source.specs.Layout.{definitions_offset, expressions_offset, nodes_offset, definition_entry, expression_root}
use Rattle.source.specs.Nodes.{entry_of, children_of}
use Rattle.source.specs.Record.{Tree, as_expression, grown, module_of}
use Rattle.numbering.specs.Numbering.{Numbered, numbered}

-- a node with the id i in place of its name: "Names then become ids"
unfoldable pub form_with : ℕ → Form → Form
form_with i Form.Unit = Form.Unit
form_with i Form.Nil = Form.Nil
form_with i (Form.Product x y) = Form.Product x y
form_with i (Form.Cons x y) = Form.Cons x y
form_with i (Form.Infix o x y) = Form.Infix o x y
form_with i (Form.Negate x) = Form.Negate x
form_with i (Form.Application x y) = Form.Application x y
form_with i (Form.Constant n) = Form.Constant n
form_with i (Form.Variable v) = Form.Variable i
form_with i (Form.Function l y) = Form.Function l y
form_with i (Form.Let p x y) = Form.Let p x y
form_with i (Form.Match x l) = Form.Match x l
form_with i (Form.Sequence l) = Form.Sequence l

unfoldable pub shape_with : ℕ → Shape → Shape
shape_with i Shape.Unit = Shape.Unit
shape_with i Shape.Nil = Shape.Nil
shape_with i (Shape.As p v) = Shape.As p i
shape_with i (Shape.Product p q) = Shape.Product p q
shape_with i (Shape.Cons p q) = Shape.Cons p q
shape_with i (Shape.Variable v) = Shape.Variable i
shape_with i (Shape.Constant n) = Shape.Constant n

unfoldable pub entry_with : ℕ → Option Node → Option Node
entry_with i (Some (Node.Expression f)) = Some (Node.Expression (form_with i f))
entry_with i (Some (Node.Pattern p)) = Some (Node.Pattern (shape_with i p))
entry_with i (Some (Node.Link item next result)) = Some (Node.Link item next result)
entry_with i None = None

-- whether a node has a name: a variable, a pattern variable, or an `as`
unfoldable pub is_name : Child → Bool
is_name Child.Nothing = false
is_name (Child.Name v) = true
is_name (Child.Expression x) = false
is_name (Child.Pattern x) = false
is_name (Child.Links h x) = false
is_name Child.Wrong = false

unfoldable pub bears : Option Node → Bool
bears e = is_name (children_of e).first || is_name (children_of e).second

-- what node k of the first n stands for, as `tree`, with the ids of the array
unfoldable pub numbered_tree : List ℕ → List ℕ → ℕ → ℕ → ℕ → Tree
numbered_tree ids b at zero k = as_expression Expr.unit
numbered_tree ids b at (suc n) k =
    elim (eqb k n) [ true ↦ grown (numbered_tree ids b at n) (entry_with (get_or ids n 0) (entry_of b at n)) | false ↦ numbered_tree ids b at n k ]

unfoldable pub numbered_definition : List ℕ → List ℕ → ℕ → ℕ → ℕ → ℕ → Pat × Expr
numbered_definition ids b at count list k = (
  (numbered_tree ids b at count (definition_entry b list k).pattern).pattern,
  (numbered_tree ids b at count (definition_entry b list k).value).expression,
)

unfoldable pub numbered_expression : List ℕ → List ℕ → ℕ → ℕ → ℕ → ℕ → Expr
numbered_expression ids b at count list k = (numbered_tree ids b at count (expression_root b list k)).expression

-- the module
unfoldable pub numbered_module : List ℕ → List ℕ → List ℕ → ℕ → Numbered
numbered_module b ids public next = record {
  next = next;
  publics = rows (publics b) 0 (λ k. get_or public k 0);
  definitions = rows (definitions b) 0 (numbered_definition ids b (nodes_offset b) (nodes b) (definitions_offset b));
  expressions = rows (expressions b) 0 (numbered_expression ids b (nodes_offset b) (nodes b) (expressions_offset b));
}

-- what numbering leaves in the arrays: the ids of the numbered module; every entry that is no id of it is as it was
pub record NumberedIn (b ids public : List ℕ) (next : ℕ) (ids' public' : List ℕ) : Type 0 where
  pub numbers : numbered (module_of b) ≡ numbered_module b ids' public' next
  pub ids-unnamed : (j : ℕ) → bears (entry_of b (nodes_offset b) j) ≡ false → get_or ids' j 0 ≡ get_or ids j 0
  pub ids-behind : (j : ℕ) → nodes b ≤ j → get_or ids' j 0 ≡ get_or ids j 0
  pub public-behind : (j : ℕ) → publics b ≤ j → get_or public' j 0 ≡ get_or public j 0
  pub ids-long : length ids' ≡ length ids
  pub public-long : length public' ≡ length public
