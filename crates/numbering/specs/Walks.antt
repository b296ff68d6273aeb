-- For the contracts of numbering's private functions: what its rows hold, how its undo list is unwound, and what a walk over a node leaves.
use Rattle.std.specs.Prelude.{ℕ, zero, suc, ◌+◌, ◌*◌, ◌-◌, ◌≤◌, ◌<◌, ◌≡◌, List, [], ◌∷◌, ◌++◌, Bool, true, false, length, get_or, set, take, replicate, eqb}
use Rattle.std.proofs.Math.Option.{Option, none, some}
use Rattle.source.specs.declared.Chain.{Chain}
use Rattle.std.specs.Prelude.{Option as Maybe, Some, None}
use Rattle.source.specs.declared.Node.{Node}
use Rattle.source.specs.Names.{name_of}
use Rattle.source.specs.Trees.{Pat, Expr}
use Rattle.marks.specs.Indices.{total, rows, same}
use Rattle.source.specs.Nodes.{entry_of, children_of, is_expression, chain_fits, nodes_fit}
use Rattle.source.specs.Uses.{chain_uses, children_use}
use Rattle.source.specs.Record.{tree, definition_at, expression_at}
use Rattle.source.specs.Layout.{public_at, definition_entry, expression_root}
use Rattle.numbering.specs.Numbering.{Ids, Names, Naming, ◌>>=◌, return, found, number_variable, number_pattern_variables}
use Rattle.numbering.specs.Numbering.{number_parameters, number_expr_variables, number_items, number_arms}
use Rattle.numbering.specs.Numbering.{number_def_variables, number_definitions, number_expressions, number_publics, named}
use Rattle.numbering.specs.Numbers.{bears, numbered_tree, numbered_definition, numbered_expression}
use Rattle.numbering.specs.declared.rows.Scopes.{Scopes}
use Rattle.numbering.specs.declared.rows.Undo.{Undo}
use Rattle.arrayvec.specs.ArrayVec.{array_vec_len}
use Rattle.records.specs.FlatRecord.{IDS}
use Rattle.records.specs.Intrinsics.{FIRST-FREE-ID}
use Rattle.records.specs.SourceRecord.{NAMES, NODES, PUBLICS}

-- ---- rows: for each name its id, if it has one

unfoldable pub coded : Option ℕ → Maybe ℕ
coded none = None
coded (some i) = Some i

abbrev pub Holds : List (Maybe ℕ) → Ids → Type 0
Holds row ids = (x : ℕ) → x < NAMES → get_or row x None ≡ coded (found x ids)

abbrev pub names : Ids → ℕ → Names
names g n = record { globals = g; next = n }

-- ---- the undo list: names, and what their rows held before; n entries from `base` on are undone from the last to the first
-- how many entries the undo list has
abbrev pub depth : Scopes → ℕ
depth s = array_vec_len s.undo

abbrev pub no_undo : Undo
no_undo = record { name = 0; before = None }

abbrev pub undone : List Undo → ℕ → Undo
undone undo i = get_or undo i no_undo

unfoldable pub unwound : List Undo → ℕ → ℕ → List (Maybe ℕ) → List (Maybe ℕ)
unwound undo base zero row = row
unwound undo base (suc n) row = unwound undo base n (set row (undone undo (base + n)).name (undone undo (base + n)).before)

-- two undo lists are the same below an index
abbrev pub SameBelow : ℕ → List Undo → List Undo → Type 0
SameBelow n s t = (i : ℕ) → i < n → undone t i ≡ undone s i

-- ---- the steps on rows

unfoldable pub no_row : List (Maybe ℕ)
no_row = replicate NAMES None

unfoldable pub no_entries : List ℕ
no_entries = replicate NODES 0

unfoldable pub no_publics : List ℕ
no_publics = replicate PUBLICS 0

-- no name has an id
abbrev pub no_scopes : Scopes
no_scopes = record { locals = no_row; globals = no_row; undo = record { items = [] }; ids = no_entries; next = FIRST-FREE-ID }

-- name x bound to the next id, at node k
abbrev pub bound_to : ℕ → ℕ → Scopes → Scopes
bound_to x k s = record {
  locals = set s.locals x (Some s.next);
  globals = s.globals;
  undo = record { items = s.undo.items ++ record { name = x; before = get_or s.locals x None } ∷ [] };
  ids = set s.ids k s.next;
  next = s.next + 1;
}

-- the entries from `base` on undone
abbrev pub unwound_to : ℕ → Scopes → Scopes
unwound_to base s = record {
  locals = unwound s.undo.items base (depth s - base) s.locals;
  globals = s.globals;
  undo = record { items = take base s.undo.items };
  ids = s.ids;
  next = s.next;
}

-- an array's length is part of its type, and not of its list
pub record Sized (s : Scopes) : Type 0 where
  pub rows : length s.locals ≡ NAMES
  pub nodes : length s.ids ≡ NODES

-- nothing but the globals, and the next id
pub record OnlyGlobals (s s' : Scopes) : Type 0 where
  pub same_locals : s'.locals ≡ s.locals
  pub same_undo : s'.undo ≡ s.undo
  pub same_ids : s'.ids ≡ s.ids

-- ---- the nodes of a node's tree

module _ (b : List ℕ) (at : ℕ) where
  -- the sum of `own` over the nodes of the tree of node k, of the first n: its own, and those of the nodes that it uses
  unfoldable pub summed : (ℕ → ℕ) → ℕ → ℕ → ℕ
  summed own zero k = 0
  summed own (suc n) k =
      elim (eqb k n) [ true ↦ own n + total n (λ c. children_use b at n (children_of (entry_of b at n)) c * summed own n c) | false ↦ summed own n k ]

  unfoldable pub weight : (ℕ → ℕ) → ℕ → ℕ
  weight own k = summed own (suc k) k

  -- over the chain from link l on, of the first n nodes
  unfoldable pub chain_weight : ℕ → (ℕ → ℕ) → Chain → ℕ → ℕ
  chain_weight n own h l = total n (λ c. chain_uses b at h (suc l) l c * weight own c)

-- how many nodes; how often node j
unfoldable pub each : ℕ → ℕ
each k = 1

-- ---- what a walk is asked

-- n nodes that fit, of a record with so many names
pub record Walkable (b : List ℕ) (at n : ℕ) : Type 0 where
  pub count : ℕ
  pub fit : nodes_fit b at count n ≡ true
  pub few-names : count ≤ NAMES
  pub few-nodes : n ≤ NODES

-- a walk over nodes whose weight is w: each is met once, and there is room for an undo entry and an id at each
pub record Room (w : (ℕ → ℕ) → ℕ) (next top : ℕ) : Type 0 where
  pub met-once : (j : ℕ) → w (same j) ≤ 1
  pub entries : top + w each ≤ NODES
  pub ids : next + w each ≤ IDS

-- at node k, of a sort; at the chain from link l on
pub record Ready (b : List ℕ) (at n : ℕ) (sort : Maybe Node → Bool) (k : ℕ) (s : Scopes) : Type 0 where
  pub walk : Walkable b at n
  pub below : k < n
  pub sorted : sort (entry_of b at k) ≡ true
  pub room : Room (λ own. weight b at own k) s.next (depth s)

-- at two nodes, the second an expression
pub record ReadyTwo (b : List ℕ) (at n : ℕ) (sort : Maybe Node → Bool) (x y : ℕ) (s : Scopes) : Type 0 where
  pub walk : Walkable b at n
  pub first_below : x < n
  pub second_below : y < n
  pub first-sorted : sort (entry_of b at x) ≡ true
  pub second-sorted : is_expression (entry_of b at y) ≡ true
  pub room : Room (λ own. weight b at own x + weight b at own y) s.next (depth s)

-- at the parameters from link l on, and a body
pub record ReadyFunction (b : List ℕ) (at n l y : ℕ) (s : Scopes) : Type 0 where
  pub walk : Walkable b at n
  pub first_below : l < n
  pub second_below : y < n
  pub chained : chain_fits b at Chain.Parameters (suc l) l ≡ true
  pub second-sorted : is_expression (entry_of b at y) ≡ true
  pub room : Room (λ own. chain_weight b at n own Chain.Parameters l + weight b at own y) s.next (depth s)

pub record ReadyChain (b : List ℕ) (at n : ℕ) (h : Chain) (l : ℕ) (s : Scopes) : Type 0 where
  pub walk : Walkable b at n
  pub below : l < n
  pub chained : chain_fits b at h (suc l) l ≡ true
  pub room : Room (λ own. chain_weight b at n own h l) s.next (depth s)

-- ---- what a walk leaves

-- an array has changed only at the nodes of the walk, and another agrees with it there
abbrev pub Else : ((ℕ → ℕ) → ℕ) → List ℕ → List ℕ → Type 0
Else w s t = (j : ℕ) → w (same j) ≡ 0 → get_or t j 0 ≡ get_or s j 0

abbrev pub Agree : ((ℕ → ℕ) → ℕ) → List ℕ → List ℕ → Type 0
Agree w s t = (j : ℕ) → 0 < w (same j) → get_or t j 0 ≡ get_or s j 0

-- `named` says which nodes have a name: no other node's id changes
-- what a walk has of patterns: `numbering` is the definition for what is walked over, `value` what it then stands for by an array of ids
pub record Bound {A : Type 0} (named : ℕ → Bool) (w : (ℕ → ℕ) → ℕ) (numbering : Ids → Naming (A × Ids)) (value : List ℕ → A) (s s' : Scopes) : Type 0 where
  pub more : s.next ≤ s'.next
  pub few : s'.next ≤ s.next + w each
  pub entries : depth s' ≡ depth s + (s'.next - s.next)
  pub same_globals : s'.globals ≡ s.globals
  pub undo-below : SameBelow (depth s) s.undo.items s'.undo.items
  pub undo-names : (i : ℕ) → depth s ≤ i → i < depth s' → (undone s'.undo.items i).name < NAMES
  pub unwinds : unwound s'.undo.items (depth s) (depth s' - depth s) s'.locals ≡ s.locals
  pub elsewhere : Else w s.ids s'.ids
  pub unnamed : (j : ℕ) → named j ≡ false → get_or s'.ids j 0 ≡ get_or s.ids j 0
  pub numbers : (l : Ids) (g : Names) (final : List ℕ) → Holds s.locals l → g.next ≡ s.next → Agree w s'.ids final
      → (l' : Ids) × ((numbering l g ≡ ((value final, l'), names g.globals s'.next)) × Holds s'.locals l')

-- what it leaves of expressions: the locals are as they were
pub record Walked {A : Type 0} (named : ℕ → Bool) (w : (ℕ → ℕ) → ℕ) (numbering : Ids → Naming A) (value : List ℕ → A) (s s' : Scopes) : Type 0 where
  pub more : s.next ≤ s'.next
  pub few : s'.next ≤ s.next + w each
  pub same_top : depth s' ≡ depth s
  pub same_locals : s'.locals ≡ s.locals
  pub undo-below : SameBelow (depth s) s.undo.items s'.undo.items
  pub elsewhere : Else w s.ids s'.ids
  pub unnamed : (j : ℕ) → named j ≡ false → get_or s'.ids j 0 ≡ get_or s.ids j 0
  pub numbers : (l : Ids) (g : Names) (final : List ℕ) → Holds s.locals l → Holds s.globals g.globals → g.next ≡ s.next → Agree w s'.ids final
      → (gs : Ids) × ((numbering l g ≡ (value final, names gs s'.next)) × Holds s'.globals gs)

-- what is left by the walk over a variable of no pattern
pub record Chosen (x : ℕ) (s : Scopes) (id : ℕ) (s' : Scopes) : Type 0 where
  pub more : s.next ≤ s'.next
  pub few : s'.next ≤ s.next + 1
  pub rest : OnlyGlobals s s'
  pub numbers : (l : Ids) (g : Names) → Holds s.locals l → Holds s.globals g.globals → g.next ≡ s.next
      → (gs : Ids) × ((number_variable x l g ≡ (id, names gs s'.next)) × Holds s'.globals gs)

-- ---- the walks, by the definitions

abbrev pub PatternWalk : List ℕ → ℕ → ℕ → ℕ → Scopes → Scopes → Type 0
PatternWalk b at n k =
    Bound (λ j. bears (entry_of b at j)) (λ own. weight b at own k) (number_pattern_variables (tree b at n k).pattern)
    (λ ids. (numbered_tree ids b at n k).pattern)

abbrev pub ParameterWalk : List ℕ → ℕ → ℕ → ℕ → Scopes → Scopes → Type 0
ParameterWalk b at n l =
    Bound (λ j. bears (entry_of b at j)) (λ own. chain_weight b at n own Chain.Parameters l) (number_parameters (tree b at n l).parameters)
    (λ ids. (numbered_tree ids b at n l).parameters)

abbrev pub ExpressionWalk : List ℕ → ℕ → ℕ → ℕ → Scopes → Scopes → Type 0
ExpressionWalk b at n k =
    Walked (λ j. bears (entry_of b at j)) (λ own. weight b at own k) (number_expr_variables (tree b at n k).expression)
    (λ ids. (numbered_tree ids b at n k).expression)

-- a pattern, and an expression in its scope
unfoldable pub number_scope : Pat → Expr → Ids → Naming (Pat × Expr)
number_scope p e locals = do
  (p', inner) ← number_pattern_variables p locals
  e' ← number_expr_variables e inner
  return (p', e')

abbrev pub ScopeWalk : List ℕ → ℕ → ℕ → ℕ → ℕ → Scopes → Scopes → Type 0
ScopeWalk b at n p y =
    Walked (λ j. bears (entry_of b at j)) (λ own. weight b at own p + weight b at own y) (number_scope (tree b at n p).pattern (tree b at n y).expression)
    (λ ids. ((numbered_tree ids b at n p).pattern, (numbered_tree ids b at n y).expression))

unfoldable pub number_function : List Pat → Expr → Ids → Naming (List Pat × Expr)
number_function ps e locals = do
  (ps', inner) ← number_parameters ps locals
  e' ← number_expr_variables e inner
  return (ps', e')

abbrev pub FunctionWalk : List ℕ → ℕ → ℕ → ℕ → ℕ → Scopes → Scopes → Type 0
FunctionWalk b at n l y =
    Walked (λ j. bears (entry_of b at j)) (λ own. chain_weight b at n own Chain.Parameters l + weight b at own y) (number_function (tree b at n l).parameters
    (tree b at n y).expression) (λ ids. ((numbered_tree ids b at n l).parameters, (numbered_tree ids b at n y).expression))

abbrev pub ItemWalk : List ℕ → ℕ → ℕ → ℕ → Scopes → Scopes → Type 0
ItemWalk b at n l =
    Walked (λ j. bears (entry_of b at j)) (λ own. chain_weight b at n own Chain.Items l) (number_items (tree b at n l).items)
    (λ ids. (numbered_tree ids b at n l).items)

abbrev pub ArmWalk : List ℕ → ℕ → ℕ → ℕ → Scopes → Scopes → Type 0
ArmWalk b at n l =
    Walked (λ j. bears (entry_of b at j)) (λ own. chain_weight b at n own Chain.Arms l) (number_arms (tree b at n l).arms)
    (λ ids. (numbered_tree ids b at n l).arms)

-- ---- the lists of a module

-- the sum of f over n indices from i on
unfoldable pub sum_from : ℕ → ℕ → (ℕ → ℕ) → ℕ
sum_from zero i f = 0
sum_from (suc n) i f = f i + sum_from n (suc i) f

abbrev pub definitions_weight : List ℕ → ℕ → ℕ → ℕ → ℕ → (ℕ → ℕ) → ℕ
definitions_weight b at list m i own =
    sum_from m i (λ k. weight b at own (definition_entry b list k).pattern + weight b at own (definition_entry b list k).value)

abbrev pub expressions_weight : List ℕ → ℕ → ℕ → ℕ → ℕ → (ℕ → ℕ) → ℕ
expressions_weight b at list m i own = sum_from m i (λ k. weight b at own (expression_root b list k))

-- what a walk over definitions leaves: their names are locals from then on
pub record Defined {A : Type 0} (named : ℕ → Bool) (w : (ℕ → ℕ) → ℕ) (numbering : Ids → Naming (A × Ids)) (value : List ℕ → A) (s s' : Scopes) : Type 0 where
  pub more : s.next ≤ s'.next
  pub few : s'.next ≤ s.next + w each
  pub same_top : depth s' ≡ depth s
  pub elsewhere : Else w s.ids s'.ids
  pub unnamed : (j : ℕ) → named j ≡ false → get_or s'.ids j 0 ≡ get_or s.ids j 0
  pub numbers : (l : Ids) (g : Names) (final : List ℕ) → Holds s.locals l → Holds s.globals g.globals → g.next ≡ s.next → Agree w s'.ids final
      → (l' : Ids) × ((gs : Ids) × ((numbering l g ≡ ((value final, l'), names gs s'.next)) × (Holds s'.locals l' × Holds s'.globals gs)))

-- definition (p, v)
abbrev pub DefinitionWalk : List ℕ → ℕ → ℕ → ℕ → ℕ → Scopes → Scopes → Type 0
DefinitionWalk b at n p v =
    Defined (λ j. bears (entry_of b at j)) (λ own. weight b at own p + weight b at own v)
    (number_def_variables ((tree b at n p).pattern, (tree b at n v).expression))
    (λ ids. ((numbered_tree ids b at n p).pattern, (numbered_tree ids b at n v).expression))

-- m definitions, m expressions from the i-th on
abbrev pub DefinitionsWalk : List ℕ → ℕ → ℕ → ℕ → ℕ → ℕ → Scopes → Scopes → Type 0
DefinitionsWalk b at n list m i =
    Defined (λ j. bears (entry_of b at j)) (definitions_weight b at list m i) (number_definitions (rows m i (definition_at b at n list)))
    (λ ids. rows m i (numbered_definition ids b at n list))

abbrev pub ExpressionsWalk : List ℕ → ℕ → ℕ → ℕ → ℕ → ℕ → Scopes → Scopes → Type 0
ExpressionsWalk b at n list m i =
    Walked (λ j. bears (entry_of b at j)) (expressions_weight b at list m i) (number_expressions (rows m i (expression_at b at n list)))
    (λ ids. rows m i (numbered_expression ids b at n list))

pub record ReadyDefinitions (b : List ℕ) (at n list m i next top : ℕ) : Type 0 where
  pub walk : Walkable b at n
  pub room : Room (definitions_weight b at list m i) next top

pub record ReadyExpressions (b : List ℕ) (at n list m i next top : ℕ) : Type 0 where
  pub walk : Walkable b at n
  pub room : Room (expressions_weight b at list m i) next top

-- what the walk over m publics from the i-th on leaves: an id for each, at its position
pub record Published (b : List ℕ) (list m i : ℕ) (s : Scopes) (public : List ℕ) (s' : Scopes) (public' : List ℕ) : Type 0 where
  pub more : s.next ≤ s'.next
  pub few : s'.next ≤ s.next + m
  pub rest : OnlyGlobals s s'
  pub before : (j : ℕ) → j < i → get_or public' j 0 ≡ get_or public j 0
  pub behind : (j : ℕ) → i + m ≤ j → get_or public' j 0 ≡ get_or public j 0
  pub numbers : (g : Names) → Holds s.locals [] → Holds s.globals g.globals → g.next ≡ s.next →
      (gs : Ids) × ((number_publics (rows m i (public_at b list)) g ≡ (rows m i (λ k. get_or public' k 0), names gs s'.next)) × Holds s'.globals gs)

-- a text registered: its name has the id, before what the row held
pub record Registered (b t : List ℕ) (text count id : ℕ) (s s' : Scopes) : Type 0 where
  pub rest : OnlyGlobals s s'
  pub same_next : s'.next ≡ s.next
  pub holds : (gs : Ids) → Holds s.globals gs → Holds s'.globals (named t id 0 (rows count 0 (name_of b text)) ++ gs)
