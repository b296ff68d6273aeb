-- number_module_variables: names become ids. A function for each of the Rust's, with a case for each arm of its `match`, in its order.
use Rattle.std.specs.Prelude.{Bool, true, false, cond, ◌&&◌, List, [], ◌∷◌, ◌++◌, ℕ, suc, eqb}
use Rattle.std.proofs.Math.Option.{Option, none, some}
use Rattle.source.specs.Trees.{Pat, unit_p, nil_p, as_p, product_p, cons_p, variable_p, constant_p, Expr, unit, nil, sequence}
use Rattle.source.specs.Trees.{product, cons, binary, negate, application, constant, variable, function, intrinsic}
use Rattle.source.specs.Trees.{letting, matching, Items, last, ◌then◌, empty, Arms, no_arm, arm, Module, Text}
use Rattle.records.specs.Intrinsics.{FIRST-FREE-ID, FOLD-ID, FRESH-ID, ITER-ID}

-- "Numbered module": the module with ids for names, and the next free id
pub record Numbered : Type 0 where
  pub next : ℕ
  pub publics : List ℕ
  pub definitions : List (Pat × Expr)
  pub expressions : List Expr

-- `locals` and `globals`: names (by their index) with their ids; the first entry counts
abbrev pub Ids : Type 0
Ids = List (ℕ × ℕ)

unfoldable pub found : ℕ → Ids → Option ℕ
found x [] = none
found x (e ∷ es) = cond (eqb x e.0) (some e.1) (found x es)

-- what numbering changes: the globals, and VarGen's next id. Ids cannot run out (32): a node or a public draws one at most (next-low in specs/Statements.antt)
pub record Names : Type 0 where
  pub globals : Ids
  pub next : ℕ

abbrev pub Naming : Type 0 → Type 0
Naming A = Names → A × Names

unfoldable pub ◌>>=◌ : {A B : Type 0} → Naming A → (A → Naming B) → Naming B
◌>>=◌ m f g = let (a, h) = m g in f a h

unfoldable pub return : {A : Type 0} → A → Naming A
return a g = (a, g)

unfoldable pub generate_id : Naming ℕ
generate_id g = (g.next, record { globals = g.globals; next = suc g.next })

-- a local, else a global, else a new global
unfoldable pub chosen : ℕ → Option ℕ → Option ℕ → Naming ℕ
chosen x (some i) global g = (i, g)
chosen x none (some i) g = (i, g)
chosen x none none g = (g.next, record { globals = (x, g.next) ∷ g.globals; next = suc g.next })

unfoldable pub number_variable : ℕ → Ids → Naming ℕ
number_variable x locals g = chosen x (found x locals) (found x g.globals) g

-- the numbered pattern, and the locals with its variables: each draws an id, that of an `as` after those of its pattern
unfoldable pub number_pattern_variables : Pat → Ids → Naming (Pat × Ids)
number_pattern_variables (as_p p x) locals = do
  (p', inner) ← number_pattern_variables p locals
  i ← generate_id
  return (as_p p' i, ((x, i) ∷ inner))
number_pattern_variables (product_p p q) locals = do
  (p', one) ← number_pattern_variables p locals
  (q', two) ← number_pattern_variables q one
  return (product_p p' q', two)
number_pattern_variables (cons_p p q) locals = do
  (p', one) ← number_pattern_variables p locals
  (q', two) ← number_pattern_variables q one
  return (cons_p p' q', two)
number_pattern_variables (variable_p x) locals = do
  i ← generate_id
  return (variable_p i, ((x, i) ∷ locals))
number_pattern_variables (constant_p n) locals = return (constant_p n, locals)
number_pattern_variables unit_p locals = return (unit_p, locals)
number_pattern_variables nil_p locals = return (nil_p, locals)

unfoldable pub number_parameters : List Pat → Ids → Naming (List Pat × Ids)
number_parameters [] locals = return ([], locals)
number_parameters (p ∷ ps) locals = do
  (p', one) ← number_pattern_variables p locals
  (ps', two) ← number_parameters ps one
  return ((p' ∷ ps'), two)

-- a let numbers its value before its pattern. The functions of a source module have no env yet, and intrinsics do not stand in one
unfoldable mutual
  pub number_expr_variables : Expr → Ids → Naming Expr
  number_expr_variables (sequence is) locals = do
    is' ← number_items is locals
    return (sequence is')
  number_expr_variables (intrinsic w k ps env) locals = do
    (ps', inner) ← number_parameters ps locals
    return (intrinsic w k ps' empty)
  number_expr_variables (binary o a b) locals = do
    a' ← number_expr_variables a locals
    b' ← number_expr_variables b locals
    return (binary o a' b')
  number_expr_variables (application a b) locals = do
    a' ← number_expr_variables a locals
    b' ← number_expr_variables b locals
    return (application a' b')
  number_expr_variables (product a b) locals = do
    a' ← number_expr_variables a locals
    b' ← number_expr_variables b locals
    return (product a' b')
  number_expr_variables (cons a b) locals = do
    a' ← number_expr_variables a locals
    b' ← number_expr_variables b locals
    return (cons a' b')
  number_expr_variables (negate a) locals = do
    a' ← number_expr_variables a locals
    return (negate a')
  number_expr_variables (constant n) locals = return (constant n)
  number_expr_variables unit locals = return unit
  number_expr_variables nil locals = return nil
  number_expr_variables (variable x) locals = do
    i ← number_variable x locals
    return (variable i)
  number_expr_variables (function ps b env) locals = do
    (ps', inner) ← number_parameters ps locals
    b' ← number_expr_variables b inner
    return (function ps' b' empty)
  number_expr_variables (letting p v b) locals = do
    v' ← number_expr_variables v locals
    (p', inner) ← number_pattern_variables p locals
    b' ← number_expr_variables b inner
    return (letting p' v' b')
  number_expr_variables (matching v arms) locals = do
    v' ← number_expr_variables v locals
    arms' ← number_arms arms locals
    return (matching v' arms')

  pub number_items : Items → Ids → Naming Items
  number_items (last e) locals = do
    e' ← number_expr_variables e locals
    return (last e')
  number_items (e then is) locals = do
    e' ← number_expr_variables e locals
    is' ← number_items is locals
    return (e' then is')

  pub number_arms : Arms → Ids → Naming Arms
  number_arms no_arm locals = return no_arm
  number_arms (arm p e arms) locals = do
    (p', inner) ← number_pattern_variables p locals
    e' ← number_expr_variables e inner
    arms' ← number_arms arms locals
    return (arm p' e' arms')

-- "Definitions number their value before their pattern"
unfoldable pub number_def_variables : Pat × Expr → Ids → Naming ((Pat × Expr) × Ids)
number_def_variables d locals = do
  v ← number_expr_variables d.1 locals
  (p, one) ← number_pattern_variables d.0 locals
  return ((p, v), one)

-- the three loops of number_module_variables
unfoldable pub number_publics : List ℕ → Naming (List ℕ)
number_publics [] = return []
number_publics (x ∷ xs) = do
  i ← number_variable x []
  is ← number_publics xs
  return (i ∷ is)

unfoldable pub number_definitions : List (Pat × Expr) → Ids → Naming (List (Pat × Expr) × Ids)
number_definitions [] locals = return ([], locals)
number_definitions (d ∷ ds) locals = do
  (d', one) ← number_def_variables d locals
  (ds', two) ← number_definitions ds one
  return ((d' ∷ ds'), two)

unfoldable pub number_expressions : List Expr → Ids → Naming (List Expr)
number_expressions [] locals = return []
number_expressions (e ∷ es) locals = do
  e' ← number_expr_variables e locals
  es' ← number_expressions es locals
  return (e' ∷ es')

-- publics come first, where there is no local yet: "A public name that is also defined means the input"
unfoldable pub number_module_variables : Module → Naming (List ℕ × List (Pat × Expr) × List Expr)
number_module_variables m = do
  ps ← number_publics m.publics
  (ds, locals) ← number_definitions m.definitions []
  es ← number_expressions m.expressions locals
  return (ps, ds, es)

-- "The names fresh, iter, fold are bound first, in that order; ids go to them as transform.rs registers them": fresh is 0 and its argument 1,
-- iter 2 (argument 3, a type 4), fold 5 (a type 6, argument 7, a type 8). A module names them or not
abbrev pub fresh_text : Text
fresh_text = 102 ∷ 114 ∷ 101 ∷ 115 ∷ 104 ∷ []

abbrev pub iter_text : Text
iter_text = 105 ∷ 116 ∷ 101 ∷ 114 ∷ []

abbrev pub fold_text : Text
fold_text = 102 ∷ 111 ∷ 108 ∷ 100 ∷ []

unfoldable pub same_text : Text → Text → Bool
same_text [] [] = true
same_text [] (d ∷ t) = false
same_text (c ∷ s) [] = false
same_text (c ∷ s) (d ∷ t) = eqb c d && same_text s t

-- the id i for the text t, whose name index is looked for from x on
unfoldable pub named : Text → ℕ → ℕ → List Text → Ids
named t i x [] = []
named t i x (n ∷ ns) = cond (same_text t n) ((x, i) ∷ []) (named t i (suc x) ns)

unfoldable pub registered : List Text → Names
registered ns = record { globals = named fold_text FOLD-ID 0 ns ++ (named iter_text ITER-ID 0 ns ++ named fresh_text FRESH-ID 0 ns); next = FIRST-FREE-ID }

-- what numbering leaves of the names, and the numbered module
unfoldable pub names_of : Module → Names
names_of m = (number_module_variables m (registered m.names)).1

unfoldable pub numbered : Module → Numbered
numbered m =
    let (ps, ds, es) = (number_module_variables m (registered m.names)).0 in
    record { next = (names_of m).next; publics = ps; definitions = ds; expressions = es }
