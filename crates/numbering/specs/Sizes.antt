-- The nodes of a module's trees: every TExpr and TPat once. Links and environments count 0.
use Rattle.std.specs.Prelude.{List, [], ◌∷◌, ℕ, suc, ◌+◌}
use Rattle.source.specs.Trees.{Pat, unit_p, nil_p, as_p, product_p, cons_p, variable_p, constant_p, Expr, unit, nil, sequence, product, cons, binary, negate}
use Rattle.source.specs.Trees.{application, constant, variable, function, intrinsic, letting, matching, Items, last, ◌then◌, Arms, no_arm, arm, Module}

unfoldable pub pat_size : Pat → ℕ
pat_size unit_p = 1
pat_size nil_p = 1
pat_size (as_p p i) = suc (pat_size p)
pat_size (product_p p q) = suc (pat_size p + pat_size q)
pat_size (cons_p p q) = suc (pat_size p + pat_size q)
pat_size (variable_p i) = 1
pat_size (constant_p n) = 1

unfoldable pub pat_sizes : List Pat → ℕ
pat_sizes [] = 0
pat_sizes (p ∷ ps) = pat_size p + pat_sizes ps

unfoldable mutual
  pub size : Expr → ℕ
  size unit = 1
  size nil = 1
  size (sequence is) = suc (items_size is)
  size (product a b) = suc (size a + size b)
  size (cons a b) = suc (size a + size b)
  size (binary o a b) = suc (size a + size b)
  size (negate a) = suc (size a)
  size (application a b) = suc (size a + size b)
  size (constant n) = 1
  size (variable i) = 1
  size (function ps b env) = suc (pat_sizes ps + size b)
  size (intrinsic w k ps env) = suc (pat_sizes ps)
  size (letting p v b) = suc (pat_size p + size v + size b)
  size (matching v arms) = suc (size v + arms_size arms)

  pub items_size : Items → ℕ
  items_size (last e) = size e
  items_size (e then is) = size e + items_size is

  pub arms_size : Arms → ℕ
  arms_size no_arm = 0
  arms_size (arm p e arms) = pat_size p + size e + arms_size arms

unfoldable pub definitions_size : List (Pat × Expr) → ℕ
definitions_size [] = 0
definitions_size (d ∷ ds) = pat_size d.0 + size d.1 + definitions_size ds

unfoldable pub expressions_size : List Expr → ℕ
expressions_size [] = 0
expressions_size (e ∷ es) = size e + expressions_size es

unfoldable pub module_size : Module → ℕ
module_size m = definitions_size m.definitions + expressions_size m.expressions
