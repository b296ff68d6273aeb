-- The inputs of a module, said without numbering; and what numbering promises, in proofs/Facts.antt.
use Rattle.std.specs.Prelude.{Bool, false, cond, ◌||◌, List, [], ◌∷◌, ◌++◌, ℕ, eqb}
use Rattle.std.proofs.Math.Option.{Option}
use Rattle.source.specs.Trees.{Pat, unit_p, nil_p, as_p, product_p, cons_p, variable_p, constant_p, Expr, unit, nil, sequence, product, cons, binary, negate}
use Rattle.source.specs.Trees.{application, constant, variable, function, intrinsic, letting, matching, Items, last, ◌then◌, Arms, no_arm, arm, Module}
use Rattle.numbering.specs.Numbering.{Numbered, found, names_of}

unfoldable pub member : ℕ → List ℕ → Bool
member x [] = false
member x (y ∷ ys) = eqb x y || member x ys

-- what is bound in the body of a pattern: its variables, and what is bound around it
unfoldable pub binding : Pat → List ℕ → List ℕ
binding (as_p p x) Γ = x ∷ binding p Γ
binding (product_p p q) Γ = binding q (binding p Γ)
binding (cons_p p q) Γ = binding q (binding p Γ)
binding (variable_p x) Γ = x ∷ Γ
binding (constant_p n) Γ = Γ
binding unit_p Γ = Γ
binding nil_p Γ = Γ

unfoldable pub bindings : List Pat → List ℕ → List ℕ
bindings [] Γ = Γ
bindings (p ∷ ps) Γ = bindings ps (binding p Γ)

-- the free variables of an expression, each as often as it is used: "outside the body of any let that binds them; a let's own value lies
-- outside its body". Likewise a function's parameters bind in its body, the pattern of an arm in its result
unfoldable mutual
  pub free_variables : List ℕ → Expr → List ℕ
  free_variables Γ unit = []
  free_variables Γ nil = []
  free_variables Γ (sequence is) = free_in_items Γ is
  free_variables Γ (product a b) = free_variables Γ a ++ free_variables Γ b
  free_variables Γ (cons a b) = free_variables Γ a ++ free_variables Γ b
  free_variables Γ (binary o a b) = free_variables Γ a ++ free_variables Γ b
  free_variables Γ (negate a) = free_variables Γ a
  free_variables Γ (application a b) = free_variables Γ a ++ free_variables Γ b
  free_variables Γ (constant n) = []
  free_variables Γ (variable x) = cond (member x Γ) [] (x ∷ [])
  free_variables Γ (function ps b env) = free_variables (bindings ps Γ) b
  free_variables Γ (intrinsic w k ps env) = []
  free_variables Γ (letting p v b) = free_variables Γ v ++ free_variables (binding p Γ) b
  free_variables Γ (matching v arms) = free_variables Γ v ++ free_in_arms Γ arms

  pub free_in_items : List ℕ → Items → List ℕ
  free_in_items Γ (last e) = free_variables Γ e
  free_in_items Γ (e then is) = free_variables Γ e ++ free_in_items Γ is

  pub free_in_arms : List ℕ → Arms → List ℕ
  free_in_arms Γ no_arm = []
  free_in_arms Γ (arm p e arms) = free_variables (binding p Γ) e ++ free_in_arms Γ arms

-- "without an earlier definition"
unfoldable pub free_in_definitions : List ℕ → List (Pat × Expr) → List ℕ
free_in_definitions Γ [] = []
free_in_definitions Γ (d ∷ ds) = free_variables Γ d.1 ++ free_in_definitions (binding d.0 Γ) ds

unfoldable pub defining : List (Pat × Expr) → List ℕ → List ℕ
defining [] Γ = Γ
defining (d ∷ ds) Γ = defining ds (binding d.0 Γ)

unfoldable pub free_in_expressions : List ℕ → List Expr → List ℕ
free_in_expressions Γ [] = []
free_in_expressions Γ (e ∷ es) = free_variables Γ e ++ free_in_expressions Γ es

-- the inputs of a module by name, and those of its numbered module by id: the same uses, in the same order.
-- (In a module that names fresh, iter or fold these are among them)
unfoldable pub free_in_module : List (Pat × Expr) → List Expr → List ℕ
free_in_module ds es = free_in_definitions [] ds ++ free_in_expressions (defining ds []) es

unfoldable pub inputs : Module → List ℕ
inputs m = free_in_module m.definitions m.expressions

unfoldable pub input_ids : Numbered → List ℕ
input_ids n = free_in_module n.definitions n.expressions

-- "An input's id is the one numbering gives its name in those uses": i, where x has it
unfoldable pub input_id : Module → ℕ → Option ℕ
input_id m x = found x (names_of m).globals
