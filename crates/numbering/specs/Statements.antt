-- What numbering promises of its module. Proved in proofs/Facts.antt.
use Rattle.std.specs.Prelude.{◌≡◌, false, List, [], ◌∷◌, ◌++◌, ℕ, ◌+◌, ◌<◌, ◌≤◌, length}
use Rattle.std.proofs.Math.Option.{some}
use Rattle.source.specs.Trees.{Pat, unit_p, nil_p, as_p, product_p, cons_p, variable_p, constant_p, Expr, unit, nil, sequence, product, cons, binary, negate}
use Rattle.source.specs.Trees.{application, constant, variable, function, intrinsic, letting, matching, Items, last, ◌then◌, Arms, no_arm, arm, Module}
use Rattle.numbering.specs.Numbering.{Numbered, numbered}
use Rattle.numbering.specs.Sizes.{module_size}
use Rattle.numbering.specs.Inputs.{member, inputs, input_ids, input_id}
use Rattle.records.specs.Intrinsics.{FIRST-FREE-ID}

-- the ids that patterns bind, in the order in which they are drawn
unfoldable pub pattern_ids : Pat → List ℕ
pattern_ids (as_p p i) = pattern_ids p ++ (i ∷ [])
pattern_ids (product_p p q) = pattern_ids p ++ pattern_ids q
pattern_ids (cons_p p q) = pattern_ids p ++ pattern_ids q
pattern_ids (variable_p i) = i ∷ []
pattern_ids (constant_p n) = []
pattern_ids unit_p = []
pattern_ids nil_p = []

unfoldable pub parameter_ids : List Pat → List ℕ
parameter_ids [] = []
parameter_ids (p ∷ ps) = pattern_ids p ++ parameter_ids ps

unfoldable mutual
  pub binders : Expr → List ℕ
  binders unit = []
  binders nil = []
  binders (sequence is) = item_binders is
  binders (product a b) = binders a ++ binders b
  binders (cons a b) = binders a ++ binders b
  binders (binary o a b) = binders a ++ binders b
  binders (negate a) = binders a
  binders (application a b) = binders a ++ binders b
  binders (constant n) = []
  binders (variable i) = []
  binders (function ps b env) = parameter_ids ps ++ binders b
  binders (intrinsic w k ps env) = parameter_ids ps
  binders (letting p v b) = binders v ++ (pattern_ids p ++ binders b)
  binders (matching v arms) = binders v ++ arm_binders arms

  pub item_binders : Items → List ℕ
  item_binders (last e) = binders e
  item_binders (e then is) = binders e ++ item_binders is

  pub arm_binders : Arms → List ℕ
  arm_binders no_arm = []
  arm_binders (arm p e arms) = pattern_ids p ++ (binders e ++ arm_binders arms)

unfoldable pub definition_binders : List (Pat × Expr) → List ℕ
definition_binders [] = []
definition_binders (d ∷ ds) = binders d.1 ++ (pattern_ids d.0 ++ definition_binders ds)

unfoldable pub expression_binders : List Expr → List ℕ
expression_binders [] = []
expression_binders (e ∷ es) = binders e ++ expression_binders es

unfoldable pub all_binders : Numbered → List ℕ
all_binders n = definition_binders n.definitions ++ expression_binders n.expressions

-- the ids that variables have
unfoldable mutual
  pub variables : Expr → List ℕ
  variables unit = []
  variables nil = []
  variables (sequence is) = item_variables is
  variables (product a b) = variables a ++ variables b
  variables (cons a b) = variables a ++ variables b
  variables (binary o a b) = variables a ++ variables b
  variables (negate a) = variables a
  variables (application a b) = variables a ++ variables b
  variables (constant n) = []
  variables (variable i) = i ∷ []
  variables (function ps b env) = variables b
  variables (intrinsic w k ps env) = []
  variables (letting p v b) = variables v ++ variables b
  variables (matching v arms) = variables v ++ arm_variables arms

  pub item_variables : Items → List ℕ
  item_variables (last e) = variables e
  item_variables (e then is) = variables e ++ item_variables is

  pub arm_variables : Arms → List ℕ
  arm_variables no_arm = []
  arm_variables (arm p e arms) = variables e ++ arm_variables arms

unfoldable pub definition_variables : List (Pat × Expr) → List ℕ
definition_variables [] = []
definition_variables (d ∷ ds) = variables d.1 ++ definition_variables ds

unfoldable pub expression_variables : List Expr → List ℕ
expression_variables [] = []
expression_variables (e ∷ es) = variables e ++ expression_variables es

unfoldable pub all_variables : Numbered → List ℕ
all_variables n = definition_variables n.definitions ++ expression_variables n.expressions

-- of every item; of each item and the one at its place in the other list, which is as long
abbrev pub All : (ℕ → Type 0) → List ℕ → Type 0
All Q [] = Unit {0}
All Q (i ∷ is) = Q i × All Q is

abbrev pub Pointwise : (ℕ → ℕ → Type 0) → List ℕ → List ℕ → Type 0
Pointwise R [] [] = Unit {0}
Pointwise R [] (i ∷ is) = ⊥
Pointwise R (x ∷ xs) [] = ⊥
Pointwise R (x ∷ xs) (i ∷ is) = R x i × Pointwise R xs is

-- no item twice
abbrev pub Distinct : List ℕ → Type 0
Distinct [] = Unit {0}
Distinct (i ∷ is) = (member i is ≡ false) × Distinct is

pub record WellNumbered (m : Module) : Type 0 where
  -- every id lies below the next id
  pub publics-below : All (λ i. i < (numbered m).next) (numbered m).publics
  pub binders-below : All (λ i. i < (numbered m).next) (all_binders (numbered m))
  pub variables-below : All (λ i. i < (numbered m).next) (all_variables (numbered m))
  -- each binder has an id of its own, which is no intrinsic's and no input's
  pub binders-distinct : Distinct (all_binders (numbered m))
  pub binders-above : All (λ i. FIRST-FREE-ID ≤ i) (all_binders (numbered m))
  pub no-binder : (x i : ℕ) → input_id m x ≡ some i → member i (all_binders (numbered m)) ≡ false
  -- a public or a node draws an id at most, and the intrinsics nine: ids cannot run out (32), for a record has at most 64 publics and 2,048 nodes
  pub next_low : (numbered m).next ≤ FIRST-FREE-ID + length m.publics + module_size m
  -- in each use of an input its name has its id, and another name has another
  pub inputs-numbered : Pointwise (λ x i. input_id m x ≡ some i) (inputs m) (input_ids (numbered m))
  pub publics-numbered : Pointwise (λ x i. input_id m x ≡ some i) m.publics (numbered m).publics
  pub ids-differ : (x y i : ℕ) → input_id m x ≡ some i → input_id m y ≡ some i → x ≡ y
