-- What number_module_variables answers, as a definition on the bytes: the next id, the id of each node at its index and of each public at its position,
-- 0 elsewhere. Its contract says this of every byte string (`outcome-exists` in proofs/Unique.antt), and nothing else (`outcome-unique`).
use Rattle.std.specs.Prelude.{List, [], ◌∷◌, ◌++◌, ℕ, eqb, get_or, Ok, Err}
use Rattle.source.specs.Trees.{Pat, Expr, unit, nil, sequence, product, cons, binary, negate, application, constant}
use Rattle.source.specs.Trees.{variable, function, intrinsic, letting, matching, Items, last, ◌then◌, Arms, no_arm, arm}
use Rattle.marks.specs.Indices.{rows, pick}
use Rattle.source.specs.Record.{Read, source_of, module_of}
use Rattle.numbering.specs.declared.Numbering.{Numbering}
use Rattle.numbering.specs.Numbering.{Numbered, numbered}
use Rattle.numbering.specs.Numbers.{numbered_module}
use Rattle.numbering.specs.Statements.{pattern_ids, parameter_ids}
use Rattle.numbering.specs.Walks.{no_entries, no_publics}
use Rattle.records.specs.SourceRecord.{NODES, PUBLICS}

-- all names of an expression, its patterns' first
unfoldable mutual
  pub expr_names : Expr → List ℕ
  expr_names unit = []
  expr_names nil = []
  expr_names (sequence is) = item_names is
  expr_names (product a b) = expr_names a ++ expr_names b
  expr_names (cons a b) = expr_names a ++ expr_names b
  expr_names (binary o a b) = expr_names a ++ expr_names b
  expr_names (negate a) = expr_names a
  expr_names (application a b) = expr_names a ++ expr_names b
  expr_names (constant n) = []
  expr_names (variable i) = i ∷ []
  expr_names (function ps b env) = parameter_ids ps ++ expr_names b
  expr_names (intrinsic w k ps env) = parameter_ids ps
  expr_names (letting p v b) = pattern_ids p ++ (expr_names v ++ expr_names b)
  expr_names (matching v arms) = expr_names v ++ arm_names arms

  pub item_names : Items → List ℕ
  item_names (last e) = expr_names e
  item_names (e then is) = expr_names e ++ item_names is

  pub arm_names : Arms → List ℕ
  arm_names no_arm = []
  arm_names (arm p e arms) = (pattern_ids p ++ expr_names e) ++ arm_names arms

unfoldable pub definition_names : List (Pat × Expr) → List ℕ
definition_names [] = []
definition_names (d ∷ ds) = (pattern_ids d.0 ++ expr_names d.1) ++ definition_names ds

unfoldable pub expression_names : List Expr → List ℕ
expression_names [] = []
expression_names (e ∷ es) = expr_names e ++ expression_names es

-- those of a module's definitions and expressions
unfoldable pub all_names : Numbered → List ℕ
all_names n = definition_names n.definitions ++ expression_names n.expressions

-- each node at its own index: with these for ids, the names of the module of a record say which node stands where
unfoldable pub indices : List ℕ
indices = rows NODES 0 (λ k. k)

unfoldable pub places : List ℕ → List ℕ
places b = all_names (numbered_module b indices [] 0)

-- what stands in the second list where x first stands in the other; 0 if nowhere
unfoldable pub beside : ℕ → List ℕ → List ℕ → ℕ
beside x [] is = 0
beside x (p ∷ ps) [] = 0
beside x (p ∷ ps) (i ∷ is) = pick (eqb x p) i (beside x ps is)

-- "Names then become ids": for each node the id that the numbered module has in its place
unfoldable pub ids_of : List ℕ → List ℕ
ids_of b = rows NODES 0 (λ j. beside j (places b) (all_names (numbered (module_of b))))

unfoldable pub public_ids_of : List ℕ → List ℕ
public_ids_of b = rows PUBLICS 0 (λ k. get_or (numbered (module_of b)).publics k 0)

-- the answer with its arrays; of a refused record these are clear
unfoldable pub numbering_for : List ℕ → Read → Numbering
numbering_for b (Read.module-of m) = record { answer = Ok (numbered m).next; ids = ids_of b; publics = public_ids_of b }
numbering_for b (Read.refused r) = record { answer = Err r; ids = no_entries; publics = no_publics }

unfoldable pub numbering_of : List ℕ → Numbering
numbering_of b = numbering_for b (source_of b)
