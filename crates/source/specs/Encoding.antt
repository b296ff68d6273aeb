-- A module as a record, for a desk that writes one: nodes stand children first, each used once, a chain's links from the last to the first.
-- That the record of a module which fits is read back as that module: `read_back` in proofs/Read_back.antt.
use Rattle.std.specs.Prelude.{ℕ, zero, suc, ◌+◌, ◌-◌, ◌≤◌, ◌<◌, ◌≡◌, List, [], ◌∷◌, ◌++◌, length}
use Rattle.std.proofs.Common.{SFits}
use Rattle.std.specs.Int.{w64}
use Rattle.words.specs.Words.{low_word, high_word, bytes_of}
use Rattle.field.specs.Operators.{operator_number}
use Rattle.source.specs.Trees.{Pat, Expr, Items, Arms, Env, Text, Module}
use Rattle.records.specs.Kinds.{APPLICATION, AS-PATTERN, CONS, CONS-PATTERN, CONSTANT, CONSTANT-PATTERN, FUNCTION, INFIX, LET, LINK, MATCH}
use Rattle.records.specs.Kinds.{NEGATE, NIL, NIL-PATTERN, PRODUCT, PRODUCT-PATTERN, SEQUENCE, UNIT, UNIT-PATTERN, VARIABLE, VARIABLE-PATTERN}
use Rattle.records.specs.SourceRecord.{DEFINITIONS, EXPRESSIONS, NAME-BYTES, NAMES, NO-LINK, NODES, PUBLICS}
use Rattle.source.specs.Names.{FIRST-BYTE, LAST-BYTE}

-- ---- nodes

abbrev pub node : ℕ → ℕ → ℕ → ℕ → List ℕ
node kind a b c = kind ∷ a ∷ b ∷ c ∷ []

-- of n nodes from index s on, the last is a tree's root, or a chain's first link, if there is one
unfoldable pub root_of : ℕ → ℕ → ℕ
root_of s n = s + n - 1

unfoldable pub link_to : ℕ → ℕ → ℕ
link_to s zero = NO-LINK
link_to s (suc n) = s + n

-- how many nodes a tree has, with its links
unfoldable pub pat_count : Pat → ℕ
pat_count Pat.unit_p = 1
pat_count Pat.nil_p = 1
pat_count (Pat.as_p p v) = pat_count p + 1
pat_count (Pat.product_p p q) = pat_count p + pat_count q + 1
pat_count (Pat.cons_p p q) = pat_count p + pat_count q + 1
pat_count (Pat.variable_p v) = 1
pat_count (Pat.constant_p z) = 1

unfoldable pub pats_count : List Pat → ℕ
pats_count [] = 0
pats_count (p ∷ ps) = pats_count ps + pat_count p + 1

unfoldable mutual
  pub expr_count : Expr → ℕ
  expr_count Expr.unit = 1
  expr_count Expr.nil = 1
  expr_count (Expr.sequence is) = items_count is + 1
  expr_count (Expr.product x y) = expr_count x + expr_count y + 1
  expr_count (Expr.cons x y) = expr_count x + expr_count y + 1
  expr_count (Expr.binary o x y) = expr_count x + expr_count y + 1
  expr_count (Expr.negate x) = expr_count x + 1
  expr_count (Expr.application x y) = expr_count x + expr_count y + 1
  expr_count (Expr.constant z) = 1
  expr_count (Expr.variable v) = 1
  expr_count (Expr.function ps x env) = pats_count ps + expr_count x + 1
  expr_count (Expr.intrinsic w n ps env) = 0
  expr_count (Expr.letting p x y) = pat_count p + expr_count x + expr_count y + 1
  expr_count (Expr.matching x rs) = expr_count x + arms_count rs + 1

  pub items_count : Items → ℕ
  items_count (Items.last x) = expr_count x + 1
  items_count (Items.◌then◌ x is) = items_count is + expr_count x + 1

  pub arms_count : Arms → ℕ
  arms_count Arms.no_arm = 0
  arms_count (Arms.arm p x rs) = arms_count rs + pat_count p + expr_count x + 1

-- the nodes of a tree, or of a chain, from index s on. No node has an environment or an intrinsic
unfoldable pub pat_nodes : ℕ → Pat → List ℕ
pat_nodes s Pat.unit_p = node UNIT-PATTERN 0 0 0
pat_nodes s Pat.nil_p = node NIL-PATTERN 0 0 0
pat_nodes s (Pat.as_p p v) = pat_nodes s p ++ node AS-PATTERN (root_of s (pat_count p)) v 0
pat_nodes s (Pat.product_p p q) =
    pat_nodes s p ++ (pat_nodes (s + pat_count p) q ++ node PRODUCT-PATTERN (root_of s (pat_count p)) (root_of (s + pat_count p) (pat_count q)) 0)
pat_nodes s (Pat.cons_p p q) =
    pat_nodes s p ++ (pat_nodes (s + pat_count p) q ++ node CONS-PATTERN (root_of s (pat_count p)) (root_of (s + pat_count p) (pat_count q)) 0)
pat_nodes s (Pat.variable_p v) = node VARIABLE-PATTERN v 0 0
pat_nodes s (Pat.constant_p z) = node CONSTANT-PATTERN (low_word z) (high_word z) 0

unfoldable pub pats_nodes : ℕ → List Pat → List ℕ
pats_nodes s [] = []
pats_nodes s (p ∷ ps) =
    pats_nodes s ps ++ (pat_nodes (s + pats_count ps) p ++ node LINK (root_of (s + pats_count ps) (pat_count p)) (link_to s (pats_count ps)) 0)

-- two expressions and a node over them
abbrev pub pair_of : ℕ → ℕ → ℕ → ℕ → ℕ → List ℕ
pair_of kind s m n c = node kind (root_of s m) (root_of (s + m) n) c

unfoldable mutual
  pub expr_nodes : ℕ → Expr → List ℕ
  expr_nodes s Expr.unit = node UNIT 0 0 0
  expr_nodes s Expr.nil = node NIL 0 0 0
  expr_nodes s (Expr.sequence is) = items_nodes s is ++ node SEQUENCE (root_of s (items_count is)) 0 0
  expr_nodes s (Expr.product x y) = expr_nodes s x ++ (expr_nodes (s + expr_count x) y ++ pair_of PRODUCT s (expr_count x) (expr_count y) 0)
  expr_nodes s (Expr.cons x y) = expr_nodes s x ++ (expr_nodes (s + expr_count x) y ++ pair_of CONS s (expr_count x) (expr_count y) 0)
  expr_nodes s (Expr.binary o x y) = expr_nodes s x ++ (expr_nodes (s + expr_count x) y ++ pair_of INFIX s (expr_count x) (expr_count y) (operator_number o))
  expr_nodes s (Expr.negate x) = expr_nodes s x ++ node NEGATE (root_of s (expr_count x)) 0 0
  expr_nodes s (Expr.application x y) = expr_nodes s x ++ (expr_nodes (s + expr_count x) y ++ pair_of APPLICATION s (expr_count x) (expr_count y) 0)
  expr_nodes s (Expr.constant z) = node CONSTANT (low_word z) (high_word z) 0
  expr_nodes s (Expr.variable v) = node VARIABLE v 0 0
  expr_nodes s (Expr.function ps x env) = pats_nodes s ps ++ (expr_nodes (s + pats_count ps) x ++ pair_of FUNCTION s (pats_count ps) (expr_count x) 0)
  expr_nodes s (Expr.intrinsic w n ps env) = []
  expr_nodes s (Expr.letting p x y) =
      pat_nodes s p
      ++ (expr_nodes (s + pat_count p) x
      ++ (expr_nodes (s + pat_count p + expr_count x) y
      ++ node LET (root_of s (pat_count p)) (root_of (s + pat_count p) (expr_count x)) (root_of (s + pat_count p + expr_count x) (expr_count y))))
  expr_nodes s (Expr.matching x rs) = expr_nodes s x ++ (arms_nodes (s + expr_count x) rs ++ pair_of MATCH s (expr_count x) (arms_count rs) 0)

  pub items_nodes : ℕ → Items → List ℕ
  items_nodes s (Items.last x) = expr_nodes s x ++ node LINK (root_of s (expr_count x)) NO-LINK 0
  items_nodes s (Items.◌then◌ x is) =
      items_nodes s is ++ (expr_nodes (s + items_count is) x ++ node LINK (root_of (s + items_count is) (expr_count x)) (link_to s (items_count is)) 0)

  pub arms_nodes : ℕ → Arms → List ℕ
  arms_nodes s Arms.no_arm = []
  arms_nodes s (Arms.arm p x rs) =
      arms_nodes s rs
      ++ (pat_nodes (s + arms_count rs) p
      ++ (expr_nodes (s + arms_count rs + pat_count p) x
      ++ node LINK (root_of (s + arms_count rs) (pat_count p)) (link_to s (arms_count rs)) (root_of (s + arms_count rs + pat_count p) (expr_count x))))

-- ---- lists

-- the definitions' nodes from index s on, then the expressions'; and the words that name their roots
unfoldable pub definitions_count : List (Pat × Expr) → ℕ
definitions_count [] = 0
definitions_count (d ∷ ds) = pat_count d.0 + expr_count d.1 + definitions_count ds

unfoldable pub definitions_nodes : ℕ → List (Pat × Expr) → List ℕ
definitions_nodes s [] = []
definitions_nodes s (d ∷ ds) = pat_nodes s d.0 ++ (expr_nodes (s + pat_count d.0) d.1 ++ definitions_nodes (s + pat_count d.0 + expr_count d.1) ds)

unfoldable pub definitions_words : ℕ → List (Pat × Expr) → List ℕ
definitions_words s [] = []
definitions_words s (d ∷ ds) =
    root_of s (pat_count d.0) ∷ root_of (s + pat_count d.0) (expr_count d.1) ∷ definitions_words (s + pat_count d.0 + expr_count d.1) ds

unfoldable pub expressions_count : List Expr → ℕ
expressions_count [] = 0
expressions_count (x ∷ xs) = expr_count x + expressions_count xs

unfoldable pub expressions_nodes : ℕ → List Expr → List ℕ
expressions_nodes s [] = []
expressions_nodes s (x ∷ xs) = expr_nodes s x ++ expressions_nodes (s + expr_count x) xs

unfoldable pub expressions_words : ℕ → List Expr → List ℕ
expressions_words s [] = []
expressions_words s (x ∷ xs) = root_of s (expr_count x) ∷ expressions_words (s + expr_count x) xs

-- the names' pairs, where the first starts at `from`, and their text
unfoldable pub pair_words : ℕ → List Text → List ℕ
pair_words from [] = []
pair_words from (t ∷ ts) = from ∷ length t ∷ pair_words (from + length t) ts

unfoldable pub joined : List Text → List ℕ
joined [] = []
joined (t ∷ ts) = t ++ joined ts

-- ---- the record

unfoldable pub record_words : Module → List ℕ
record_words m =
    let d = definitions_count m.definitions in
    (length m.names ∷ length m.publics ∷ length m.definitions ∷ length m.expressions ∷ (d + expressions_count m.expressions) ∷ [])
    ++ (pair_words 0 m.names
    ++ (m.publics
    ++ (definitions_words 0 m.definitions
    ++ (expressions_words d m.expressions
    ++ (definitions_nodes 0 m.definitions
    ++ expressions_nodes d m.expressions)))))

unfoldable pub record_of : Module → List ℕ
record_of m = bytes_of (record_words m) ++ joined m.names

-- ---- the modules that have a record

abbrev pub All : {A : Type 0} → (A → Type 0) → List A → Type 0
All Q [] = Unit {0}
All Q (a ∷ rest) = Q a × All Q rest

-- trees over n names: constants of 64 bits, at least one parameter, arm and item, no environments, no intrinsics
abbrev pub PatFits : ℕ → Pat → Type 0
PatFits n Pat.unit_p = Unit {0}
PatFits n Pat.nil_p = Unit {0}
PatFits n (Pat.as_p p v) = PatFits n p × (v < n)
PatFits n (Pat.product_p p q) = PatFits n p × PatFits n q
PatFits n (Pat.cons_p p q) = PatFits n p × PatFits n q
PatFits n (Pat.variable_p v) = v < n
PatFits n (Pat.constant_p z) = SFits w64 z

abbrev mutual
  pub ExprFits : ℕ → Expr → Type 0
  ExprFits n Expr.unit = Unit {0}
  ExprFits n Expr.nil = Unit {0}
  ExprFits n (Expr.sequence is) = ItemsFit n is
  ExprFits n (Expr.product x y) = ExprFits n x × ExprFits n y
  ExprFits n (Expr.cons x y) = ExprFits n x × ExprFits n y
  ExprFits n (Expr.binary o x y) = ExprFits n x × ExprFits n y
  ExprFits n (Expr.negate x) = ExprFits n x
  ExprFits n (Expr.application x y) = ExprFits n x × ExprFits n y
  ExprFits n (Expr.constant z) = SFits w64 z
  ExprFits n (Expr.variable v) = v < n
  ExprFits n (Expr.function ps x env) = ((1 ≤ length ps) × All (PatFits n) ps) × (ExprFits n x × (env ≡ Env.empty))
  ExprFits n (Expr.intrinsic w k ps env) = ⊥
  ExprFits n (Expr.letting p x y) = PatFits n p × (ExprFits n x × ExprFits n y)
  ExprFits n (Expr.matching x rs) = ExprFits n x × ((1 ≤ arms_count rs) × ArmsFit n rs)

  pub ItemsFit : ℕ → Items → Type 0
  ItemsFit n (Items.last x) = ExprFits n x
  ItemsFit n (Items.◌then◌ x is) = ExprFits n x × ItemsFit n is

  pub ArmsFit : ℕ → Arms → Type 0
  ArmsFit n Arms.no_arm = Unit {0}
  ArmsFit n (Arms.arm p x rs) = PatFits n p × (ExprFits n x × ArmsFit n rs)

abbrev pub TextFits : Text → Type 0
TextFits t = ((1 ≤ length t) × (length t ≤ NAME-BYTES)) × All (λ c. (FIRST-BYTE ≤ c) × (c ≤ LAST-BYTE)) t

abbrev pub Different : List Text → Type 0
Different [] = Unit {0}
Different (t ∷ ts) = All (λ u. t ≡ u → ⊥) ts × Different ts

pub record Writable (m : Module) : Type 0 where
  pub names-few : length m.names ≤ NAMES
  pub publics-few : length m.publics ≤ PUBLICS
  pub definitions-few : length m.definitions ≤ DEFINITIONS
  pub expressions-few : length m.expressions ≤ EXPRESSIONS
  pub nodes-few : definitions_count m.definitions + expressions_count m.expressions ≤ NODES
  pub names-fit : All TextFits m.names
  pub names-differ : Different m.names
  pub publics-fit : All (λ v. v < length m.names) m.publics
  pub definitions-fit : All (λ d. PatFits (length m.names) d.0 × ExprFits (length m.names) d.1) m.definitions
  pub expressions-fit : All (ExprFits (length m.names)) m.expressions
