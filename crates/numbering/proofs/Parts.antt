-- The names of what nodes stand for: those of a numbered tree are the ids at its places, and a tree of its shape that has these names is it. Assumes nothing.
use Prim.Native.Nat.{ℕ, zero, suc, ◌+◌, ◌≤◌, ◌<◌}
use mathlib.Core.Path.{◌≡◌, refl, sym, ap, ap₂, ◌∙◌}
use mathlib.Core.List.{List, [], ◌∷◌, ◌++◌, map}
use mathlib.Core.Bool.{Bool, true, false}
use native.Mathlib.Omega.{arith}
use lib.Dec.{eqb}
use lib.ListN.{length, get_or, length-append, length-map}
use Rattle.std.specs.Prelude.{Option, Some, None}
use Rattle.source.specs.declared.Node.{Node}
use Rattle.source.specs.declared.Form.{Form}
use Rattle.source.specs.declared.Shape.{Shape}
use Rattle.source.specs.Trees.{Pat, Expr, Items, Arms, Env}
use Rattle.marks.specs.Indices.{rows}
use Rattle.source.specs.Nodes.{entry_of}
use Rattle.source.specs.Record.{Tree, tree, as_expression, as_pattern, expression_of, pattern_of, link_of, grown}
use Rattle.numbering.specs.Numbering.{Ids, Names, ◌>>=◌, return, generate_id, number_pattern_variables}
use Rattle.numbering.specs.Numbering.{number_parameters, number_variable, number_expr_variables, number_items, number_arms}
use Rattle.numbering.specs.Numbers.{form_with, shape_with, entry_with, is_name, bears, numbered_tree}
use Rattle.numbering.specs.Statements.{All, pattern_ids, parameter_ids}
use Rattle.numbering.specs.Places.{expr_names, item_names, arm_names, indices}
use Rattle.numbering.proofs.Lists.{all_append}

-- ---- lists

pub map-append : (f : ℕ → ℕ) (xs ys : List ℕ) → map f (xs ++ ys) ≡ map f xs ++ map f ys
map-append f [] ys = refl
map-append f (x ∷ xs) ys = ap (λ (l : List ℕ). f x ∷ l) (map-append f xs ys)

-- two appended lists that are the same, the first parts as long as each other
pub split-append : (xs us ys vs : List ℕ) → length xs ≡ length us → xs ++ ys ≡ us ++ vs → (xs ≡ us) × (ys ≡ vs)
split-append [] [] ys vs l e = (refl, e)
split-append [] (u ∷ us) ys vs l e = absurd (omega arith)
split-append (x ∷ xs) [] ys vs l e = absurd (omega arith)
split-append (x ∷ xs) (u ∷ us) ys vs l e =
    let p : x ≡ u = cc in
    let q : xs ++ ys ≡ us ++ vs = cc in
    let r = split-append xs us ys vs (omega arith) q in
    (ap₂ (λ (h : ℕ) (t : List ℕ). h ∷ t) p r.0, r.1)

rows-get_d : (f : ℕ → ℕ) (n i k : ℕ) → k < n → get_or (rows n i f) k 0 ≡ f (i + k)
unfolding rows
rows-get_d f zero i k l = absurd (omega arith)
rows-get_d f (suc n) i zero l = let z : i ≡ i + 0 = omega arith in ap f z
rows-get_d f (suc n) i (suc k) l = rows-get_d f n (suc i) k (omega arith) ∙ (let z : suc i + k ≡ i + suc k = omega arith in ap f z)

pub table_at : (n : ℕ) (f : ℕ → ℕ) (k : ℕ) → k < n → get_or (rows n 0 f) k 0 ≡ f k
table_at n f k l = rows-get_d f n 0 k l ∙ (let z : 0 + k ≡ k = omega arith in ap f z)

pub index_at : (k : ℕ) → k < 2048 → get_or indices k 0 ≡ k
unfolding indices
index_at k l = table_at 2048 (λ j. j) k l

-- the ids of an array at some nodes
abbrev pub ids_at : List ℕ → List ℕ → List ℕ
ids_at ids js = map (λ j. get_or ids j 0) js

-- ---- what is numbered, by an array of ids: `own` says which nodes have a name

module _ (own : ℕ → Type 0) where
  pub record Part {A : Type 0} (names : A → List ℕ) (num : List ℕ → A) : Type 0 where
    pub labelled : (ids : List ℕ) → names (num ids) ≡ ids_at ids (names (num indices))
    pub bearing : All own (names (num indices))

-- a thing of its shape
pub record Shaped {A : Type 0} (names : A → List ℕ) (num : List ℕ → A) (a : A) : Type 0 where
  pub long : length (names a) ≡ length (names (num indices))
  pub same : (ids : List ℕ) → names a ≡ ids_at ids (names (num indices)) → a ≡ num ids

abbrev pub single : ℕ → List ℕ
single i = i ∷ []

module _ (own : ℕ → Type 0) where
  -- without names
  pub part_none : {A : Type 0} (names : A → List ℕ) (a : A) → names a ≡ [] → Part own names (λ _. a)
  part_none names a e = record { labelled = λ ids. rw e; bearing = rw e tt }

  -- a node's own name
  pub part-name : (k : ℕ) → k < 2048 → own k → Part own single (λ ids. get_or ids k 0)
  part-name k l o = record { labelled = λ ids. rw (index_at k l); bearing = rw (index_at k l) (o, tt) }

  module _ {A B : Type 0} (na : A → List ℕ) (nb : B → List ℕ) where
    pub part-one : (make : A → B) → ((a : A) → nb (make a) ≡ na a) → {f : List ℕ → A} → Part own na f → Part own nb (λ ids. make (f ids))
    part-one make is p = record { labelled = λ ids. is _ ∙ p.labelled ids ∙ ap (ids_at ids) (sym (is _)); bearing = rw (is _) p.bearing }

    module _ {C : Type 0} (nc : C → List ℕ) (make : A → B → C) (is : (a : A) (b : B) → nc (make a b) ≡ na a ++ nb b) where
      pub part-two : {f : List ℕ → A} {g : List ℕ → B} → Part own na f → Part own nb g → Part own nc (λ ids. make (f ids) (g ids))
      part-two {f} {g} p q = record {
        labelled = λ ids.
            is (f ids) (g ids)
            ∙ ap₂ (λ (x y : List ℕ). x ++ y) (p.labelled ids) (q.labelled ids)
            ∙ sym (map-append _ (na (f indices)) (nb (g indices)))
            ∙ ap (ids_at ids) (sym (is (f indices) (g indices)));
        bearing = rw (is (f indices) (g indices)) (all_append own (na (f indices)) (nb (g indices)) p.bearing q.bearing);
      }

pub shaped-none : {A : Type 0} (names : A → List ℕ) (a : A) → Shaped names (λ _. a) a
shaped-none names a = record { long = refl; same = λ ids e. refl }

pub shaped-name : (k : ℕ) → k < 2048 → (i : ℕ) → Shaped single (λ ids. get_or ids k 0) i
shaped-name k l i = record { long = refl; same = λ ids e. let q : i ∷ [] ≡ get_or ids k 0 ∷ [] = rw (index_at k l) at e in cc }

module _ {A B : Type 0} (na : A → List ℕ) (nb : B → List ℕ) where
  pub shaped-one : (make : A → B) → ((a : A) → nb (make a) ≡ na a) → {f : List ℕ → A} {a : A} → Shaped na f a → Shaped nb (λ ids. make (f ids)) (make a)
  shaped-one make is s = record {
    long = ap length (is _) ∙ s.long ∙ ap length (sym (is _));
    same = λ ids e. ap make (s.same ids (sym (is _) ∙ e ∙ ap (ids_at ids) (is _)));
  }

  module _ {C : Type 0} (nc : C → List ℕ) (make : A → B → C) (is : (a : A) (b : B) → nc (make a b) ≡ na a ++ nb b) where
    pub shaped-two : {f : List ℕ → A} {g : List ℕ → B} {a : A} {b : B} → Shaped na f a → Shaped nb g b → Shaped nc (λ ids. make (f ids) (g ids)) (make a b)
    shaped-two {f} {g} {a} {b} s t = record {
      long = ap length (is a b) ∙ length-append (na a) (nb b) ∙ ap₂ (λ (x y : ℕ). x + y) s.long t.long
          ∙ sym (ap length (is (f indices) (g indices)) ∙ length-append (na (f indices)) (nb (g indices)));
      same = λ ids e.
          let q : na a ++ nb b ≡ ids_at ids (na (f indices)) ++ ids_at ids (nb (g indices)) = sym (is a b) ∙ e ∙ ap (ids_at ids) (is (f indices) (g indices))
          ∙ map-append _ (na (f indices)) (nb (g indices)) in
          let w = split-append (na a) (ids_at ids (na (f indices))) (nb b) (ids_at ids (nb (g indices)))
          (s.long ∙ sym (length-map (na (f indices)) (λ j. get_or ids j 0))) q in
          ap₂ make (s.same ids w.0) (t.same ids w.1);
    }

-- ---- what a node stands for, and what numbering makes of it

abbrev pub two_names : Expr × Expr → List ℕ
two_names t = expr_names t.0 ++ expr_names t.1

abbrev pub pair_names : Pat × Expr → List ℕ
pair_names t = pattern_ids t.0 ++ expr_names t.1

module _ (own : ℕ → Type 0) where
  pub record Facts (s : Tree) (num : List ℕ → Tree) : Type 0 where
    pub expression : Part own expr_names (λ ids. (num ids).expression)
    pub pattern : Part own pattern_ids (λ ids. (num ids).pattern)
    pub parameters : Part own parameter_ids (λ ids. (num ids).parameters)
    pub arms : Part own arm_names (λ ids. (num ids).arms)
    pub items : Part own item_names (λ ids. (num ids).items)
    pub expression-shape : (l : Ids) (g : Names) → Shaped expr_names (λ ids. (num ids).expression) (number_expr_variables s.expression l g).0
    pub pattern-shape : (l : Ids) (g : Names) → Shaped pattern_ids (λ ids. (num ids).pattern) (number_pattern_variables s.pattern l g).0.0
    pub parameters-shape : (l : Ids) (g : Names) → Shaped parameter_ids (λ ids. (num ids).parameters) (number_parameters s.parameters l g).0.0
    pub arms-shape : (l : Ids) (g : Names) → Shaped arm_names (λ ids. (num ids).arms) (number_arms s.arms l g).0
    pub items-shape : (l : Ids) (g : Names) → Shaped item_names (λ ids. (num ids).items) (number_items s.items l g).0

module _ (own : ℕ → Type 0) where
  as-expression : {e : Expr} {num : List ℕ → Expr} → Part own expr_names num →
      ((l : Ids) (g : Names) → Shaped expr_names num (number_expr_variables e l g).0) → Facts own (as_expression e) (λ ids. as_expression (num ids))
  unfolding pattern_ids parameter_ids arm_names item_names expr_names number_pattern_variables number_parameters number_arms number_items
      number_expr_variables ◌>>=◌ return
  as-expression p s = record {
    expression = p;
    pattern = part_none own pattern_ids Pat.unit_p refl;
    parameters = part_none own parameter_ids [] refl;
    arms = part_none own arm_names Arms.no_arm refl;
    items = part_none own item_names (Items.last Expr.unit) refl;
    expression-shape = s;
    pattern-shape = λ l g. shaped-none pattern_ids Pat.unit_p;
    parameters-shape = λ l g. shaped-none parameter_ids [];
    arms-shape = λ l g. shaped-none arm_names Arms.no_arm;
    items-shape = λ l g. shaped-none item_names (Items.last Expr.unit);
  }

  as-pattern : {e : Pat} {num : List ℕ → Pat} → Part own pattern_ids num →
      ((l : Ids) (g : Names) → Shaped pattern_ids num (number_pattern_variables e l g).0.0) → Facts own (as_pattern e) (λ ids. as_pattern (num ids))
  unfolding pattern_ids parameter_ids arm_names item_names expr_names number_pattern_variables number_parameters number_arms number_items
      number_expr_variables ◌>>=◌ return
  as-pattern p s = record {
    expression = part_none own expr_names Expr.unit refl;
    pattern = p;
    parameters = part_none own parameter_ids [] refl;
    arms = part_none own arm_names Arms.no_arm refl;
    items = part_none own item_names (Items.last Expr.unit) refl;
    expression-shape = λ l g. shaped-none expr_names Expr.unit;
    pattern-shape = s;
    parameters-shape = λ l g. shaped-none parameter_ids [];
    arms-shape = λ l g. shaped-none arm_names Arms.no_arm;
    items-shape = λ l g. shaped-none item_names (Items.last Expr.unit);
  }

  -- where the facts hold of all nodes before node n
  module _ (n : ℕ) (small : n < 2048) (bs : ℕ → Tree) (bn : List ℕ → ℕ → Tree) (F : (k : ℕ) → Facts own (bs k) (λ ids. bn ids k)) where
    form-part : (f : Form) → (bears (Some (Node.Expression f)) ≡ true → own n)
        → Part own expr_names (λ ids. expression_of (bn ids) (form_with (get_or ids n 0) f))
    unfolding expression_of form_with expr_names bears is_name
    form-part Form.Unit o = part_none own expr_names Expr.unit refl
    form-part Form.Nil o = part_none own expr_names Expr.nil refl
    form-part (Form.Product x y) o = part-two own expr_names expr_names expr_names Expr.product (λ a b. refl) (F x).expression (F y).expression
    form-part (Form.Cons x y) o = part-two own expr_names expr_names expr_names Expr.cons (λ a b. refl) (F x).expression (F y).expression
    form-part (Form.Infix q x y) o = part-two own expr_names expr_names expr_names (Expr.binary q) (λ a b. refl) (F x).expression (F y).expression
    form-part (Form.Negate x) o = part-one own expr_names expr_names Expr.negate (λ a. refl) (F x).expression
    form-part (Form.Application x y) o = part-two own expr_names expr_names expr_names Expr.application (λ a b. refl) (F x).expression (F y).expression
    form-part (Form.Constant c) o = part_none own expr_names (Expr.constant c) refl
    form-part (Form.Variable v) o = part-one own single expr_names Expr.variable (λ a. refl) (part-name own n small (o refl))
    form-part (Form.Function l y) o = part-two own parameter_ids expr_names expr_names (λ p e. Expr.function p e Env.empty) (λ a b. refl) (F l).parameters
        (F y).expression
    form-part (Form.Let p x y) o =
        part-two own pattern_ids two_names expr_names (λ q t. Expr.letting q t.0 t.1) (λ a b. refl) (F p).pattern
        (part-two own expr_names expr_names two_names (λ a b. (a, b)) (λ a b. refl) (F x).expression (F y).expression)
    form-part (Form.Match x l) o = part-two own expr_names arm_names expr_names Expr.matching (λ a b. refl) (F x).expression (F l).arms
    form-part (Form.Sequence l) o = part-one own item_names expr_names Expr.sequence (λ a. refl) (F l).items

    form-shape : (f : Form) (l : Ids) (g : Names) → Shaped expr_names (λ ids. expression_of (bn ids) (form_with (get_or ids n 0) f))
        (number_expr_variables (expression_of bs f) l g).0
    unfolding expression_of form_with expr_names number_expr_variables ◌>>=◌ return
    form-shape Form.Unit l g = shaped-none expr_names Expr.unit
    form-shape Form.Nil l g = shaped-none expr_names Expr.nil
    form-shape (Form.Product x y) l g =
        shaped-two expr_names expr_names expr_names Expr.product (λ a b. refl) ((F x).expression-shape l g)
        ((F y).expression-shape l (number_expr_variables (bs x).expression l g).1)
    form-shape (Form.Cons x y) l g =
        shaped-two expr_names expr_names expr_names Expr.cons (λ a b. refl) ((F x).expression-shape l g)
        ((F y).expression-shape l (number_expr_variables (bs x).expression l g).1)
    form-shape (Form.Infix q x y) l g =
        shaped-two expr_names expr_names expr_names (Expr.binary q) (λ a b. refl) ((F x).expression-shape l g)
        ((F y).expression-shape l (number_expr_variables (bs x).expression l g).1)
    form-shape (Form.Negate x) l g = shaped-one expr_names expr_names Expr.negate (λ a. refl) ((F x).expression-shape l g)
    form-shape (Form.Application x y) l g =
        shaped-two expr_names expr_names expr_names Expr.application (λ a b. refl) ((F x).expression-shape l g)
        ((F y).expression-shape l (number_expr_variables (bs x).expression l g).1)
    form-shape (Form.Constant c) l g = shaped-none expr_names (Expr.constant c)
    form-shape (Form.Variable v) l g = shaped-one single expr_names Expr.variable (λ a. refl) (shaped-name n small (number_variable v l g).0)
    form-shape (Form.Function x y) l g =
        let w = number_parameters (bs x).parameters l g in
        shaped-two parameter_ids expr_names expr_names (λ p e. Expr.function p e Env.empty) (λ a b. refl) ((F x).parameters-shape l g)
        ((F y).expression-shape w.0.1 w.1)
    form-shape (Form.Let p x y) l g =
        let v = number_expr_variables (bs x).expression l g in
        let w = number_pattern_variables (bs p).pattern l v.1 in
        shaped-two pattern_ids two_names expr_names (λ q t. Expr.letting q t.0 t.1) (λ a b. refl) ((F p).pattern-shape l v.1)
        (shaped-two expr_names expr_names two_names (λ a b. (a, b)) (λ a b. refl) ((F x).expression-shape l g) ((F y).expression-shape w.0.1 w.1))
    form-shape (Form.Match x y) l g =
        shaped-two expr_names arm_names expr_names Expr.matching (λ a b. refl) ((F x).expression-shape l g)
        ((F y).arms-shape l (number_expr_variables (bs x).expression l g).1)
    form-shape (Form.Sequence x) l g = shaped-one item_names expr_names Expr.sequence (λ a. refl) ((F x).items-shape l g)

    shape-part : (f : Shape) → (bears (Some (Node.Pattern f)) ≡ true → own n)
        → Part own pattern_ids (λ ids. pattern_of (bn ids) (shape_with (get_or ids n 0) f))
    unfolding pattern_of shape_with pattern_ids bears is_name
    shape-part Shape.Unit o = part_none own pattern_ids Pat.unit_p refl
    shape-part Shape.Nil o = part_none own pattern_ids Pat.nil_p refl
    shape-part (Shape.As p v) o = part-two own pattern_ids single pattern_ids Pat.as_p (λ a b. refl) (F p).pattern (part-name own n small (o refl))
    shape-part (Shape.Product p q) o = part-two own pattern_ids pattern_ids pattern_ids Pat.product_p (λ a b. refl) (F p).pattern (F q).pattern
    shape-part (Shape.Cons p q) o = part-two own pattern_ids pattern_ids pattern_ids Pat.cons_p (λ a b. refl) (F p).pattern (F q).pattern
    shape-part (Shape.Variable v) o = part-one own single pattern_ids Pat.variable_p (λ a. refl) (part-name own n small (o refl))
    shape-part (Shape.Constant c) o = part_none own pattern_ids (Pat.constant_p c) refl

    shape-shape : (f : Shape) (l : Ids) (g : Names) → Shaped pattern_ids (λ ids. pattern_of (bn ids) (shape_with (get_or ids n 0) f))
        (number_pattern_variables (pattern_of bs f) l g).0.0
    unfolding pattern_of shape_with pattern_ids number_pattern_variables generate_id ◌>>=◌ return
    shape-shape Shape.Unit l g = shaped-none pattern_ids Pat.unit_p
    shape-shape Shape.Nil l g = shaped-none pattern_ids Pat.nil_p
    shape-shape (Shape.As p v) l g =
        shaped-two pattern_ids single pattern_ids Pat.as_p (λ a b. refl) ((F p).pattern-shape l g)
        (shaped-name n small (number_pattern_variables (bs p).pattern l g).1.next)
    shape-shape (Shape.Product p q) l g =
        let w = number_pattern_variables (bs p).pattern l g in
        shaped-two pattern_ids pattern_ids pattern_ids Pat.product_p (λ a b. refl) ((F p).pattern-shape l g) ((F q).pattern-shape w.0.1 w.1)
    shape-shape (Shape.Cons p q) l g =
        let w = number_pattern_variables (bs p).pattern l g in
        shaped-two pattern_ids pattern_ids pattern_ids Pat.cons_p (λ a b. refl) ((F p).pattern-shape l g) ((F q).pattern-shape w.0.1 w.1)
    shape-shape (Shape.Variable v) l g = shaped-one single pattern_ids Pat.variable_p (λ a. refl) (shaped-name n small g.next)
    shape-shape (Shape.Constant c) l g = shaped-none pattern_ids (Pat.constant_p c)

    -- a link, the last of its chain (true) or not
    module _ (x y z : ℕ) where
      parameters-of : Bool → (ℕ → Tree) → List Pat
      parameters-of t below = (below x).pattern ∷ elim t [ true ↦ [] | false ↦ (below y).parameters ]

      arms_of : Bool → (ℕ → Tree) → Arms
      arms_of t below = Arms.arm (below x).pattern (below z).expression (elim t [ true ↦ Arms.no_arm | false ↦ (below y).arms ])

      items_of : Bool → (ℕ → Tree) → Items
      items_of t below = elim t [ true ↦ Items.last (below x).expression | false ↦ Items.◌then◌ (below x).expression (below y).items ]

      link-parameters : (t : Bool) → Part own parameter_ids (λ ids. parameters-of t (bn ids))
      unfolding parameters-of parameter_ids
      link-parameters true = part-two own pattern_ids parameter_ids parameter_ids (λ p ps. p ∷ ps) (λ a b. refl) (F x).pattern
          (part_none own parameter_ids [] refl)
      link-parameters false = part-two own pattern_ids parameter_ids parameter_ids (λ p ps. p ∷ ps) (λ a b. refl) (F x).pattern (F y).parameters

      parameters-shaped : (t : Bool) (l : Ids) (g : Names) →
          Shaped parameter_ids (λ ids. parameters-of t (bn ids)) (number_parameters (parameters-of t bs) l g).0.0
      unfolding parameters-of parameter_ids number_parameters ◌>>=◌ return
      parameters-shaped true l g = shaped-two pattern_ids parameter_ids parameter_ids (λ p ps. p ∷ ps) (λ a b. refl) ((F x).pattern-shape l g)
          (shaped-none parameter_ids [])
      parameters-shaped false l g =
          let w = number_pattern_variables (bs x).pattern l g in
          shaped-two pattern_ids parameter_ids parameter_ids (λ p ps. p ∷ ps) (λ a b. refl) ((F x).pattern-shape l g) ((F y).parameters-shape w.0.1 w.1)

      arm-part : Part own pair_names (λ ids. ((bn ids x).pattern, (bn ids z).expression))
      arm-part = part-two own pattern_ids expr_names pair_names (λ a b. (a, b)) (λ a b. refl) (F x).pattern (F z).expression

      arm-shaped : (l : Ids) (g : Names) → let w = number_pattern_variables (bs x).pattern l g in Shaped pair_names
          (λ ids. ((bn ids x).pattern, (bn ids z).expression)) (w.0.0, (number_expr_variables (bs z).expression w.0.1 w.1).0)
      arm-shaped l g =
          let w = number_pattern_variables (bs x).pattern l g in
          shaped-two pattern_ids expr_names pair_names (λ a b. (a, b)) (λ a b. refl) ((F x).pattern-shape l g) ((F z).expression-shape w.0.1 w.1)

      link-arms : (t : Bool) → Part own arm_names (λ ids. arms_of t (bn ids))
      unfolding arms_of arm_names
      link-arms true = part-two own pair_names arm_names arm_names (λ a r. Arms.arm a.0 a.1 r) (λ a b. refl) arm-part
          (part_none own arm_names Arms.no_arm refl)
      link-arms false = part-two own pair_names arm_names arm_names (λ a r. Arms.arm a.0 a.1 r) (λ a b. refl) arm-part (F y).arms

      arms-shaped : (t : Bool) (l : Ids) (g : Names) → Shaped arm_names (λ ids. arms_of t (bn ids)) (number_arms (arms_of t bs) l g).0
      unfolding arms_of arm_names number_arms ◌>>=◌ return
      arms-shaped true l g = shaped-two pair_names arm_names arm_names (λ a r. Arms.arm a.0 a.1 r) (λ a b. refl) (arm-shaped l g)
          (shaped-none arm_names Arms.no_arm)
      arms-shaped false l g =
          let w = number_pattern_variables (bs x).pattern l g in
          let v = number_expr_variables (bs z).expression w.0.1 w.1 in
          shaped-two pair_names arm_names arm_names (λ a r. Arms.arm a.0 a.1 r) (λ a b. refl) (arm-shaped l g) ((F y).arms-shape l v.1)

      link-items : (t : Bool) → Part own item_names (λ ids. items_of t (bn ids))
      unfolding items_of item_names
      link-items true = part-one own expr_names item_names Items.last (λ a. refl) (F x).expression
      link-items false = part-two own expr_names item_names item_names Items.◌then◌ (λ a b. refl) (F x).expression (F y).items

      items-shaped : (t : Bool) (l : Ids) (g : Names) → Shaped item_names (λ ids. items_of t (bn ids)) (number_items (items_of t bs) l g).0
      unfolding items_of item_names number_items ◌>>=◌ return
      items-shaped true l g = shaped-one expr_names item_names Items.last (λ a. refl) ((F x).expression-shape l g)
      items-shaped false l g =
          shaped-two expr_names item_names item_names Items.◌then◌ (λ a b. refl) ((F x).expression-shape l g)
          ((F y).items-shape l (number_expr_variables (bs x).expression l g).1)

      link-facts : Facts own (link_of bs x y z) (λ ids. link_of (bn ids) x y z)
      unfolding link_of parameters-of arms_of items_of pattern_ids expr_names number_pattern_variables number_expr_variables ◌>>=◌ return
      link-facts = record {
        expression = part_none own expr_names Expr.unit refl;
        pattern = part_none own pattern_ids Pat.unit_p refl;
        parameters = link-parameters (eqb y 4294967295);
        arms = link-arms (eqb y 4294967295);
        items = link-items (eqb y 4294967295);
        expression-shape = λ l g. shaped-none expr_names Expr.unit;
        pattern-shape = λ l g. shaped-none pattern_ids Pat.unit_p;
        parameters-shape = parameters-shaped (eqb y 4294967295);
        arms-shape = arms-shaped (eqb y 4294967295);
        items-shape = items-shaped (eqb y 4294967295);
      }

    entry-facts : (e : Option Node) → (bears e ≡ true → own n) → Facts own (grown bs e) (λ ids. grown (bn ids) (entry_with (get_or ids n 0) e))
    unfolding grown entry_with expr_names number_expr_variables return
    entry-facts (Some (Node.Expression f)) o = as-expression (form-part f o) (form-shape f)
    entry-facts (Some (Node.Pattern p)) o = as-pattern (shape-part p o) (shape-shape p)
    entry-facts (Some (Node.Link x y z)) o = link-facts x y z
    entry-facts None o = as-expression (part_none own expr_names Expr.unit refl) (λ l g. shaped-none expr_names Expr.unit)

  either-facts : (t : Bool) {s s' : Tree} {num num' : List ℕ → Tree} → Facts own s num → Facts own s' num' →
      Facts own (elim t [ true ↦ s | false ↦ s' ]) (λ ids. elim t [ true ↦ num ids | false ↦ num' ids ])
  either-facts true p q = p
  either-facts false p q = q

  -- of the first n nodes of a record, of which those that have a name are `own`
  pub facts : (b : List ℕ) (at n : ℕ) → n ≤ 2048 → ((j : ℕ) → j < n → bears (entry_of b at j) ≡ true → own j) → (k : ℕ) →
      Facts own (tree b at n k) (λ ids. numbered_tree ids b at n k)
  unfolding tree numbered_tree expr_names number_expr_variables return
  facts b at zero l o k = as-expression (part_none own expr_names Expr.unit refl) (λ i g. shaped-none expr_names Expr.unit)
  facts b at (suc n) l o k =
      either-facts (eqb k n)
      (entry-facts n (omega arith) (tree b at n) (λ ids. numbered_tree ids b at n) (facts b at n (omega arith) (λ j h. o j (omega arith))) (entry_of b at n)
      (o n (omega arith)))
      (facts b at n (omega arith) (λ j h. o j (omega arith)) k)
