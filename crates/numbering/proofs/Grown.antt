-- What a node stands for, by what its children stand for: for the trees of a record and for its numbered trees. Assumes nothing.
use Prim.Native.Nat.{ℕ, zero, suc, ◌<◌}
use mathlib.Core.Path.{◌≡◌, refl, sym, ap, ap₂, ◌∙◌}
use mathlib.Core.List.{List, [], ◌∷◌}
use mathlib.Core.Bool.{Bool, true, false}
use mathlib.Core.Logic.{⊎_elim}
use native.Mathlib.Omega.{arith}
use lib.ListN.{get_or}
use lib.Dec.{eqb}
use borrow.Author.Tests.{eq-eqb, ne_eqb}
use Rattle.field.specs.declared.InfixOp.{InfixOp}
use Rattle.std.specs.Prelude.{Option, Some}
use Rattle.source.specs.declared.Node.{Node}
use Rattle.source.specs.declared.Form.{Form}
use Rattle.source.specs.declared.Shape.{Shape}
use Rattle.source.specs.Trees.{Pat, Expr, Items, Arms, Env}
use Rattle.source.specs.Nodes.{entry_of}
use Rattle.source.specs.Record.{Tree, tree, grown, expression_of, pattern_of, link_of}
use Rattle.numbering.specs.Numbers.{entry_with, numbered_tree}
use Rattle.std.proofs.lemmas.Bool.{cases_eq}

-- trees by falling index: node k of the first n
pub record Growing (T : ℕ → ℕ → Tree) (E : ℕ → Option Node) : Type 0 where
  pub here : (k : ℕ) → T (suc k) k ≡ grown (T k) (E k)
  pub there : (n k : ℕ) → (k ≡ n → ⊥) → T (suc n) k ≡ T n k

module _ (T : ℕ → ℕ → Tree) (E : ℕ → Option Node) (G : Growing T E) where
  settled : (n k : ℕ) → k < n → T n k ≡ T (suc k) k
  settled zero k l = absurd (omega arith)
  settled (suc n) k l =
      ⊎_elim
      (λ (e : k ≡ n). ap (λ (m : ℕ). T (suc m) k) (sym e))
      (λ (f : k ≡ n → ⊥). G.there n k f ∙ settled n k (omega arith))
      (cases_eq k n)

  module _ (n k : ℕ) (l : k < n) where
    low : (c : ℕ) → c < k → T k c ≡ T n c
    low c m = settled k c m ∙ sym (settled n c (omega arith))

    grown-at : {e : Option Node} → E k ≡ e → T n k ≡ grown (T k) e
    grown-at q = settled n k l ∙ G.here k ∙ ap (grown (T k)) q

    -- expressions
    pub leaf-is : {f : Form} → E k ≡ Some (Node.Expression f) → (T n k).expression ≡ expression_of (T k) f
    unfolding grown
    leaf-is q = ap (λ (t : Tree). t.expression) (grown-at q)

    pub product_is : {x y : ℕ} → E k ≡ Some (Node.Expression (Form.Product x y)) → x < k → y < k
        → (T n k).expression ≡ Expr.product (T n x).expression (T n y).expression
    unfolding expression_of
    product_is {x} {y} q i j = leaf-is q ∙ ap₂ (λ (a b : Tree). Expr.product a.expression b.expression) (low x i) (low y j)

    pub cons-is : {x y : ℕ} → E k ≡ Some (Node.Expression (Form.Cons x y)) → x < k → y < k
        → (T n k).expression ≡ Expr.cons (T n x).expression (T n y).expression
    unfolding expression_of
    cons-is {x} {y} q i j = leaf-is q ∙ ap₂ (λ (a b : Tree). Expr.cons a.expression b.expression) (low x i) (low y j)

    pub infix-is : {o : InfixOp} {x y : ℕ} → E k ≡ Some (Node.Expression (Form.Infix o x y)) → x < k → y < k
        → (T n k).expression ≡ Expr.binary o (T n x).expression (T n y).expression
    unfolding expression_of
    infix-is {o} {x} {y} q i j = leaf-is q ∙ ap₂ (λ (a b : Tree). Expr.binary o a.expression b.expression) (low x i) (low y j)

    pub application-is : {x y : ℕ} → E k ≡ Some (Node.Expression (Form.Application x y)) → x < k → y < k
        → (T n k).expression ≡ Expr.application (T n x).expression (T n y).expression
    unfolding expression_of
    application-is {x} {y} q i j = leaf-is q ∙ ap₂ (λ (a b : Tree). Expr.application a.expression b.expression) (low x i) (low y j)

    pub negate-is : {x : ℕ} → E k ≡ Some (Node.Expression (Form.Negate x)) → x < k → (T n k).expression ≡ Expr.negate (T n x).expression
    unfolding expression_of
    negate-is {x} q i = leaf-is q ∙ ap (λ (a : Tree). Expr.negate a.expression) (low x i)

    pub function-is : {x y : ℕ} → E k ≡ Some (Node.Expression (Form.Function x y)) → x < k → y < k
        → (T n k).expression ≡ Expr.function (T n x).parameters (T n y).expression Env.empty
    unfolding expression_of
    function-is {x} {y} q i j = leaf-is q ∙ ap₂ (λ (a b : Tree). Expr.function a.parameters b.expression Env.empty) (low x i) (low y j)

    pub let-is : {p x y : ℕ} → E k ≡ Some (Node.Expression (Form.Let p x y)) → p < k → x < k → y < k
        → (T n k).expression ≡ Expr.letting (T n p).pattern (T n x).expression (T n y).expression
    unfolding expression_of
    let-is {p} {x} {y} q h i j =
        leaf-is q ∙ ap₂ (λ (a b : Tree). Expr.letting a.pattern b.expression (T k y).expression) (low p h) (low x i)
        ∙ ap (λ (a : Tree). Expr.letting (T n p).pattern (T n x).expression a.expression) (low y j)

    pub match_is : {x y : ℕ} → E k ≡ Some (Node.Expression (Form.Match x y)) → x < k → y < k
        → (T n k).expression ≡ Expr.matching (T n x).expression (T n y).arms
    unfolding expression_of
    match_is {x} {y} q i j = leaf-is q ∙ ap₂ (λ (a b : Tree). Expr.matching a.expression b.arms) (low x i) (low y j)

    pub sequence-is : {x : ℕ} → E k ≡ Some (Node.Expression (Form.Sequence x)) → x < k → (T n k).expression ≡ Expr.sequence (T n x).items
    unfolding expression_of
    sequence-is {x} q i = leaf-is q ∙ ap (λ (a : Tree). Expr.sequence a.items) (low x i)

    -- patterns
    pub stem-is : {f : Shape} → E k ≡ Some (Node.Pattern f) → (T n k).pattern ≡ pattern_of (T k) f
    unfolding grown
    stem-is q = ap (λ (t : Tree). t.pattern) (grown-at q)

    pub as_is : {x v : ℕ} → E k ≡ Some (Node.Pattern (Shape.As x v)) → x < k → (T n k).pattern ≡ Pat.as_p (T n x).pattern v
    unfolding pattern_of
    as_is {x} {v} q i = stem-is q ∙ ap (λ (a : Tree). Pat.as_p a.pattern v) (low x i)

    pub product_p-is : {x y : ℕ} → E k ≡ Some (Node.Pattern (Shape.Product x y)) → x < k → y < k
        → (T n k).pattern ≡ Pat.product_p (T n x).pattern (T n y).pattern
    unfolding pattern_of
    product_p-is {x} {y} q i j = stem-is q ∙ ap₂ (λ (a b : Tree). Pat.product_p a.pattern b.pattern) (low x i) (low y j)

    pub cons_p-is : {x y : ℕ} → E k ≡ Some (Node.Pattern (Shape.Cons x y)) → x < k → y < k → (T n k).pattern ≡ Pat.cons_p (T n x).pattern (T n y).pattern
    unfolding pattern_of
    cons_p-is {x} {y} q i j = stem-is q ∙ ap₂ (λ (a b : Tree). Pat.cons_p a.pattern b.pattern) (low x i) (low y j)

    -- links: the last of a chain, and one that another follows
    module _ {x y z : ℕ} (q : E k ≡ Some (Node.Link x y z)) (i : x < k) where
      ends_by : (t : Bool) → eqb y 4294967295 ≡ t → T n k ≡ record {
        expression = Expr.unit;
        pattern = Pat.unit_p;
        parameters = (T k x).pattern ∷ elim t [ true ↦ [] | false ↦ (T k y).parameters ];
        arms = Arms.arm (T k x).pattern (T k z).expression (elim t [ true ↦ Arms.no_arm | false ↦ (T k y).arms ]);
        items = elim t [ true ↦ Items.last (T k x).expression | false ↦ Items.◌then◌ (T k x).expression (T k y).items ];
      }
      unfolding grown link_of
      ends_by t e = grown-at q ∙ ap (λ (t : Bool). record {
        expression = Expr.unit;
        pattern = Pat.unit_p;
        parameters = (T k x).pattern ∷ elim t [ true ↦ [] | false ↦ (T k y).parameters ];
        arms = Arms.arm (T k x).pattern (T k z).expression (elim t [ true ↦ Arms.no_arm | false ↦ (T k y).arms ]);
        items = elim t [ true ↦ Items.last (T k x).expression | false ↦ Items.◌then◌ (T k x).expression (T k y).items ];
      }) e

      pub parameters-last : y ≡ 4294967295 → (T n k).parameters ≡ (T n x).pattern ∷ []
      parameters-last e = ap (λ (t : Tree). t.parameters) (ends_by true (eq-eqb _ _ e)) ∙ ap (λ (a : Tree). a.pattern ∷ []) (low x i)

      pub items-last : y ≡ 4294967295 → (T n k).items ≡ Items.last (T n x).expression
      items-last e = ap (λ (t : Tree). t.items) (ends_by true (eq-eqb _ _ e)) ∙ ap (λ (a : Tree). Items.last a.expression) (low x i)

      pub arms_last : y ≡ 4294967295 → z < k → (T n k).arms ≡ Arms.arm (T n x).pattern (T n z).expression Arms.no_arm
      arms_last e j =
          ap (λ (t : Tree). t.arms) (ends_by true (eq-eqb _ _ e)) ∙ ap₂ (λ (a b : Tree). Arms.arm a.pattern b.expression Arms.no_arm) (low x i) (low z j)

      pub parameters-more : (y ≡ 4294967295 → ⊥) → y < k → (T n k).parameters ≡ (T n x).pattern ∷ (T n y).parameters
      parameters-more e h =
          ap (λ (t : Tree). t.parameters) (ends_by false (ne_eqb _ _ e)) ∙ ap₂ (λ (a b : Tree). a.pattern ∷ b.parameters) (low x i) (low y h)

      pub items_more : (y ≡ 4294967295 → ⊥) → y < k → (T n k).items ≡ Items.◌then◌ (T n x).expression (T n y).items
      items_more e h =
          ap (λ (t : Tree). t.items) (ends_by false (ne_eqb _ _ e)) ∙ ap₂ (λ (a b : Tree). Items.◌then◌ a.expression b.items) (low x i) (low y h)

      pub arms_more : (y ≡ 4294967295 → ⊥) → y < k → z < k → (T n k).arms ≡ Arms.arm (T n x).pattern (T n z).expression (T n y).arms
      arms_more e h j =
          ap (λ (t : Tree). t.arms) (ends_by false (ne_eqb _ _ e))
          ∙ ap₂ (λ (a b : Tree). Arms.arm a.pattern b.expression (T k y).arms) (low x i) (low z j)
          ∙ ap (λ (a : Tree). Arms.arm (T n x).pattern (T n z).expression a.arms) (low y h)

-- both kinds of trees grow so
pub trees-grow : (b : List ℕ) (at : ℕ) → Growing (tree b at) (entry_of b at)
unfolding tree
trees-grow b at = record { here = λ k. rw (eq-eqb k k refl, tree); there = λ n k f. rw (ne_eqb k n f, tree) }

pub numbered-grow : (ids b : List ℕ) (at : ℕ) → Growing (numbered_tree ids b at) (λ k. entry_with (get_or ids k 0) (entry_of b at k))
unfolding numbered_tree
numbered-grow ids b at = record { here = λ k. rw (eq-eqb k k refl, numbered_tree); there = λ n k f. rw (ne_eqb k n f, numbered_tree) }

-- a node with its id
pub entry-with : (ids b : List ℕ) (at k : ℕ) {e : Option Node} → entry_of b at k ≡ e
    → entry_with (get_or ids k 0) (entry_of b at k) ≡ entry_with (get_or ids k 0) e
entry-with ids b at k q = ap (entry_with (get_or ids k 0)) q
