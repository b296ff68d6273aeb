-- How often a node that has a name stands in a tree with the nodes' indices for names: as often as the tree has the node. Assumes nothing.
use Prim.Native.Nat.{ℕ, zero, suc, ◌+◌, ◌<◌}
use mathlib.Core.Path.{◌≡◌, refl, ap, ◌∙◌}
use mathlib.Core.List.{List, [], ◌∷◌, ◌++◌}
use mathlib.Core.Bool.{true, false}
use mathlib.Core.Logic.{⊎_elim}
use native.Mathlib.Omega.{arith}
use lib.ListN.{get_or}
use Rattle.std.specs.Prelude.{Option, Some, None}
use Rattle.source.specs.declared.Node.{Node}
use Rattle.source.specs.declared.Form.{Form}
use Rattle.source.specs.declared.Shape.{Shape}
use Rattle.source.specs.declared.Chain.{Chain}
use Rattle.source.specs.Children.{Child}
use Rattle.source.specs.Nodes.{entry_of, children_of, three, is_expression, is_pattern, item_fits, result_fits, chain_fits}
use Rattle.marks.specs.Indices.{same}
use Rattle.source.specs.Record.{Tree, expression_of, pattern_of}
use Rattle.numbering.specs.Numbers.{form_with, shape_with, entry_with, is_name, bears, numbered_tree}
use Rattle.numbering.specs.Statements.{pattern_ids, parameter_ids}
use Rattle.numbering.specs.Places.{expr_names, item_names, arm_names, indices}
use Rattle.numbering.specs.Walks.{weight, chain_weight, Walkable}
use Rattle.std.proofs.lemmas.Bool.{cases_eq}
use Rattle.numbering.proofs.Laws.{not-both}
use Rattle.marks.proofs.Indices.{same-no}
use Rattle.numbering.proofs.Weights.{linked, child_weight, result_weight}
use Rattle.numbering.proofs.Grown.{Growing, numbered-grow, leaf-is, stem-is, product_is, cons-is, infix-is, application-is}
use Rattle.numbering.proofs.Grown.{negate-is, function-is, let-is, match_is, sequence-is, as_is, product_p-is, cons_p-is}
use Rattle.numbering.proofs.Grown.{parameters-last, parameters-more, items-last, items_more, arms_last, arms_more}
use Rattle.numbering.proofs.Children.{child-facts, pattern-child, expression-child, links-child, link-facts}
use Rattle.numbering.proofs.Children.{pattern-item, expression-item, no-pattern-expression, no-pattern-link}
use Rattle.numbering.proofs.Children.{no-pattern-bad, no-expression-pattern, no-expression-link, no-expression-bad}
use Rattle.numbering.proofs.Parts.{index_at}

unfoldable pub count : ℕ → List ℕ → ℕ
count j [] = 0
count j (x ∷ xs) = same j x + count j xs

pub count-append : (j : ℕ) (xs ys : List ℕ) → count j (xs ++ ys) ≡ count j xs + count j ys
unfolding count
count-append j [] ys = omega arith
count-append j (x ∷ xs) ys = omega (arith, count-append j xs ys)

module _ (j : ℕ) where
  -- a list in parts, and what they weigh
  none-counts : {zs : List ℕ} {w s : ℕ} → zs ≡ [] → w ≡ s + (0 + (0 + 0)) → s ≡ 0 → count j zs ≡ w
  unfolding count
  none-counts e h q = omega (arith, ap (count j) e)

  one-counts : {zs : List ℕ} (xs : List ℕ) {u w s : ℕ} → zs ≡ xs → count j xs ≡ u → w ≡ s + (u + (0 + 0)) → s ≡ 0 → count j zs ≡ w
  one-counts xs e p h q = omega (arith, ap (count j) e)

  two-counts : {zs : List ℕ} (xs ys : List ℕ) {u v w s : ℕ} → zs ≡ xs ++ ys → count j xs ≡ u → count j ys ≡ v → w ≡ s + (u + (v + 0)) → s ≡ 0 → count j zs ≡ w
  two-counts xs ys e p r h q = omega (arith, ap (count j) e, count-append j xs ys)

  three-counts : {zs : List ℕ} (xs ys vs : List ℕ) {u v t w s : ℕ} → zs ≡ xs ++ (ys ++ vs) → count j xs ≡ u → count j ys ≡ v → count j vs ≡ t →
      w ≡ s + (u + (v + t)) → s ≡ 0 → count j zs ≡ w
  three-counts xs ys vs e p r f h q = omega (arith, ap (count j) e, count-append j xs (ys ++ vs), count-append j ys vs)

  name-counts : {zs : List ℕ} (k : ℕ) {w : ℕ} → zs ≡ k ∷ [] → w ≡ same j k + (0 + (0 + 0)) → count j zs ≡ w
  unfolding count
  name-counts k e h = omega (arith, ap (count j) e)

unfoldable pub chain_names : Chain → Tree → List ℕ
chain_names Chain.Parameters t = parameter_ids t.parameters
chain_names Chain.Arms t = arm_names t.arms
chain_names Chain.Items t = item_names t.items

-- of node j, which has a name, in the first n nodes of a record that fit
module _ (b : List ℕ) (at n : ℕ) (W : Walkable b at n) (j : ℕ) (o : bears (entry_of b at j) ≡ true) where
  abbrev T : ℕ → ℕ → Tree
  T = numbered_tree indices b at

  abbrev E : ℕ → Option Node
  E k = entry_with (get_or indices k 0) (entry_of b at k)

  G : Growing T E
  G = numbered-grow indices b at

  abbrev w : ℕ → ℕ
  w k = weight b at (same j) k

  pub record Counted (k : ℕ) : Type 0 where
    pub expression : is_expression (entry_of b at k) ≡ true → count j (expr_names (T n k).expression) ≡ w k
    pub pattern : is_pattern (entry_of b at k) ≡ true → count j (pattern_ids (T n k).pattern) ≡ w k
    pub chain : (h : Chain) → chain_fits b at h (suc k) k ≡ true → count j (chain_names h (T n k)) ≡ chain_weight b at n (same j) h k

  -- a node without a name is another
  another : (k : ℕ) {e : Option Node} → entry_of b at k ≡ e → bears e ≡ false → same j k ≡ 0
  another k q f = same-no j k (λ (z : j ≡ k). not-both (ap bears (ap (entry_of b at) z ∙ q) ∙ f) o)

  with-id : (k : ℕ) {e : Option Node} → entry_of b at k ≡ e → E k ≡ entry_with (get_or indices k 0) e
  with-id k q = ap (entry_with (get_or indices k 0)) q

  module _ (k : ℕ) (l : k < n) (C : (c : ℕ) → c < k → Counted c) where
    -- no child
    leaf-counts : {zs : List ℕ} {e : Option Node} → entry_of b at k ≡ e → children_of e ≡ three Child.Nothing Child.Nothing Child.Nothing → bears e ≡ false →
        zs ≡ [] → count j zs ≡ w k
    unfolding child_weight
    leaf-counts e q f z = none-counts j z ((child-facts b at n W k l Child.Nothing Child.Nothing Child.Nothing e q).weighs (same j)) (another k e f)

    -- two expressions, two patterns
    expressions-count : (x y : ℕ) {e : Option Node} → entry_of b at k ≡ e → children_of e ≡ three (Child.Expression x) (Child.Expression y) Child.Nothing →
        bears e ≡ false → (x < k → y < k → expr_names (T n k).expression ≡ expr_names (T n x).expression ++ expr_names (T n y).expression) →
        count j (expr_names (T n k).expression) ≡ w k
    unfolding child_weight
    expressions-count x y e r g is =
        let f = child-facts b at n W k l (Child.Expression x) (Child.Expression y) Child.Nothing e r in
        let p = expression-child b at n W k x f.first_fits in
        let q = expression-child b at n W k y f.second_fits in
        two-counts j _ _ (is p.0 q.0) ((C x p.0).expression p.1) ((C y q.0).expression q.1) (f.weighs (same j)) (another k e g)

    patterns-count : (x y : ℕ) {e : Option Node} → entry_of b at k ≡ e → children_of e ≡ three (Child.Pattern x) (Child.Pattern y) Child.Nothing
        → bears e ≡ false →
        (x < k → y < k → pattern_ids (T n k).pattern ≡ pattern_ids (T n x).pattern ++ pattern_ids (T n y).pattern) →
        count j (pattern_ids (T n k).pattern) ≡ w k
    unfolding child_weight
    patterns-count x y e r g is =
        let f = child-facts b at n W k l (Child.Pattern x) (Child.Pattern y) Child.Nothing e r in
        let p = pattern-child b at n W k x f.first_fits in
        let q = pattern-child b at n W k y f.second_fits in
        two-counts j _ _ (is p.0 q.0) ((C x p.0).pattern p.1) ((C y q.0).pattern q.1) (f.weighs (same j)) (another k e g)

    own-index : get_or indices k 0 ≡ k
    own-index = index_at k (omega (arith, W.few-nodes))

    form-counts : (f : Form) → entry_of b at k ≡ Some (Node.Expression f) → count j (expr_names (T n k).expression) ≡ w k
    unfolding entry_with form_with expr_names expression_of child_weight chain_names bears is_name
    form-counts Form.Unit e = leaf-counts e refl refl (ap expr_names (leaf-is T E G n k l (with-id k e)))
    form-counts Form.Nil e = leaf-counts e refl refl (ap expr_names (leaf-is T E G n k l (with-id k e)))
    form-counts (Form.Constant c) e = leaf-counts e refl refl (ap expr_names (leaf-is T E G n k l (with-id k e)))
    form-counts (Form.Product x y) e = expressions-count x y e refl refl (λ p q. ap expr_names (product_is T E G n k l (with-id k e) p q))
    form-counts (Form.Cons x y) e = expressions-count x y e refl refl (λ p q. ap expr_names (cons-is T E G n k l (with-id k e) p q))
    form-counts (Form.Infix i x y) e = expressions-count x y e refl refl (λ p q. ap expr_names (infix-is T E G n k l (with-id k e) p q))
    form-counts (Form.Application x y) e = expressions-count x y e refl refl (λ p q. ap expr_names (application-is T E G n k l (with-id k e) p q))
    form-counts (Form.Negate x) e =
        let f = child-facts b at n W k l (Child.Expression x) Child.Nothing Child.Nothing e refl in
        let p = expression-child b at n W k x f.first_fits in
        one-counts j _ (ap expr_names (negate-is T E G n k l (with-id k e) p.0)) ((C x p.0).expression p.1) (f.weighs (same j)) (another k e refl)
    form-counts (Form.Variable v) e =
        name-counts j k (ap expr_names (leaf-is T E G n k l (with-id k e)) ∙ ap (λ (i : ℕ). i ∷ []) own-index)
        ((child-facts b at n W k l (Child.Name v) Child.Nothing Child.Nothing e refl).weighs (same j))
    form-counts (Form.Function x y) e =
        let f = child-facts b at n W k l (Child.Links Chain.Parameters x) (Child.Expression y) Child.Nothing e refl in
        let p = links-child b at n W k Chain.Parameters x f.first_fits in
        let q = expression-child b at n W k y f.second_fits in
        two-counts j _ _ (ap expr_names (function-is T E G n k l (with-id k e) p.0 q.0)) ((C x p.0).chain Chain.Parameters p.1)
        ((C y q.0).expression q.1) (f.weighs (same j)) (another k e refl)
    form-counts (Form.Let r x y) e =
        let f = child-facts b at n W k l (Child.Pattern r) (Child.Expression x) (Child.Expression y) e refl in
        let p = pattern-child b at n W k r f.first_fits in
        let q = expression-child b at n W k x f.second_fits in
        let t = expression-child b at n W k y f.third-fits in
        three-counts j _ _ _ (ap expr_names (let-is T E G n k l (with-id k e) p.0 q.0 t.0)) ((C r p.0).pattern p.1)
        ((C x q.0).expression q.1) ((C y t.0).expression t.1) (f.weighs (same j)) (another k e refl)
    form-counts (Form.Match x y) e =
        let f = child-facts b at n W k l (Child.Expression x) (Child.Links Chain.Arms y) Child.Nothing e refl in
        let p = expression-child b at n W k x f.first_fits in
        let q = links-child b at n W k Chain.Arms y f.second_fits in
        two-counts j _ _ (ap expr_names (match_is T E G n k l (with-id k e) p.0 q.0)) ((C x p.0).expression p.1)
        ((C y q.0).chain Chain.Arms q.1) (f.weighs (same j)) (another k e refl)
    form-counts (Form.Sequence x) e =
        let f = child-facts b at n W k l (Child.Links Chain.Items x) Child.Nothing Child.Nothing e refl in
        let p = links-child b at n W k Chain.Items x f.first_fits in
        one-counts j _ (ap expr_names (sequence-is T E G n k l (with-id k e) p.0)) ((C x p.0).chain Chain.Items p.1) (f.weighs (same j))
        (another k e refl)

    shape-counts : (f : Shape) → entry_of b at k ≡ Some (Node.Pattern f) → count j (pattern_ids (T n k).pattern) ≡ w k
    unfolding entry_with shape_with pattern_ids pattern_of child_weight count bears is_name
    shape-counts Shape.Unit e = leaf-counts e refl refl (ap pattern_ids (stem-is T E G n k l (with-id k e)))
    shape-counts Shape.Nil e = leaf-counts e refl refl (ap pattern_ids (stem-is T E G n k l (with-id k e)))
    shape-counts (Shape.Constant c) e = leaf-counts e refl refl (ap pattern_ids (stem-is T E G n k l (with-id k e)))
    shape-counts (Shape.Product x y) e = patterns-count x y e refl refl (λ p q. ap pattern_ids (product_p-is T E G n k l (with-id k e) p q))
    shape-counts (Shape.Cons x y) e = patterns-count x y e refl refl (λ p q. ap pattern_ids (cons_p-is T E G n k l (with-id k e) p q))
    shape-counts (Shape.Variable v) e =
        name-counts j k (ap pattern_ids (stem-is T E G n k l (with-id k e)) ∙ ap (λ (i : ℕ). i ∷ []) own-index)
        ((child-facts b at n W k l (Child.Name v) Child.Nothing Child.Nothing e refl).weighs (same j))
    shape-counts (Shape.As x v) e =
        let f = child-facts b at n W k l (Child.Pattern x) (Child.Name v) Child.Nothing e refl in
        let p = pattern-child b at n W k x f.first_fits in
        let xs : List ℕ = pattern_ids (T n x).pattern in
        let z : pattern_ids (T n k).pattern ≡ xs ++ (k ∷ []) = ap pattern_ids (as_is T E G n k l (with-id k e) p.0)
        ∙ ap (λ (i : ℕ). xs ++ (i ∷ [])) own-index in
        omega (arith, ap (count j) z, count-append j xs (k ∷ []), (C x p.0).pattern p.1, f.weighs (same j))

    -- a link, which has no name itself
    link-weighs : {x y z : ℕ} → entry_of b at k ≡ Some (Node.Link x y z) → w k ≡ 0
    unfolding child_weight bears is_name
    link-weighs e = omega (arith, (child-facts b at n W k l Child.Nothing Child.Nothing Child.Nothing e refl).weighs (same j), another k e refl)

    module _ {x y z : ℕ} (e : entry_of b at k ≡ Some (Node.Link x y z)) where
      as-link : E k ≡ Some (Node.Link x y z)
      unfolding entry_with
      as-link = with-id k e

      parameters-count : chain_fits b at Chain.Parameters (suc k) k ≡ true →
          count j (parameter_ids (T n k).parameters) ≡ chain_weight b at n (same j) Chain.Parameters k
      unfolding parameter_ids item_fits result_weight chain_names count
      parameters-count c =
          let f = link-facts b at n W Chain.Parameters k l c e in
          let p = pattern-item b at n W k x f.item-fits in
          let xs : List ℕ = pattern_ids (T n x).pattern in
          let h = (C x p.0).pattern p.1 in
          ⊎_elim
          (λ (m : y ≡ 4294967295).
          omega (
            arith,
            ap (λ t. count j (parameter_ids t)) (parameters-last T E G n k l as-link p.0 m),
            count-append j xs [],
            h,
            f.weighs-last m
                (same j),
            link-weighs e,
          ))
          (λ (m : y ≡ 4294967295 → ⊥).
          let r = f.rest m in
          omega (
            arith,
            ap (λ t. count j (parameter_ids t)) (parameters-more T E G n k l as-link p.0 m r.0),
            count-append j xs (parameter_ids (T n y).parameters),
            h,
            (C y r.0).chain Chain.Parameters r.1,
            f.weighs-more m (same j),
            link-weighs e,
          ))
          (cases_eq y 4294967295)

      arms-count : chain_fits b at Chain.Arms (suc k) k ≡ true → count j (arm_names (T n k).arms) ≡ chain_weight b at n (same j) Chain.Arms k
      unfolding arm_names item_fits result_fits result_weight chain_names count
      arms-count c =
          let f = link-facts b at n W Chain.Arms k l c e in
          let p = pattern-item b at n W k x f.item-fits in
          let q = expression-item b at n W k z f.result-fits in
          let xs : List ℕ = pattern_ids (T n x).pattern in
          let zs : List ℕ = expr_names (T n z).expression in
          let h = (C x p.0).pattern p.1 in
          let i = (C z q.0).expression q.1 in
          ⊎_elim
          (λ (m : y ≡ 4294967295).
          omega (
            arith,
            ap (λ t. count j (arm_names t)) (arms_last T E G n k l as-link p.0 m q.0),
            count-append j (xs ++ zs) [],
            count-append j xs zs,
            h,
            i,
            f.weighs-last m (same j),
            link-weighs e,
          ))
          (λ (m : y ≡ 4294967295 → ⊥).
          let r = f.rest m in
          omega (
            arith,
            ap (λ t. count j (arm_names t)) (arms_more T E G n k l as-link p.0 m r.0 q.0),
            count-append j (xs ++ zs) (arm_names (T n y).arms),
            count-append j xs zs,
            h,
            i,
            (C y r.0).chain Chain.Arms r.1,
            f.weighs-more m (same j),
            link-weighs e,
          ))
          (cases_eq y 4294967295)

      items-count : chain_fits b at Chain.Items (suc k) k ≡ true → count j (item_names (T n k).items) ≡ chain_weight b at n (same j) Chain.Items k
      unfolding item_names item_fits result_weight chain_names
      items-count c =
          let f = link-facts b at n W Chain.Items k l c e in
          let p = expression-item b at n W k x f.item-fits in
          let xs : List ℕ = expr_names (T n x).expression in
          let h = (C x p.0).expression p.1 in
          ⊎_elim
          (λ (m : y ≡ 4294967295). omega (
            arith,
            ap (λ t. count j (item_names t)) (items-last T E G n k l as-link p.0 m),
            h,
            f.weighs-last m (same j),
            link-weighs e,
          ))
          (λ (m : y ≡ 4294967295 → ⊥).
          let r = f.rest m in
          omega (
            arith,
            ap (λ t. count j (item_names t)) (items_more T E G n k l as-link p.0 m r.0),
            count-append j xs (item_names (T n y).items),
            h,
            (C y r.0).chain Chain.Items r.1,
            f.weighs-more m (same j),
            link-weighs e,
          ))
          (cases_eq y 4294967295)

    by-expression : (e : Option Node) → entry_of b at k ≡ e → is_expression (entry_of b at k) ≡ true → count j (expr_names (T n k).expression) ≡ w k
    by-expression (Some (Node.Expression f)) q s = form-counts f q
    by-expression (Some (Node.Pattern p)) q s = absurd (no-expression-pattern b at k s q)
    by-expression (Some (Node.Link x y z)) q s = absurd (no-expression-link b at k s q)
    by-expression None q s = absurd (no-expression-bad b at k s q)

    by-pattern : (e : Option Node) → entry_of b at k ≡ e → is_pattern (entry_of b at k) ≡ true → count j (pattern_ids (T n k).pattern) ≡ w k
    by-pattern (Some (Node.Expression f)) q s = absurd (no-pattern-expression b at k s q)
    by-pattern (Some (Node.Pattern p)) q s = shape-counts p q
    by-pattern (Some (Node.Link x y z)) q s = absurd (no-pattern-link b at k s q)
    by-pattern None q s = absurd (no-pattern-bad b at k s q)

    by_chain : (h : Chain) → chain_fits b at h (suc k) k ≡ true → count j (chain_names h (T n k)) ≡ chain_weight b at n (same j) h k
    unfolding chain_names
    by_chain Chain.Parameters c = parameters-count (linked b at Chain.Parameters k c).says c
    by_chain Chain.Arms c = arms-count (linked b at Chain.Arms k c).says c
    by_chain Chain.Items c = items-count (linked b at Chain.Items k c).says c

    counted-at : Counted k
    counted-at = record { expression = by-expression (entry_of b at k) refl; pattern = by-pattern (entry_of b at k) refl; chain = by_chain }

  below : (m k : ℕ) → k < m → k < n → Counted k
  below zero k h l = absurd (omega arith)
  below (suc m) k h l = counted-at k l (λ c i. below m c (omega arith) (omega arith))

  -- NODE j STANDS in a tree as often as the tree has it
  pub counted : (k : ℕ) → k < n → Counted k
  counted k l = below (suc k) k (omega arith) l
