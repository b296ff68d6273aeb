-- The weight of a node is its own and those of its children; the roots of a record whose nodes are each used once weigh as much as all its nodes.
-- Assumes nothing.
use Prim.Native.Nat.{ℕ, zero, suc, ◌+◌, ◌*◌, ◌≤◌, ◌<◌}
use mathlib.Core.Path.{◌≡◌, refl, sym, ap, ap₂, ◌∙◌}
use mathlib.Core.List.{List}
use mathlib.Core.Bool.{Bool, true, false, ◌||◌}
use mathlib.Core.Logic.{⊎_elim}
use native.Mathlib.Nat.{one-mul, zero-mul}
use native.Mathlib.Omega.{arith}
use lib.Dec.{eqb, ltb}
use borrow.Author.Tests.{eq-eqb, ne_eqb, eqb-false, ltb-true}
use Rattle.std.specs.Prelude.{Option, Some, None}
use Rattle.source.specs.declared.Node.{Node}
use Rattle.source.specs.declared.Chain.{Chain}
use Rattle.source.specs.Children.{Child}
use Rattle.marks.specs.Indices.{total, pick, same}
use Rattle.source.specs.Nodes.{entry_of, children_of, expression_fits, pattern_fits}
use Rattle.source.specs.Nodes.{item_fits, result_fits, link_fits, chain_fits, child_fits, children_fit, nodes_fit}
use Rattle.source.specs.Uses.{result_uses, link_uses, chain_uses, child_uses, children_use, by_nodes}
use Rattle.std.proofs.lemmas.Bool.{cases_eq}
use Rattle.marks.proofs.Indices.{same-no, and_left, and_right, every-at}
use Rattle.numbering.proofs.Laws.{or-second, not-both}
use Rattle.numbering.specs.Walks.{summed, weight, chain_weight}
use Rattle.numbering.proofs.Sums.{total-same, total-sum, total-times, total-exchange}
use Rattle.numbering.proofs.Sums.{total-extend, total-add, total-none, total-pick, once}

-- what a link of a chain that fits says
pub record Linked (b : List ℕ) (at : ℕ) (h : Chain) (l : ℕ) : Type 0 where
  pub item : ℕ
  pub next : ℕ
  pub result : ℕ
  pub says : entry_of b at l ≡ Some (Node.Link item next result)
  pub item-fits : item_fits b at h l item ≡ true
  pub result-fits : result_fits b at h l result ≡ true
  pub rest-fits : (eqb next 4294967295 || chain_fits b at h l next) ≡ true

module _ (b : List ℕ) (at : ℕ) where
  -- ---- chains

  linked-at : (h : Chain) (l : ℕ) (e : Option Node) → entry_of b at l ≡ e → link_fits b at h (chain_fits b at h l) l e ≡ true → Linked b at h l
  unfolding link_fits
  linked-at h l (Some (Node.Expression f)) q e = absurd (not-both refl e)
  linked-at h l (Some (Node.Pattern p)) q e = absurd (not-both refl e)
  linked-at h l (Some (Node.Link item next result)) q e =
      let r = and_right (item_fits b at h l item) _ e in
      record {
        item = item;
        next = next;
        result = result;
        says = q;
        item-fits = and_left (item_fits b at h l item) _ e;
        result-fits = and_left (result_fits b at h l result) _ r;
        rest-fits = and_right (result_fits b at h l result) _ r;
      }
  linked-at h l None q e = absurd (not-both refl e)

  pub linked : (h : Chain) (l : ℕ) → chain_fits b at h (suc l) l ≡ true → Linked b at h l
  unfolding chain_fits
  linked h l e = linked-at h l (entry_of b at l) refl (rw (eq-eqb l l refl, chain_fits) at e)

  -- the first link stands before its owner
  pub chain_first : (h : Chain) (n x : ℕ) → chain_fits b at h n x ≡ true → (x < n) × (chain_fits b at h (suc x) x ≡ true)
  unfolding chain_fits
  chain_first h zero x e = absurd (not-both refl e)
  chain_first h (suc n) x e =
      ⊎_elim
      (λ (q : x ≡ n). (omega arith, rw q (rw q at e)))
      (λ (q : x ≡ n → ⊥). let r = chain_first h n x (rw (ne_eqb x n q, chain_fits) at e) in (omega (arith, r.0), r.1))
      (cases_eq x n)

  -- the rest of a chain
  pub rest_of : (h : Chain) (l : ℕ) (k : Linked b at h l) → (k.next ≡ 4294967295 → ⊥) → (k.next < l) × (chain_fits b at h (suc k.next) k.next ≡ true)
  rest_of h l k n = chain_first h l k.next (or-second _ _ k.rest-fits (ne_eqb _ _ n))

  expression-below : (k x : ℕ) → expression_fits b at k x ≡ true → x < k
  unfolding expression_fits
  expression-below k x e = ltb-true x k (and_left (ltb x k) _ e)

  pattern-below : (k x : ℕ) → pattern_fits b at k x ≡ true → x < k
  unfolding pattern_fits
  pattern-below k x e = ltb-true x k (and_left (ltb x k) _ e)

  pub item-below : (h : Chain) (k x : ℕ) → item_fits b at h k x ≡ true → x < k
  unfolding item_fits
  item-below Chain.Parameters k x e = pattern-below k x e
  item-below Chain.Arms k x e = pattern-below k x e
  item-below Chain.Items k x e = expression-below k x e

  chain-settled : (h : Chain) (n x c : ℕ) → x < n → chain_uses b at h n x c ≡ chain_uses b at h (suc x) x c
  unfolding chain_uses
  chain-settled h zero x c l = absurd (omega arith)
  chain-settled h (suc n) x c l =
      ⊎_elim
      (λ (e : x ≡ n). rw e)
      (λ (f : x ≡ n → ⊥). rw (ne_eqb x n f, chain_uses) (chain-settled h n x c (omega arith)))
      (cases_eq x n)

  result-below : (h : Chain) (l x c : ℕ) → result_fits b at h l x ≡ true → l ≤ c → result_uses h x c ≡ 0
  unfolding result_uses result_fits
  result-below Chain.Parameters l x c e q = refl
  result-below Chain.Arms l x c e q = same-no x c (λ z. omega (arith, expression-below l x e))
  result-below Chain.Items l x c e q = refl

  -- what the chain from link l on uses
  chain-step : (h : Chain) (l : ℕ) (k : Linked b at h l) (c : ℕ)
      → chain_uses b at h (suc l) l c
      ≡ same l c + (same k.item c + (result_uses h k.result c + pick (eqb k.next 4294967295) 0 (chain_uses b at h l k.next c)))
  unfolding chain_uses link_uses
  chain-step h l k c = rw (eq-eqb l l refl, chain_uses, k.says)

  pick-zero : (t : Bool) (x : ℕ) → (t ≡ false → x ≡ 0) → pick t 0 x ≡ 0
  unfolding pick
  pick-zero true x h = refl
  pick-zero false x h = h refl

  fits-less : (h : Chain) (n x : ℕ) → (x ≡ n → ⊥) → chain_fits b at h (suc n) x ≡ true → chain_fits b at h n x ≡ true
  unfolding chain_fits
  fits-less h n x g e = rw (ne_eqb x n g, chain_fits) at e

  -- nothing past its first link
  chain-below : (h : Chain) (n x c : ℕ) → chain_fits b at h n x ≡ true → n ≤ c → chain_uses b at h n x c ≡ 0
  chain-below h zero x c e q = absurd (omega (arith, (chain_first h 0 x e).0))
  chain-below h (suc n) x c e q =
      let f = chain_first h (suc n) x e in
      let k = linked h x f.1 in
      ⊎_elim
      (λ (g : x ≡ n).
      chain-settled h (suc n) x c f.0
      ∙ chain-step h x k c
      ∙ omega (
        arith,
        same-no x c (λ z. omega arith),
        same-no k.item c (λ z. omega (arith, item-below h x k.item k.item-fits)),
        result-below h x k.result c k.result-fits (omega arith),
        pick-zero (eqb k.next 4294967295) (chain_uses b at h x k.next c)
            (λ z. ap (λ (m : ℕ). chain_uses b at h m k.next c) g
            ∙ chain-below h n k.next c (sym (ap (λ (m : ℕ). chain_fits b at h m k.next) g) ∙ or-second _ _ k.rest-fits z) (omega arith)),
      ))
      (λ (g : x ≡ n → ⊥).
      chain-settled h (suc n) x c f.0 ∙ sym (chain-settled h n x c (omega (arith, f.0))) ∙ chain-below h n x c (fits-less h n x g e) (omega arith))
      (cases_eq x n)

  pub child-below : (names j : ℕ) (ch : Child) (c : ℕ) → child_fits b at names j ch ≡ true → j ≤ c → child_uses b at j ch c ≡ 0
  unfolding child_fits child_uses
  child-below names j Child.Nothing c e q = refl
  child-below names j (Child.Name v) c e q = refl
  child-below names j (Child.Expression x) c e q = same-no x c (λ z. omega (arith, expression-below j x e))
  child-below names j (Child.Pattern x) c e q = same-no x c (λ z. omega (arith, pattern-below j x e))
  child-below names j (Child.Links h x) c e q = chain-below h j x c e q
  child-below names j Child.Wrong c e q = refl

  -- ---- weights

  summed-settled : (own : ℕ → ℕ) (n k : ℕ) → k < n → summed b at own n k ≡ weight b at own k
  unfolding summed weight
  summed-settled own zero k l = absurd (omega arith)
  summed-settled own (suc n) k l =
      ⊎_elim
      (λ (e : k ≡ n). rw e)
      (λ (f : k ≡ n → ⊥). rw (ne_eqb k n f, summed) (summed-settled own n k (omega arith)))
      (cases_eq k n)

  weight_is : (own : ℕ → ℕ) (k : ℕ) → weight b at own k ≡ own k + total k (λ c. children_use b at k (children_of (entry_of b at k)) c * summed b at own k c)
  unfolding weight summed
  weight_is own k = rw (eq-eqb k k refl, summed)

  unfoldable pub child_weight : ℕ → (ℕ → ℕ) → Child → ℕ
  child_weight n own Child.Nothing = 0
  child_weight n own (Child.Name v) = 0
  child_weight n own (Child.Expression x) = weight b at own x
  child_weight n own (Child.Pattern x) = weight b at own x
  child_weight n own (Child.Links h x) = chain_weight b at n own h x
  child_weight n own Child.Wrong = 0

  unfoldable pub result_weight : (ℕ → ℕ) → Chain → ℕ → ℕ
  result_weight own Chain.Parameters x = 0
  result_weight own Chain.Arms x = weight b at own x
  result_weight own Chain.Items x = 0

  -- what a child's uses weigh
  child-weighs : (names j : ℕ) (ch : Child) (n : ℕ) (own : ℕ → ℕ) → child_fits b at names j ch ≡ true → j ≤ n
      → total n (λ c. child_uses b at j ch c * weight b at own c) ≡ child_weight n own ch
  unfolding child_fits child_uses child_weight chain_weight
  child-weighs names j Child.Nothing n own e q = total-none n (weight b at own)
  child-weighs names j (Child.Name v) n own e q = total-none n (weight b at own)
  child-weighs names j (Child.Expression x) n own e q = once n x (weight b at own) (omega (arith, expression-below j x e))
  child-weighs names j (Child.Pattern x) n own e q = once n x (weight b at own) (omega (arith, pattern-below j x e))
  child-weighs names j (Child.Links h x) n own e q =
      total-same n _ _ (λ c l. ap (λ (u : ℕ). u * weight b at own c) (chain-settled h j x c (chain_first h j x e).0))
  child-weighs names j Child.Wrong n own e q = total-none n (weight b at own)

  module _ (names n : ℕ) (fit : nodes_fit b at names n ≡ true) where
    pub children-fit : (k : ℕ) → k < n → children_fit b at names k (children_of (entry_of b at k)) ≡ true
    unfolding nodes_fit
    children-fit k l = every-at n k _ fit l

    -- what a node uses, summed over all nodes
    uses-weigh : (own : ℕ → ℕ) (k : ℕ) → k < n
        → weight b at own k ≡ own k + total n (λ c. children_use b at k (children_of (entry_of b at k)) c * weight b at own c)
    unfolding children_fit children_use
    uses-weigh own k l =
        let ch = children_of (entry_of b at k) in
        let f = children-fit k l in
        let f1 = and_left (child_fits b at names k ch.first) _ f in
        let f2 = and_right (child_fits b at names k ch.first) _ f in
        let f3 = and_left (child_fits b at names k ch.second) _ f2 in
        let f4 = and_right (child_fits b at names k ch.second) _ f2 in
        weight_is own k
        ∙ ap (λ (x : ℕ). own k + x)
        (total-same k _ _ (λ c m. ap (λ (x : ℕ). children_use b at k ch c * x) (summed-settled own k c m))
        ∙ total-extend n k _ (omega arith)
        (λ c m.
        let z : children_use b at k ch c ≡ 0 =
        omega (arith, child-below names k ch.first c f1 m, child-below names k ch.second c f3 m, child-below names k ch.third c f4 m) in
        ap (λ (x : ℕ). x * weight b at own c) z ∙ zero-mul (weight b at own c)))

    -- A NODE WEIGHS its own, and what its children weigh
    pub grows : (own : ℕ → ℕ) (k : ℕ) → k < n
        → weight b at own k
        ≡ own k + (child_weight n own (children_of (entry_of b at k)).first
        + (child_weight n own (children_of (entry_of b at k)).second + child_weight n own (children_of (entry_of b at k)).third))
    unfolding children_fit children_use
    grows own k l =
        let ch = children_of (entry_of b at k) in
        let f = children-fit k l in
        let f1 = and_left (child_fits b at names k ch.first) _ f in
        let f2 = and_right (child_fits b at names k ch.first) _ f in
        let f3 = and_left (child_fits b at names k ch.second) _ f2 in
        let f4 = and_right (child_fits b at names k ch.second) _ f2 in
        uses-weigh own k l
        ∙ ap (λ (x : ℕ). own k + x)
        (total-add n (child_uses b at k ch.first) (λ c. child_uses b at k ch.second c + child_uses b at k ch.third c) (weight b at own)
        ∙ ap₂ (λ (x y : ℕ). x + y)
        (child-weighs names k ch.first n own f1 (omega arith))
        (total-add n (child_uses b at k ch.second) (child_uses b at k ch.third) (weight b at own)
        ∙ ap₂ (λ (x y : ℕ). x + y) (child-weighs names k ch.second n own f3 (omega arith)) (child-weighs names k ch.third n own f4 (omega arith))))

    -- A CHAIN WEIGHS its first link, its item, its result and the rest
    result-weighs : (h : Chain) (l x : ℕ) (own : ℕ → ℕ) → result_fits b at h l x ≡ true → l < n
        → total n (λ c. result_uses h x c * weight b at own c) ≡ result_weight own h x
    unfolding result_uses result_weight result_fits
    result-weighs Chain.Parameters l x own e q = total-none n (weight b at own)
    result-weighs Chain.Arms l x own e q = once n x (weight b at own) (omega (arith, expression-below l x e))
    result-weighs Chain.Items l x own e q = total-none n (weight b at own)

    pick_same : (t : Bool) (x y : ℕ) → (t ≡ false → x ≡ y) → pick t 0 x ≡ pick t 0 y
    unfolding pick
    pick_same true x y h = refl
    pick_same false x y h = h refl

    pub chain-grows : (own : ℕ → ℕ) (h : Chain) (l : ℕ) (k : Linked b at h l) → l < n
        → chain_weight b at n own h l
        ≡ weight b at own l
        + (weight b at own k.item + (result_weight own h k.result + pick (eqb k.next 4294967295) 0 (chain_weight b at n own h k.next)))
    unfolding chain_weight
    chain-grows own h l k q =
        let w = weight b at own in
        let t = eqb k.next 4294967295 in
        let rest : ℕ → ℕ = λ c. chain_uses b at h l k.next c in
        total-same n _ _ (λ c m. ap (λ (x : ℕ). x * w c) (chain-step h l k c))
        ∙ total-add n (same l) (λ c. same k.item c + (result_uses h k.result c + pick t 0 (rest c))) w
        ∙ ap₂ (λ (x y : ℕ). x + y)
        (once n l w q)
        (total-add n (same k.item) (λ c. result_uses h k.result c + pick t 0 (rest c)) w
        ∙ ap₂ (λ (x y : ℕ). x + y)
        (once n k.item w (omega (arith, item-below h l k.item k.item-fits)))
        (total-add n (result_uses h k.result) (λ c. pick t 0 (rest c)) w
        ∙ ap₂ (λ (x y : ℕ). x + y)
        (result-weighs h l k.result own k.result-fits q)
        (total-pick n t rest w
        ∙ pick_same t _ _ (λ z. total-same n _ _ (λ c m. ap (λ (x : ℕ). x * w c) (chain-settled h l k.next c (rest_of h l k (eqb-false _ _ z)).0))))))

    -- THE ROOTS WEIGH as much as all nodes, where each node is used once: by a node, or as a root
    pub roots-weigh : (own root : ℕ → ℕ) → ((c : ℕ) → c < n → by_nodes b at n c + root c ≡ 1) → total n (λ c. root c * weight b at own c) ≡ total n own
    unfolding by_nodes
    roots-weigh own root one =
        let w = weight b at own in
        let u : ℕ → ℕ → ℕ = λ j c. children_use b at j (children_of (entry_of b at j)) c in
        let s1 : total n w ≡ total n (λ c. by_nodes b at n c * w c) + total n (λ c. root c * w c) =
        total-same n _ _ (λ c l. sym (one-mul (w c)) ∙ ap (λ (x : ℕ). x * w c) (sym (one c l))) ∙ total-add n (by_nodes b at n) root w in
        let s2 : total n w ≡ total n own + total n (λ j. total n (λ c. u j c * w c)) =
        total-same n _ _ (λ k l. uses-weigh own k l) ∙ total-sum n own (λ j. total n (λ c. u j c * w c)) in
        let s3 : total n (λ c. by_nodes b at n c * w c) ≡ total n (λ j. total n (λ c. u j c * w c)) =
        total-same n _ _ (λ c l. total-times n (λ j. u j c) (w c)) ∙ total-exchange n n (λ j c. u j c * w c) in
        omega arith
