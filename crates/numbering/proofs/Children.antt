-- The children of a node that fits: their sorts, and what they weigh. Assumes nothing.
use Prim.Native.Nat.{ℕ, suc, ◌+◌, ◌<◌}
use mathlib.Core.Path.{◌≡◌, refl, sym, ap, ◌∙◌}
use mathlib.Core.List.{List}
use mathlib.Core.Bool.{Bool, true, ◌&&◌, ◌||◌}
use native.Mathlib.Omega.{arith}
use lib.Dec.{eqb, ltb}
use borrow.Author.Tests.{ltb-true, eq-eqb, ne_eqb}
use Rattle.std.specs.Prelude.{Option, Some, None, IsSome}
use Rattle.source.specs.declared.Node.{Node}
use Rattle.source.specs.declared.Form.{Form}
use Rattle.source.specs.declared.Shape.{Shape}
use Rattle.source.specs.declared.Chain.{Chain}
use Rattle.source.specs.Children.{Child, Children}
use Rattle.marks.specs.Indices.{pick}
use Rattle.source.specs.Nodes.{entry_of, children_of, three, is_expression, is_pattern, expression_fits}
use Rattle.source.specs.Nodes.{pattern_fits, item_fits, result_fits, link_fits, chain_fits, child_fits, children_fit}
use Rattle.numbering.specs.Walks.{weight, chain_weight, Walkable, Ready, ReadyChain}
use Rattle.numbering.specs.declared.rows.Scopes.{Scopes}
use Rattle.marks.proofs.Indices.{and_left, and_right}
use Rattle.numbering.proofs.Laws.{or-second, not-both}
use Rattle.numbering.proofs.Weights.{Linked, child_weight, result_weight, children-fit, grows, chain_first, chain-grows, item-below}

-- a node that is read
some-is : {n m : Node} → Some n ≡ Some m → n ≡ m
some-is e = cc

sorted-expression : (e : Option Node) → is_expression e ≡ true → IsSome e
unfolding is_expression
sorted-expression (Some n) s = refl
sorted-expression None s = absurd (not-both refl s)

sorted-pattern : (e : Option Node) → is_pattern e ≡ true → IsSome e
unfolding is_pattern
sorted-pattern (Some n) s = refl
sorted-pattern None s = absurd (not-both refl s)

-- a sort that a node has not
pub no-pattern-expression : (b : List ℕ) (at k : ℕ) {f : Form} → is_pattern (entry_of b at k) ≡ true → entry_of b at k ≡ Some (Node.Expression f) → ⊥
unfolding is_pattern
no-pattern-expression b at k s q = not-both (ap is_pattern q) s

pub no-pattern-link : (b : List ℕ) (at k : ℕ) {x y z : ℕ} → is_pattern (entry_of b at k) ≡ true → entry_of b at k ≡ Some (Node.Link x y z) → ⊥
unfolding is_pattern
no-pattern-link b at k s q = not-both (ap is_pattern q) s

pub no-pattern-bad : (b : List ℕ) (at k : ℕ) → is_pattern (entry_of b at k) ≡ true → entry_of b at k ≡ None → ⊥
unfolding is_pattern
no-pattern-bad b at k s q = not-both (ap is_pattern q) s

pub no-expression-pattern : (b : List ℕ) (at k : ℕ) {f : Shape} → is_expression (entry_of b at k) ≡ true → entry_of b at k ≡ Some (Node.Pattern f) → ⊥
unfolding is_expression
no-expression-pattern b at k s q = not-both (ap is_expression q) s

pub no-expression-link : (b : List ℕ) (at k : ℕ) {x y z : ℕ} → is_expression (entry_of b at k) ≡ true → entry_of b at k ≡ Some (Node.Link x y z) → ⊥
unfolding is_expression
no-expression-link b at k s q = not-both (ap is_expression q) s

pub no-expression-bad : (b : List ℕ) (at k : ℕ) → is_expression (entry_of b at k) ≡ true → entry_of b at k ≡ None → ⊥
unfolding is_expression
no-expression-bad b at k s q = not-both (ap is_expression q) s

-- the sort that it has
has-pattern : (e : Option Node) → is_pattern e ≡ true → ((f : Shape) → e ≡ Some (Node.Pattern f) → ⊥) → ⊥
unfolding is_pattern
has-pattern (Some (Node.Expression f)) s h = not-both refl s
has-pattern (Some (Node.Pattern f)) s h = h f refl
has-pattern (Some (Node.Link x y z)) s h = not-both refl s
has-pattern None s h = not-both refl s

has-expression : (e : Option Node) → is_expression e ≡ true → ((f : Form) → e ≡ Some (Node.Expression f) → ⊥) → ⊥
unfolding is_expression
has-expression (Some (Node.Expression f)) s h = h f refl
has-expression (Some (Node.Pattern f)) s h = not-both refl s
has-expression (Some (Node.Link x y z)) s h = not-both refl s
has-expression None s h = not-both refl s

module _ (b : List ℕ) (at n : ℕ) (W : Walkable b at n) where
  pub record Child-facts (k : ℕ) (x y z : Child) : Type 0 where
    pub first_fits : child_fits b at W.count k x ≡ true
    pub second_fits : child_fits b at W.count k y ≡ true
    pub third-fits : child_fits b at W.count k z ≡ true
    pub weighs : (own : ℕ → ℕ) → weight b at own k ≡ own k + (child_weight b at n own x + (child_weight b at n own y + child_weight b at n own z))

  pub child-facts : (k : ℕ) → k < n → {e : Option Node} (x y z : Child) → entry_of b at k ≡ e → children_of e ≡ three x y z → Child-facts k x y z
  unfolding children_fit
  child-facts k l x y z q r =
      let c = W.count in
      let s : children_of (entry_of b at k) ≡ three x y z = ap children_of q ∙ r in
      let f : children_fit b at c k (three x y z) ≡ true = ap (children_fit b at c k) (sym s) ∙ children-fit b at c n W.fit k l in
      let f2 = and_right (child_fits b at c k x) _ f in
      record {
        first_fits = and_left (child_fits b at c k x) _ f;
        second_fits = and_left (child_fits b at c k y) _ f2;
        third-fits = and_right (child_fits b at c k y) _ f2;
        weighs = λ own.
            grows b at c n W.fit own k l
            ∙ ap (λ (h : Children). own k + (child_weight b at n own h.first + (child_weight b at n own h.second + child_weight b at n own h.third))) s;
      }

  pub pattern-child : (k x : ℕ) → child_fits b at W.count k (Child.Pattern x) ≡ true → (x < k) × (is_pattern (entry_of b at x) ≡ true)
  unfolding child_fits pattern_fits
  pattern-child k x e = (ltb-true x k (and_left (ltb x k) _ e), and_right (ltb x k) _ e)

  pub expression-child : (k x : ℕ) → child_fits b at W.count k (Child.Expression x) ≡ true → (x < k) × (is_expression (entry_of b at x) ≡ true)
  unfolding child_fits expression_fits
  expression-child k x e = (ltb-true x k (and_left (ltb x k) _ e), and_right (ltb x k) _ e)

  pub links-child : (k : ℕ) (h : Chain) (x : ℕ) → child_fits b at W.count k (Child.Links h x) ≡ true → (x < k) × (chain_fits b at h (suc x) x ≡ true)
  unfolding child_fits
  links-child k h x e = chain_first b at h k x e

  pub name-child : (k v : ℕ) → child_fits b at W.count k (Child.Name v) ≡ true → v < 512
  unfolding child_fits
  name-child k v e = omega (arith, ltb-true v W.count e, W.few-names)

  -- ---- links

  link_fits_lem : (h : Chain) (l x y z : ℕ) → chain_fits b at h (suc l) l ≡ true → entry_of b at l ≡ Some (Node.Link x y z)
      → (item_fits b at h l x && (result_fits b at h l z && (eqb y 4294967295 || chain_fits b at h l y))) ≡ true
  unfolding chain_fits link_fits
  link_fits_lem h l x y z c e = ap (link_fits b at h (chain_fits b at h l) l) (sym e) ∙ (rw (eq-eqb l l refl, chain_fits) at c)

  pub record Link-facts (h : Chain) (l x y z : ℕ) : Type 0 where
    pub before : x < l
    pub item-fits : item_fits b at h l x ≡ true
    pub result-fits : result_fits b at h l z ≡ true
    pub rest : (y ≡ 4294967295 → ⊥) → (y < l) × (chain_fits b at h (suc y) y ≡ true)
    pub weighs-last : y ≡ 4294967295 → (own : ℕ → ℕ) → chain_weight b at n own h l ≡ weight b at own l + (weight b at own x + result_weight b at own h z)
    pub weighs-more : (y ≡ 4294967295 → ⊥) → (own : ℕ → ℕ)
        → chain_weight b at n own h l ≡ weight b at own l + (weight b at own x + (result_weight b at own h z + chain_weight b at n own h y))

  pub link-facts : (h : Chain) (l : ℕ) {x y z : ℕ} → l < n → chain_fits b at h (suc l) l ≡ true → entry_of b at l ≡ Some (Node.Link x y z)
      → Link-facts h l x y z
  unfolding pick
  link-facts h l {x} {y} {z} q c e =
      let f = link_fits_lem h l x y z c e in
      let f1 = and_left (item_fits b at h l x) _ f in
      let f2 = and_right (item_fits b at h l x) _ f in
      let f3 = and_left (result_fits b at h l z) _ f2 in
      let f4 = and_right (result_fits b at h l z) _ f2 in
      let k : Linked b at h l = record { item = x; next = y; result = z; says = e; item-fits = f1; result-fits = f3; rest-fits = f4 } in
      record {
        before = item-below b at h l x f1;
        item-fits = f1;
        result-fits = f3;
        rest = λ m. chain_first b at h l y (or-second _ _ f4 (ne_eqb _ _ m));
        weighs-last = λ m own.
            let t = ap (λ (t : Bool). weight b at own l + (weight b at own x + (result_weight b at own h z + pick t 0 (chain_weight b at n own h y))))
            (eq-eqb y 4294967295 m) in
            let u : result_weight b at own h z + 0 ≡ result_weight b at own h z = omega arith in
            chain-grows b at W.count n W.fit own h l k q ∙ t ∙ ap (λ (v : ℕ). weight b at own l + (weight b at own x + v)) u;
        weighs-more = λ m own.
            chain-grows b at W.count n W.fit own h l k q
            ∙ ap (λ (t : Bool). weight b at own l + (weight b at own x + (result_weight b at own h z + pick t 0 (chain_weight b at n own h y))))
            (ne_eqb y 4294967295 m);
      }

  pub pattern-item : (l x : ℕ) → pattern_fits b at l x ≡ true → (x < l) × (is_pattern (entry_of b at x) ≡ true)
  unfolding pattern_fits
  pattern-item l x e = (ltb-true x l (and_left (ltb x l) _ e), and_right (ltb x l) _ e)

  pub expression-item : (l x : ℕ) → expression_fits b at l x ≡ true → (x < l) × (is_expression (entry_of b at x) ≡ true)
  unfolding expression_fits
  expression-item l x e = (ltb-true x l (and_left (ltb x l) _ e), and_right (ltb x l) _ e)

-- an entry of a chain is a link
pub no-chain-expression : (b : List ℕ) (at : ℕ) (h : Chain) (l : ℕ) {f : Form} → chain_fits b at h (suc l) l ≡ true
    → entry_of b at l ≡ Some (Node.Expression f) → ⊥
unfolding chain_fits link_fits
no-chain-expression b at h l c e = not-both (ap (link_fits b at h (chain_fits b at h l) l) e) (rw (eq-eqb l l refl, chain_fits) at c)

pub no-chain-pattern : (b : List ℕ) (at : ℕ) (h : Chain) (l : ℕ) {f : Shape} → chain_fits b at h (suc l) l ≡ true → entry_of b at l ≡ Some (Node.Pattern f) → ⊥
unfolding chain_fits link_fits
no-chain-pattern b at h l c e = not-both (ap (link_fits b at h (chain_fits b at h l) l) e) (rw (eq-eqb l l refl, chain_fits) at c)

pub no-chain-bad : (b : List ℕ) (at : ℕ) (h : Chain) (l : ℕ) → chain_fits b at h (suc l) l ≡ true → entry_of b at l ≡ None → ⊥
unfolding chain_fits link_fits
no-chain-bad b at h l c e = not-both (ap (link_fits b at h (chain_fits b at h l) l) e) (rw (eq-eqb l l refl, chain_fits) at c)

has-link : (b : List ℕ) (at : ℕ) (h : Chain) (l : ℕ) → chain_fits b at h (suc l) l ≡ true → ((x y z : ℕ) → entry_of b at l ≡ Some (Node.Link x y z) → ⊥) → ⊥
has-link b at h l c f = go (entry_of b at l) refl
  where
    go : (e : Option Node) → entry_of b at l ≡ e → ⊥
    go (Some (Node.Expression g)) q = no-chain-expression b at h l c q
    go (Some (Node.Pattern g)) q = no-chain-pattern b at h l c q
    go (Some (Node.Link x y z)) q = f x y z q
    go None q = no-chain-bad b at h l c q

-- ---- what a walk reads, where it is asked

-- a link, at the head of a chain
module _ {b : List ℕ} {at n : ℕ} {h : Chain} {l : ℕ} {s : Scopes} (R : ReadyChain b at n h l s) where
  pub link-read : IsSome (entry_of b at l)
  link-read = go (entry_of b at l) refl
    where
      go : (e : Option Node) → entry_of b at l ≡ e → IsSome e
      go (Some m) q = refl
      go None q = absurd (no-chain-bad b at h l R.chained q)

  pub link-alone : {m : Node} → Some m ≡ entry_of b at l → ((x y z : ℕ) → m ≡ Node.Link x y z → ⊥) → ⊥
  link-alone q f = has-link b at h l R.chained (λ x y z e. f x y z (some-is (q ∙ e)))

-- a pattern, an expression
module _ {b : List ℕ} {at n k : ℕ} {s : Scopes} where
  pub pattern-read : Ready b at n is_pattern k s → IsSome (entry_of b at k)
  pattern-read R = sorted-pattern _ R.sorted

  pub pattern-alone : Ready b at n is_pattern k s → {m : Node} → Some m ≡ entry_of b at k → ((f : Shape) → m ≡ Node.Pattern f → ⊥) → ⊥
  pattern-alone R q f = has-pattern _ R.sorted (λ g e. f g (some-is (q ∙ e)))

  pub expression-read : Ready b at n is_expression k s → IsSome (entry_of b at k)
  expression-read R = sorted-expression _ R.sorted

  pub expression-alone : Ready b at n is_expression k s → {m : Node} → Some m ≡ entry_of b at k → ((f : Form) → m ≡ Node.Expression f → ⊥) → ⊥
  expression-alone R q f = has-expression _ R.sorted (λ g e. f g (some-is (q ∙ e)))
