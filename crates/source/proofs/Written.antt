-- The trees that are written: their nodes fit, each is used once, and they are read back. Assumes nothing.
use Prim.Native.Nat.{ℕ, ◌+◌, ◌*◌, ◌≤◌, ◌<◌}
use mathlib.Core.Path.{◌≡◌, refl, ap, sym, ◌∙◌}
use mathlib.Core.List.{List, [], ◌∷◌, ◌++◌}
use mathlib.Core.Bool.{true, false, ◌||◌}
use native.Mathlib.Omega.{arith}
use lib.ListN.{length, length-append}
use lib.Dec.{eqb}
use borrow.Author.Tests.{ne_eqb, lt-ltb, le-leb}
use Rattle.words.proofs.WideBits.{integer-back}
use Rattle.field.specs.declared.InfixOp.{InfixOp}
use Rattle.field.specs.Operators.{operator_number}
use Rattle.std.specs.Prelude.{Option, Some}
use Rattle.source.specs.declared.Node.{Node}
use Rattle.source.specs.declared.Form.{Form}
use Rattle.source.specs.declared.Shape.{Shape}
use Rattle.source.specs.declared.Chain.{Chain}
use Rattle.source.specs.Children.{Child, Children}
use Rattle.source.specs.Trees.{Pat, Expr, Items, Arms, Env}
use Rattle.marks.specs.Indices.{pick, same}
use Rattle.source.specs.Nodes.{infix_for, entry_for, entry_of, is_expression, is_pattern, expression_fits, pattern_fits}
use Rattle.source.specs.Nodes.{item_fits, result_fits, link_fits, chain_fits, child_fits, form_children, shape_children, children_fit}
use Rattle.source.specs.Uses.{result_uses, link_uses, chain_uses, child_uses, children_use}
use Rattle.source.specs.Record.{Tree, expression_of, pattern_of, link_of, tree, node_tree}
use Rattle.source.specs.Encoding.{root_of, link_to, pat_count, pats_count, expr_count, items_count, arms_count}
use Rattle.source.specs.Encoding.{pat_nodes, pats_nodes, expr_nodes, items_nodes, arms_nodes, All, PatFits, ExprFits, ItemsFit, ArmsFit}
use Rattle.field.proofs.Numbered.{operator-reads, operator-below}
use Rattle.marks.proofs.Indices.{pick_yes}
use Rattle.source.proofs.Nodes.{settled, expression-is, pattern-is, link-is}
use Rattle.source.proofs.Links.{chain-is, uses-is}
use Rattle.source.proofs.Spans.{Holds, holds-left, nodes-after, node-held, Span, span_none, span-join}
use Rattle.source.proofs.Spans.{span-owed, span-node, span-link, root_is, root_below, link-to, link-root}

-- ---- four words a node

joined_length : (xs ys : List ℕ) (m n : ℕ) → length xs ≡ 4 * m → length ys ≡ 4 * n → length (xs ++ ys) ≡ 4 * (m + n)
joined_length xs ys m n p q = simp length-append (omega arith)

pub pat-length : (s : ℕ) (p : Pat) → length (pat_nodes s p) ≡ 4 * pat_count p
unfolding pat_nodes pat_count
pat-length s Pat.unit_p = refl
pat-length s Pat.nil_p = refl
pat-length s (Pat.as_p p v) = joined_length (pat_nodes s p) _ (pat_count p) 1 (pat-length s p) refl
pat-length s (Pat.product_p p q) = simp length-append (omega (arith, pat-length s p, pat-length (s + pat_count p) q))
pat-length s (Pat.cons_p p q) = simp length-append (omega (arith, pat-length s p, pat-length (s + pat_count p) q))
pat-length s (Pat.variable_p v) = refl
pat-length s (Pat.constant_p z) = refl

pub pats-length : (s : ℕ) (ps : List Pat) → length (pats_nodes s ps) ≡ 4 * pats_count ps
unfolding pats_nodes pats_count
pats-length s [] = refl
pats-length s (p ∷ ps) = simp length-append (omega (arith, pats-length s ps, pat-length (s + pats_count ps) p))

mutual
  unfolding expr_nodes expr_count

  pub expr-length : (s : ℕ) (e : Expr) → length (expr_nodes s e) ≡ 4 * expr_count e
  expr-length s Expr.unit = refl
  expr-length s Expr.nil = refl
  expr-length s (Expr.sequence is) = simp length-append (omega (arith, items-length s is))
  expr-length s (Expr.product x y) = simp length-append (omega (arith, expr-length s x, expr-length (s + expr_count x) y))
  expr-length s (Expr.cons x y) = simp length-append (omega (arith, expr-length s x, expr-length (s + expr_count x) y))
  expr-length s (Expr.binary o x y) = simp length-append (omega (arith, expr-length s x, expr-length (s + expr_count x) y))
  expr-length s (Expr.negate x) = simp length-append (omega (arith, expr-length s x))
  expr-length s (Expr.application x y) = simp length-append (omega (arith, expr-length s x, expr-length (s + expr_count x) y))
  expr-length s (Expr.constant z) = refl
  expr-length s (Expr.variable v) = refl
  expr-length s (Expr.function ps x env) = simp length-append (omega (arith, pats-length s ps, expr-length (s + pats_count ps) x))
  expr-length s (Expr.intrinsic w n ps env) = refl
  expr-length s (Expr.letting p x y) =
      simp length-append (omega (arith, pat-length s p, expr-length (s + pat_count p) x, expr-length (s + pat_count p + expr_count x) y))
  expr-length s (Expr.matching x rs) = simp length-append (omega (arith, expr-length s x, arms-length (s + expr_count x) rs))

  pub items-length : (s : ℕ) (is : Items) → length (items_nodes s is) ≡ 4 * items_count is
  items-length s (Items.last x) = simp length-append (omega (arith, expr-length s x))
  items-length s (Items.◌then◌ x is) = simp length-append (omega (arith, items-length s is, expr-length (s + items_count is) x))

  pub arms-length : (s : ℕ) (rs : Arms) → length (arms_nodes s rs) ≡ 4 * arms_count rs
  arms-length s Arms.no_arm = refl
  arms-length s (Arms.arm p x rs) =
      simp length-append (omega (arith, arms-length s rs, pat-length (s + arms_count rs) p, expr-length (s + arms_count rs + pat_count p) x))

-- ---- patterns: n nodes from s on

pub record PatAt (b : List ℕ) (at names s n : ℕ) (p : Pat) : Type 0 where
  pub some : 1 ≤ n
  pub span : Span b at names s (s + n) (same (root_of s n))
  pub sort : is_pattern (entry_of b at (root_of s n)) ≡ true
  pub grows : (node_tree b at (root_of s n)).pattern ≡ p

module _ (b : List ℕ) (at names : ℕ) where
  -- the root of a pattern, over what it uses
  pat-node : (s n t : ℕ) {f : ℕ → ℕ} {c : Shape} {p : Pat} → s + n ≡ t → Span b at names s t f → entry_of b at t ≡ Some (Node.Pattern c)
      → children_fit b at names t (shape_children c) ≡ true → ((j : ℕ) → children_use b at t (shape_children c) j ≡ f j) → pattern_of (tree b at t) c ≡ p
      → PatAt b at names s (n + 1) p
  unfolding is_pattern
  pat-node s n t q x e c u w =
      let r : root_of s (n + 1) ≡ t = root_is s n ∙ q in
      let l : s + (n + 1) ≡ t + 1 = omega arith in
      record {
        some = omega arith;
        span = rw (r, l) (span-node b at names (omega arith) x e c u);
        sort = rw r (ap is_pattern e);
        grows = rw r (pattern-is b at t e ∙ w);
      }

  module _ {s n : ℕ} {p : Pat} (x : PatAt b at names s n p) (t : ℕ) (l : s + n ≤ t) where
    pat-early : root_of s n < t
    pat-early = omega (arith, root_below s n x.some)

    pub pat-fits : pattern_fits b at t (root_of s n) ≡ true
    unfolding pattern_fits
    pat-fits = rw (lt-ltb (root_of s n) t pat-early, x.sort)

    pub pat-below : (tree b at t (root_of s n)).pattern ≡ p
    pat-below = ap (λ (i : Tree). i.pattern) (settled b at t (root_of s n) pat-early) ∙ x.grows

  pat-two : (s m n : ℕ) {p q z : Pat} (c : Shape) → PatAt b at names s m p → PatAt b at names (s + m) n q → entry_of b at (s + m + n) ≡ Some (Node.Pattern c)
      → shape_children c ≡ record { first = Child.Pattern (root_of s m); second = Child.Pattern (root_of (s + m) n); third = Child.Nothing }
      → pattern_of (tree b at (s + m + n)) c ≡ z → PatAt b at names s (m + n + 1) z
  unfolding children_fit child_fits children_use child_uses
  pat-two s m n c x y e k w = pat-node s (m + n) (s + m + n) (omega arith) (span-join b at names (omega arith) (omega arith) x.span y.span) e
      (ap (children_fit b at names (s + m + n)) k ∙ rw (pat-fits x (s + m + n) (omega arith), pat-fits y (s + m + n) (omega arith)))
      (λ j. ap (λ (i : Children). children_use b at (s + m + n) i j) k ∙ omega arith)
      w

  pub pat-at : (p : Pat) (s : ℕ) → PatFits names p → Holds b (at + 4 * s) (pat_nodes s p) → PatAt b at names s (pat_count p) p
  unfolding pat_nodes pat_count entry_for pick children_fit child_fits children_use child_uses pattern_of
  pat-at Pat.unit_p s f h = pat-node s 0 s (omega arith) (span_none b at names s) (node-held b at s h) refl (λ j. refl) refl
  pat-at Pat.nil_p s f h = pat-node s 0 s (omega arith) (span_none b at names s) (node-held b at s h) refl (λ j. refl) refl
  pat-at (Pat.as_p p v) s f h =
      let m = pat_count p in
      let x = pat-at p s f.0 (holds-left b (at + 4 * s) (pat_nodes s p) _ h) in
      pat-node s m (s + m) refl x.span (node-held b at (s + m) (nodes-after b at s m (pat_nodes s p) _ (pat-length s p) h))
      (rw (pat-fits x (s + m) (omega arith), lt-ltb v names f.1))
      (λ j. omega arith)
      (ap (λ (i : Pat). Pat.as_p i v) (pat-below x (s + m) (omega arith)))
  pat-at (Pat.product_p p q) s f h =
      let m = pat_count p in
      let n = pat_count q in
      let h1 = nodes-after b at s m (pat_nodes s p) _ (pat-length s p) h in
      let x = pat-at p s f.0 (holds-left b (at + 4 * s) (pat_nodes s p) _ h) in
      let y = pat-at q (s + m) f.1 (holds-left b (at + 4 * (s + m)) (pat_nodes (s + m) q) _ h1) in
      pat-two s m n (Shape.Product (root_of s m) (root_of (s + m) n)) x y
      (node-held b at (s + m + n) (nodes-after b at (s + m) n (pat_nodes (s + m) q) _ (pat-length (s + m) q) h1)) refl
      (rw (pat-below x (s + m + n) (omega arith), pat-below y (s + m + n) (omega arith)))
  pat-at (Pat.cons_p p q) s f h =
      let m = pat_count p in
      let n = pat_count q in
      let h1 = nodes-after b at s m (pat_nodes s p) _ (pat-length s p) h in
      let x = pat-at p s f.0 (holds-left b (at + 4 * s) (pat_nodes s p) _ h) in
      let y = pat-at q (s + m) f.1 (holds-left b (at + 4 * (s + m)) (pat_nodes (s + m) q) _ h1) in
      pat-two s m n (Shape.Cons (root_of s m) (root_of (s + m) n)) x y
      (node-held b at (s + m + n) (nodes-after b at (s + m) n (pat_nodes (s + m) q) _ (pat-length (s + m) q) h1)) refl
      (rw (pat-below x (s + m + n) (omega arith), pat-below y (s + m + n) (omega arith)))
  pat-at (Pat.variable_p v) s f h = pat-node s 0 s (omega arith) (span_none b at names s) (node-held b at s h) (rw (lt-ltb v names f)) (λ j. refl) refl
  pat-at (Pat.constant_p z) s f h =
      pat-node s 0 s (omega arith) (span_none b at names s) (node-held b at s h) refl (λ j. refl) (ap Pat.constant_p (integer-back z f))

-- ---- chains: n nodes from s on, whose last is the first link

pub record ChainAt (b : List ℕ) (at names : ℕ) (h : Chain) (s n : ℕ) : Type 0 where
  pub span : (k : ℕ) → s + n ≤ k → Span b at names s (s + n) (λ j. pick (eqb (link_to s n) 4294967295) 0 (chain_uses b at h k (link_to s n) j))
  pub good : (k : ℕ) → s + n ≤ k → (eqb (link_to s n) 4294967295 || chain_fits b at h k (link_to s n)) ≡ true

module _ (b : List ℕ) (at names : ℕ) (h : Chain) where
  chain-none : (s : ℕ) → ChainAt b at names h s 0
  unfolding link_to pick
  chain-none s = let e : s + 0 ≡ s = omega arith in record { span = λ k l. rw e (span_none b at names s); good = λ k l. refl }

  -- one link more, at t: after the rest of the chain, its item and its arm result
  chain_more : (s n m t item result : ℕ) {g : ℕ → ℕ} → s + n ≤ t → s + m ≡ t → t < 2048 → ChainAt b at names h s n → Span b at names (s + n) t g
      → ((j : ℕ) → g j ≡ same item j + result_uses h result j) → entry_of b at t ≡ Some (Node.Link item (link_to s n) result) → item_fits b at h t item ≡ true
      → result_fits b at h t result ≡ true → ChainAt b at names h s (m + 1)
  unfolding pick children_fit child_fits children_use child_uses link_fits link_uses
  chain_more s n m t item result {g} p q few x y u e c d =
      let r : link_to s (m + 1) ≡ t = link-to s m ∙ q in
      let l : s + (m + 1) ≡ t + 1 = omega arith in
      let f : eqb t 4294967295 ≡ false = ne_eqb t 4294967295 (λ w. omega arith) in
      record {
        span = λ k a. rw (r, l, f) (span-owed b at names (chain_uses b at h k t)
            (λ j. let v : chain_uses b at h k t j
            ≡ same t j + (same item j + (result_uses h result j + pick (eqb (link_to s n) 4294967295) 0 (chain_uses b at h t (link_to s n) j))) =
            uses-is b at h k t j (omega arith) ∙ ap (λ (i : Option Node). same t j + link_uses h (λ z. chain_uses b at h t z j) i j) e in omega (arith, u j))
            (span-link b at names (omega arith) (span-join b at names (omega arith) p (x.span t p) y) e refl (λ j. refl)));
        good = λ k a. rw (r, f) (chain-is b at h k t (omega arith) ∙ ap (link_fits b at h (chain_fits b at h t) t) e ∙ rw (c, d, x.good t p));
      }

  -- what the owner of a chain uses and finds
  module _ (s n k : ℕ) (some : 1 ≤ n) (few : s + n ≤ 2048) (l : s + n ≤ k) (x : ChainAt b at names h s n) where
    is-link : eqb (link_to s n) 4294967295 ≡ false
    is-link = ne_eqb (link_to s n) 4294967295 (λ e. omega (arith, link-root s n some, root_below s n some))

    chain_fits_lem : chain_fits b at h k (root_of s n) ≡ true
    chain_fits_lem = rw (is-link, link-root s n some) at (x.good k l)

    chain-span : Span b at names s (s + n) (chain_uses b at h k (root_of s n))
    unfolding pick
    chain-span = rw (is-link, link-root s n some) at (x.span k l)

-- ---- parameters

pub record PatsAt (b : List ℕ) (at names s n : ℕ) (ps : List Pat) : Type 0 where
  pub chain : ChainAt b at names Chain.Parameters s n
  pub grows : (k : ℕ) → s + n ≤ k → elim (eqb (link_to s n) 4294967295) [ true ↦ [] | false ↦ (tree b at k (link_to s n)).parameters ] ≡ ps

cons-is : {p q : Pat} {ps qs : List Pat} → p ≡ q → ps ≡ qs → p ∷ ps ≡ q ∷ qs
cons-is e f = cc

module _ (b : List ℕ) (at names : ℕ) where
  pats-more : (s n m : ℕ) {p : Pat} {ps : List Pat} → s + n + m < 2048 → PatsAt b at names s n ps → PatAt b at names (s + n) m p
      → entry_of b at (s + n + m) ≡ Some (Node.Link (root_of (s + n) m) (link_to s n) 0) → PatsAt b at names s (n + m + 1) (p ∷ ps)
  unfolding item_fits result_fits result_uses link_of
  pats-more s n m few y x e =
      let t = s + n + m in
      let q : s + (n + m) ≡ t = omega arith in
      let r : link_to s (n + m + 1) ≡ t = link-to s (n + m) ∙ q in
      let l : s + n ≤ t = omega arith in
      let w : s + n + m ≤ t = omega arith in
      record {
        chain =
            chain_more b at names Chain.Parameters s n (n + m) t (root_of (s + n) m) 0 l q few y.chain x.span (λ j. omega arith) e
            (pat-fits b at names x t w) refl;
        grows = λ k a. rw (r, ne_eqb t 4294967295 (λ z. omega arith), r)
            (ap (λ (i : Tree). i.parameters) (settled b at k t (omega arith) ∙ link-is b at t e)
            ∙ cons-is (pat-below b at names x t w) (y.grows t l));
      }

  pub pats-at : (ps : List Pat) (s : ℕ) → All (PatFits names) ps → s + pats_count ps ≤ 2048 → Holds b (at + 4 * s) (pats_nodes s ps)
      → PatsAt b at names s (pats_count ps) ps
  unfolding pats_nodes pats_count link_to entry_for pick
  pats-at [] s f few h = record { chain = chain-none b at names Chain.Parameters s; grows = λ k l. refl }
  pats-at (p ∷ ps) s f few h =
      let n = pats_count ps in
      let m = pat_count p in
      let h1 = nodes-after b at s n (pats_nodes s ps) _ (pats-length s ps) h in
      pats-more s n m (omega arith)
      (pats-at ps s f.1 (omega arith) (holds-left b (at + 4 * s) (pats_nodes s ps) _ h))
      (pat-at b at names p (s + n) f.0 (holds-left b (at + 4 * (s + n)) (pat_nodes (s + n) p) _ h1))
      (node-held b at (s + n + m) (nodes-after b at (s + n) m (pat_nodes (s + n) p) _ (pat-length (s + n) p) h1))

-- ---- expressions, items, arms

pub record ExprAt (b : List ℕ) (at names s n : ℕ) (x : Expr) : Type 0 where
  pub some : 1 ≤ n
  pub span : Span b at names s (s + n) (same (root_of s n))
  pub sort : is_expression (entry_of b at (root_of s n)) ≡ true
  pub grows : (node_tree b at (root_of s n)).expression ≡ x

pub record ItemsAt (b : List ℕ) (at names s n : ℕ) (is : Items) : Type 0 where
  pub some : 1 ≤ n
  pub chain : ChainAt b at names Chain.Items s n
  pub grows : (node_tree b at (root_of s n)).items ≡ is

pub record ArmsAt (b : List ℕ) (at names s n : ℕ) (rs : Arms) : Type 0 where
  pub chain : ChainAt b at names Chain.Arms s n
  pub grows : (k : ℕ) → s + n ≤ k → elim (eqb (link_to s n) 4294967295) [ true ↦ Arms.no_arm | false ↦ (tree b at k (link_to s n)).arms ] ≡ rs

arm_is : {p q : Pat} {x y : Expr} {rs ts : Arms} → p ≡ q → x ≡ y → rs ≡ ts → Arms.arm p x rs ≡ Arms.arm q y ts
arm_is e f g = cc

then_is : {x y : Expr} {is js : Items} → x ≡ y → is ≡ js → Items.◌then◌ x is ≡ Items.◌then◌ y js
then_is e f = cc

module _ (b : List ℕ) (at names : ℕ) where
  -- the root of an expression, over what it uses
  expr-node : (s n t : ℕ) {f : ℕ → ℕ} {c : Form} {z : Expr} → s + n ≡ t → Span b at names s t f → entry_of b at t ≡ Some (Node.Expression c)
      → children_fit b at names t (form_children c) ≡ true → ((j : ℕ) → children_use b at t (form_children c) j ≡ f j) → expression_of (tree b at t) c ≡ z
      → ExprAt b at names s (n + 1) z
  unfolding is_expression
  expr-node s n t q x e c u w =
      let r : root_of s (n + 1) ≡ t = root_is s n ∙ q in
      let l : s + (n + 1) ≡ t + 1 = omega arith in
      record {
        some = omega arith;
        span = rw (r, l) (span-node b at names (omega arith) x e c u);
        sort = rw r (ap is_expression e);
        grows = rw r (expression-is b at t e ∙ w);
      }

  module _ {s n : ℕ} {z : Expr} (x : ExprAt b at names s n z) (t : ℕ) (l : s + n ≤ t) where
    expr-early : root_of s n < t
    expr-early = omega (arith, root_below s n x.some)

    pub expr-fits : expression_fits b at t (root_of s n) ≡ true
    unfolding expression_fits
    expr-fits = rw (lt-ltb (root_of s n) t expr-early, x.sort)

    pub expr-below : (tree b at t (root_of s n)).expression ≡ z
    expr-below = ap (λ (i : Tree). i.expression) (settled b at t (root_of s n) expr-early) ∙ x.grows

  -- two expressions under a node
  expr-two : (s m n : ℕ) {x y z : Expr} (c : Form) → ExprAt b at names s m x → ExprAt b at names (s + m) n y
      → entry_of b at (s + m + n) ≡ Some (Node.Expression c)
      → form_children c ≡ record { first = Child.Expression (root_of s m); second = Child.Expression (root_of (s + m) n); third = Child.Nothing }
      → expression_of (tree b at (s + m + n)) c ≡ z → ExprAt b at names s (m + n + 1) z
  unfolding children_fit child_fits children_use child_uses
  expr-two s m n c x y e k w = expr-node s (m + n) (s + m + n) (omega arith) (span-join b at names (omega arith) (omega arith) x.span y.span) e
      (ap (children_fit b at names (s + m + n)) k ∙ rw (expr-fits x (s + m + n) (omega arith), expr-fits y (s + m + n) (omega arith)))
      (λ j. ap (λ (i : Children). children_use b at (s + m + n) i j) k ∙ omega arith)
      w

  items-last : (s m : ℕ) {x : Expr} → s + m < 2048 → ExprAt b at names s m x → entry_of b at (s + m) ≡ Some (Node.Link (root_of s m) 4294967295 0)
      → ItemsAt b at names s (m + 1) (Items.last x)
  unfolding item_fits result_fits result_uses link_of link_to
  items-last s m few x e =
      let t = s + m in
      let z : s + 0 ≡ s = omega arith in
      let w : s + m ≤ t = omega arith in
      record {
        some = omega arith;
        chain =
            chain_more b at names Chain.Items s 0 m t (root_of s m) 0 {g = same (root_of s m)} (omega arith) refl few (chain-none b at names Chain.Items s)
            (rw z x.span) (λ j. omega arith) e (expr-fits x t w) refl;
        grows = rw (root_is s m) (ap (λ (i : Tree). i.items) (link-is b at t e) ∙ ap Items.last (expr-below x t w));
      }

  items-then : (s n m : ℕ) {x : Expr} {is : Items} → s + n + m < 2048 → ItemsAt b at names s n is → ExprAt b at names (s + n) m x
      → entry_of b at (s + n + m) ≡ Some (Node.Link (root_of (s + n) m) (link_to s n) 0) → ItemsAt b at names s (n + m + 1) (Items.◌then◌ x is)
  unfolding item_fits result_fits result_uses link_of
  items-then s n m few y x e =
      let t = s + n + m in
      let q : s + (n + m) ≡ t = omega arith in
      let l : s + n ≤ t = omega arith in
      let w : s + n + m ≤ t = omega arith in
      let r = root_of s n in
      let early : r < t = omega (arith, root_below s n y.some) in
      let next : link_to s n ≡ r = link-root s n y.some in
      let v : entry_of b at t ≡ Some (Node.Link (root_of (s + n) m) r 0) = e ∙ ap (λ (i : ℕ). Some (Node.Link (root_of (s + n) m) i 0)) next in
      record {
        some = omega arith;
        chain = chain_more b at names Chain.Items s n (n + m) t (root_of (s + n) m) 0 l q few y.chain x.span (λ j. omega arith) e (expr-fits x t w) refl;
        grows = rw (root_is s (n + m) ∙ q)
            (ap (λ (i : Tree). i.items) (link-is b at t v)
            ∙ rw (ne_eqb r 4294967295 (λ z. omega arith)) (then_is (expr-below x t w) (ap (λ (i : Tree). i.items) (settled b at t r early) ∙ y.grows)));
      }

  arms_none : (s : ℕ) → ArmsAt b at names s 0 Arms.no_arm
  unfolding link_to
  arms_none s = record { chain = chain-none b at names Chain.Arms s; grows = λ k l. refl }

  arms_more : (s n m o : ℕ) {p : Pat} {x : Expr} {rs : Arms} → s + n + m + o < 2048 → ArmsAt b at names s n rs → PatAt b at names (s + n) m p
      → ExprAt b at names (s + n + m) o x → entry_of b at (s + n + m + o) ≡ Some (Node.Link (root_of (s + n) m) (link_to s n) (root_of (s + n + m) o))
      → ArmsAt b at names s (n + m + o + 1) (Arms.arm p x rs)
  unfolding item_fits result_fits result_uses link_of
  arms_more s n m o few y p x e =
      let t = s + n + m + o in
      let q : s + (n + m + o) ≡ t = omega arith in
      let r : link_to s (n + m + o + 1) ≡ t = link-to s (n + m + o) ∙ q in
      let l : s + n ≤ t = omega arith in
      let w : s + n + m ≤ t = omega arith in
      let v : s + n + m + o ≤ t = omega arith in
      record {
        chain =
            chain_more b at names Chain.Arms s n (n + m + o) t (root_of (s + n) m) (root_of (s + n + m) o) l q few y.chain
            (span-join b at names (omega arith) (omega arith) p.span x.span) (λ j. refl) e (pat-fits b at names p t w) (expr-fits x t v);
        grows = λ k a. rw (r, ne_eqb t 4294967295 (λ z. omega arith), r)
            (ap (λ (i : Tree). i.arms) (settled b at k t (omega arith) ∙ link-is b at t e)
            ∙ arm_is (pat-below b at names p t w) (expr-below x t v) (y.grows t l));
      }

-- ---- every expression

operator-read : (o : InfixOp) (x y : ℕ) → infix_for (operator_number o) x y ≡ Some (Node.Expression (Form.Infix o x y))
unfolding infix_for
operator-read o x y =
    sym (pick_yes _ _ (le-leb _ _ (omega (arith, operator-below o)))
    (ap (λ (p : InfixOp). Some (Node.Expression (Form.Infix p x y))) (sym (operator-reads o))))

pats-some : (ps : List Pat) → 1 ≤ length ps → 1 ≤ pats_count ps
unfolding pats_count
pats-some [] h = absurd (omega arith)
pats-some (p ∷ ps) h = omega arith

module _ (b : List ℕ) (at names : ℕ) where
  -- a function over its parameters and body, a match over its value and arms, a sequence over its items, a let over its three parts
  expr-function : (s m n : ℕ) {ps : List Pat} {x : Expr} {env : Env} → 1 ≤ m → s + m ≤ 2048 → env ≡ Env.empty → PatsAt b at names s m ps
      → ExprAt b at names (s + m) n x → entry_of b at (s + m + n) ≡ Some (Node.Expression (Form.Function (root_of s m) (root_of (s + m) n)))
      → ExprAt b at names s (m + n + 1) (Expr.function ps x env)
  unfolding children_fit child_fits children_use child_uses expression_of
  expr-function s m n {ps} {x} {env} some few none y z e =
      let t = s + m + n in
      let l : s + m ≤ t = omega arith in
      let w : s + m + n ≤ t = omega arith in
      let r = root_of s m in
      let v : (tree b at t r).parameters ≡ ps = rw (is-link b at names Chain.Parameters s m t some few l y.chain, link-root s m some) at (y.grows t l) in
      expr-node b at names s (m + n) t (omega arith)
      (span-join b at names (omega arith) (omega arith) (chain-span b at names Chain.Parameters s m t some few l y.chain) z.span) e
      (rw (chain_fits_lem b at names Chain.Parameters s m t some few l y.chain, expr-fits b at names z t w))
      (λ j. omega arith)
      (rw (v, expr-below b at names z t w, none))

  expr-match : (s m n : ℕ) {x : Expr} {rs : Arms} → 1 ≤ n → s + m + n ≤ 2048 → ExprAt b at names s m x → ArmsAt b at names (s + m) n rs
      → entry_of b at (s + m + n) ≡ Some (Node.Expression (Form.Match (root_of s m) (root_of (s + m) n))) → ExprAt b at names s (m + n + 1) (Expr.matching x rs)
  unfolding children_fit child_fits children_use child_uses expression_of
  expr-match s m n {x} {rs} some few z y e =
      let t = s + m + n in
      let l : s + m ≤ t = omega arith in
      let w : s + m + n ≤ t = omega arith in
      let r = root_of (s + m) n in
      let v : (tree b at t r).arms ≡ rs = rw (is-link b at names Chain.Arms (s + m) n t some few w y.chain, link-root (s + m) n some) at (y.grows t w) in
      expr-node b at names s (m + n) t (omega arith)
      (span-join b at names (omega arith) (omega arith) z.span (chain-span b at names Chain.Arms (s + m) n t some few w y.chain)) e
      (rw (expr-fits b at names z t l, chain_fits_lem b at names Chain.Arms (s + m) n t some few w y.chain))
      (λ j. omega arith)
      (rw (expr-below b at names z t l, v))

  expr-sequence : (s m : ℕ) {is : Items} → s + m ≤ 2048 → ItemsAt b at names s m is
      → entry_of b at (s + m) ≡ Some (Node.Expression (Form.Sequence (root_of s m)))
      → ExprAt b at names s (m + 1) (Expr.sequence is)
  unfolding children_fit child_fits children_use child_uses expression_of
  expr-sequence s m few y e =
      let t = s + m in
      let l : s + m ≤ t = omega arith in
      let r = root_of s m in
      let early : r < t = root_below s m y.some in
      expr-node b at names s m t refl (chain-span b at names Chain.Items s m t y.some few l y.chain) e
      (rw (chain_fits_lem b at names Chain.Items s m t y.some few l y.chain))
      (λ j. omega arith)
      (ap Expr.sequence (ap (λ (i : Tree). i.items) (settled b at t r early) ∙ y.grows))

  expr-let : (s m n o : ℕ) {p : Pat} {x y : Expr} → PatAt b at names s m p → ExprAt b at names (s + m) n x → ExprAt b at names (s + m + n) o y
      → entry_of b at (s + m + n + o) ≡ Some (Node.Expression (Form.Let (root_of s m) (root_of (s + m) n) (root_of (s + m + n) o)))
      → ExprAt b at names s (m + n + o + 1) (Expr.letting p x y)
  unfolding children_fit child_fits children_use child_uses expression_of
  expr-let s m n o p x y e =
      let t = s + m + n + o in
      let l : s + m ≤ t = omega arith in
      let w : s + m + n ≤ t = omega arith in
      let v : s + m + n + o ≤ t = omega arith in
      expr-node b at names s (m + n + o) t (omega arith)
      (span-join b at names (omega arith) (omega arith) p.span (span-join b at names (omega arith) (omega arith) x.span y.span)) e
      (rw (pat-fits b at names p t l, expr-fits b at names x t w, expr-fits b at names y t v))
      (λ j. omega arith)
      (rw (pat-below b at names p t l, expr-below b at names x t w, expr-below b at names y t v))

  mutual
    unfolding expr_nodes expr_count entry_for pick children_fit child_fits children_use child_uses expression_of

    pub expr-at : (x : Expr) (s : ℕ) → ExprFits names x → s + expr_count x ≤ 2048 → Holds b (at + 4 * s) (expr_nodes s x) → ExprAt b at names s (expr_count x) x
    expr-at Expr.unit s f few h = expr-node b at names s 0 s (omega arith) (span_none b at names s) (node-held b at s h) refl (λ j. refl) refl
    expr-at Expr.nil s f few h = expr-node b at names s 0 s (omega arith) (span_none b at names s) (node-held b at s h) refl (λ j. refl) refl
    expr-at (Expr.sequence is) s f few h =
        let m = items_count is in
        expr-sequence s m (omega arith) (items_at is s f (omega arith) (holds-left b (at + 4 * s) (items_nodes s is) _ h))
        (node-held b at (s + m) (nodes-after b at s m (items_nodes s is) _ (items-length s is) h))
    expr-at (Expr.product x y) s f few h =
        let m = expr_count x in
        let n = expr_count y in
        let h1 = nodes-after b at s m (expr_nodes s x) _ (expr-length s x) h in
        let u = expr-at x s f.0 (omega arith) (holds-left b (at + 4 * s) (expr_nodes s x) _ h) in
        let v = expr-at y (s + m) f.1 (omega arith) (holds-left b (at + 4 * (s + m)) (expr_nodes (s + m) y) _ h1) in
        expr-two b at names s m n (Form.Product (root_of s m) (root_of (s + m) n)) u v
        (node-held b at (s + m + n) (nodes-after b at (s + m) n (expr_nodes (s + m) y) _ (expr-length (s + m) y) h1)) refl
        (rw (expr-below b at names u (s + m + n) (omega arith), expr-below b at names v (s + m + n) (omega arith)))
    expr-at (Expr.cons x y) s f few h =
        let m = expr_count x in
        let n = expr_count y in
        let h1 = nodes-after b at s m (expr_nodes s x) _ (expr-length s x) h in
        let u = expr-at x s f.0 (omega arith) (holds-left b (at + 4 * s) (expr_nodes s x) _ h) in
        let v = expr-at y (s + m) f.1 (omega arith) (holds-left b (at + 4 * (s + m)) (expr_nodes (s + m) y) _ h1) in
        expr-two b at names s m n (Form.Cons (root_of s m) (root_of (s + m) n)) u v
        (node-held b at (s + m + n) (nodes-after b at (s + m) n (expr_nodes (s + m) y) _ (expr-length (s + m) y) h1)) refl
        (rw (expr-below b at names u (s + m + n) (omega arith), expr-below b at names v (s + m + n) (omega arith)))
    expr-at (Expr.binary o x y) s f few h =
        let m = expr_count x in
        let n = expr_count y in
        let h1 = nodes-after b at s m (expr_nodes s x) _ (expr-length s x) h in
        let u = expr-at x s f.0 (omega arith) (holds-left b (at + 4 * s) (expr_nodes s x) _ h) in
        let v = expr-at y (s + m) f.1 (omega arith) (holds-left b (at + 4 * (s + m)) (expr_nodes (s + m) y) _ h1) in
        expr-two b at names s m n (Form.Infix o (root_of s m) (root_of (s + m) n)) u v
        (node-held b at (s + m + n) (nodes-after b at (s + m) n (expr_nodes (s + m) y) _ (expr-length (s + m) y) h1)
        ∙ operator-read o (root_of s m) (root_of (s + m) n)) refl
        (rw (expr-below b at names u (s + m + n) (omega arith), expr-below b at names v (s + m + n) (omega arith)))
    expr-at (Expr.negate x) s f few h =
        let m = expr_count x in
        let u = expr-at x s f (omega arith) (holds-left b (at + 4 * s) (expr_nodes s x) _ h) in
        expr-node b at names s m (s + m) refl u.span (node-held b at (s + m) (nodes-after b at s m (expr_nodes s x) _ (expr-length s x) h))
        (rw (expr-fits b at names u (s + m) (omega arith)))
        (λ j. omega arith)
        (ap Expr.negate (expr-below b at names u (s + m) (omega arith)))
    expr-at (Expr.application x y) s f few h =
        let m = expr_count x in
        let n = expr_count y in
        let h1 = nodes-after b at s m (expr_nodes s x) _ (expr-length s x) h in
        let u = expr-at x s f.0 (omega arith) (holds-left b (at + 4 * s) (expr_nodes s x) _ h) in
        let v = expr-at y (s + m) f.1 (omega arith) (holds-left b (at + 4 * (s + m)) (expr_nodes (s + m) y) _ h1) in
        expr-two b at names s m n (Form.Application (root_of s m) (root_of (s + m) n)) u v
        (node-held b at (s + m + n) (nodes-after b at (s + m) n (expr_nodes (s + m) y) _ (expr-length (s + m) y) h1)) refl
        (rw (expr-below b at names u (s + m + n) (omega arith), expr-below b at names v (s + m + n) (omega arith)))
    expr-at (Expr.constant z) s f few h =
        expr-node b at names s 0 s (omega arith) (span_none b at names s) (node-held b at s h) refl (λ j. refl) (ap Expr.constant (integer-back z f))
    expr-at (Expr.variable v) s f few h =
        expr-node b at names s 0 s (omega arith) (span_none b at names s) (node-held b at s h) (rw (lt-ltb v names f)) (λ j. refl) refl
    expr-at (Expr.function ps x env) s f few h =
        let m = pats_count ps in
        let n = expr_count x in
        let h1 = nodes-after b at s m (pats_nodes s ps) _ (pats-length s ps) h in
        expr-function s m n (pats-some ps f.0.0) (omega arith) f.1.1
        (pats-at b at names ps s f.0.1 (omega arith) (holds-left b (at + 4 * s) (pats_nodes s ps) _ h))
        (expr-at x (s + m) f.1.0 (omega arith) (holds-left b (at + 4 * (s + m)) (expr_nodes (s + m) x) _ h1))
        (node-held b at (s + m + n) (nodes-after b at (s + m) n (expr_nodes (s + m) x) _ (expr-length (s + m) x) h1))
    expr-at (Expr.intrinsic w n ps env) s f few h = absurd f
    expr-at (Expr.letting p x y) s f few h =
        let m = pat_count p in
        let n = expr_count x in
        let o = expr_count y in
        let h1 = nodes-after b at s m (pat_nodes s p) _ (pat-length s p) h in
        let h2 = nodes-after b at (s + m) n (expr_nodes (s + m) x) _ (expr-length (s + m) x) h1 in
        expr-let s m n o
        (pat-at b at names p s f.0 (holds-left b (at + 4 * s) (pat_nodes s p) _ h))
        (expr-at x (s + m) f.1.0 (omega arith) (holds-left b (at + 4 * (s + m)) (expr_nodes (s + m) x) _ h1))
        (expr-at y (s + m + n) f.1.1 (omega arith) (holds-left b (at + 4 * (s + m + n)) (expr_nodes (s + m + n) y) _ h2))
        (node-held b at (s + m + n + o) (nodes-after b at (s + m + n) o (expr_nodes (s + m + n) y) _ (expr-length (s + m + n) y) h2))
    expr-at (Expr.matching x rs) s f few h =
        let m = expr_count x in
        let n = arms_count rs in
        let h1 = nodes-after b at s m (expr_nodes s x) _ (expr-length s x) h in
        expr-match s m n f.1.0 (omega arith)
        (expr-at x s f.0 (omega arith) (holds-left b (at + 4 * s) (expr_nodes s x) _ h))
        (arms_at rs (s + m) f.1.1 (omega arith) (holds-left b (at + 4 * (s + m)) (arms_nodes (s + m) rs) _ h1))
        (node-held b at (s + m + n) (nodes-after b at (s + m) n (arms_nodes (s + m) rs) _ (arms-length (s + m) rs) h1))

    items_at : (is : Items) (s : ℕ) → ItemsFit names is → s + items_count is ≤ 2048 → Holds b (at + 4 * s) (items_nodes s is)
        → ItemsAt b at names s (items_count is) is
    items_at (Items.last x) s f few h =
        let m = expr_count x in
        items-last b at names s m (omega arith)
        (expr-at x s f (omega arith) (holds-left b (at + 4 * s) (expr_nodes s x) _ h))
        (node-held b at (s + m) (nodes-after b at s m (expr_nodes s x) _ (expr-length s x) h))
    items_at (Items.◌then◌ x is) s f few h =
        let n = items_count is in
        let m = expr_count x in
        let h1 = nodes-after b at s n (items_nodes s is) _ (items-length s is) h in
        items-then b at names s n m (omega arith)
        (items_at is s f.1 (omega arith) (holds-left b (at + 4 * s) (items_nodes s is) _ h))
        (expr-at x (s + n) f.0 (omega arith) (holds-left b (at + 4 * (s + n)) (expr_nodes (s + n) x) _ h1))
        (node-held b at (s + n + m) (nodes-after b at (s + n) m (expr_nodes (s + n) x) _ (expr-length (s + n) x) h1))

    arms_at : (rs : Arms) (s : ℕ) → ArmsFit names rs → s + arms_count rs ≤ 2048 → Holds b (at + 4 * s) (arms_nodes s rs)
        → ArmsAt b at names s (arms_count rs) rs
    arms_at Arms.no_arm s f few h = arms_none b at names s
    arms_at (Arms.arm p x rs) s f few h =
        let n = arms_count rs in
        let m = pat_count p in
        let o = expr_count x in
        let h1 = nodes-after b at s n (arms_nodes s rs) _ (arms-length s rs) h in
        let h2 = nodes-after b at (s + n) m (pat_nodes (s + n) p) _ (pat-length (s + n) p) h1 in
        arms_more b at names s n m o (omega arith)
        (arms_at rs s f.1.1 (omega arith) (holds-left b (at + 4 * s) (arms_nodes s rs) _ h))
        (pat-at b at names p (s + n) f.0 (holds-left b (at + 4 * (s + n)) (pat_nodes (s + n) p) _ h1))
        (expr-at x (s + n + m) f.1.0 (omega arith) (holds-left b (at + 4 * (s + n + m)) (expr_nodes (s + n + m) x) _ h2))
        (node-held b at (s + n + m + o) (nodes-after b at (s + n + m) o (expr_nodes (s + n + m) x) _ (expr-length (s + n + m) x) h2))
