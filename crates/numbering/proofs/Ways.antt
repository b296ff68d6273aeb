-- The ways of the walk over an expression. Assumes nothing.
use Prim.Native.Nat.{ℕ, ◌+◌, ◌≤◌, ◌<◌}
use mathlib.Core.Path.{◌≡◌, refl, ap, ◌∙◌}
use mathlib.Core.List.{List}
use mathlib.Core.Bool.{true}
use mathlib.Core.Logic.{◌⊎◌, inl, inr}
use native.Mathlib.Omega.{arith}
use lib.ListN.{length, get_or, set}
use lib.IntN.{ℤ}
use Rattle.field.specs.declared.InfixOp.{InfixOp}
use Rattle.std.specs.Prelude.{Option as Maybe, Some}
use Rattle.source.specs.declared.Node.{Node}
use Rattle.source.specs.declared.Form.{Form}
use Rattle.source.specs.declared.Chain.{Chain}
use Rattle.source.specs.Children.{Child}
use Rattle.source.specs.Trees.{Pat, Expr, Items, Arms, Env}
use Rattle.source.specs.Nodes.{entry_of, children_of, three, is_expression, is_pattern, item_fits, result_fits}
use Rattle.source.specs.Record.{Tree, tree, expression_of}
use Rattle.numbering.specs.Numbering.{Ids, Names, Naming, ◌>>=◌, return, number_expr_variables, number_items, number_arms}
use Rattle.numbering.specs.Numbers.{is_name, bears, entry_with, form_with, numbered_tree}
use Rattle.numbering.specs.Walks.{depth, weight, chain_weight, each, unwound_to, Room, Ready, ReadyTwo}
use Rattle.numbering.specs.Walks.{ReadyFunction, ReadyChain, Chosen, number_scope, number_function}
use Rattle.numbering.specs.Walks.{PatternWalk, ParameterWalk, ExpressionWalk, ScopeWalk, FunctionWalk, ItemWalk, ArmWalk}
use Rattle.numbering.specs.declared.rows.Scopes.{Scopes}
use Rattle.numbering.proofs.Weights.{child_weight, result_weight}
use Rattle.numbering.proofs.Grown.{Growing, trees-grow, numbered-grow, entry-with, leaf-is, product_is, cons-is, infix-is, application-is}
use Rattle.numbering.proofs.Grown.{negate-is, function-is, let-is, match_is, sequence-is, items-last, items_more, arms_last, arms_more}
use Rattle.numbering.proofs.Children.{Child-facts, child-facts, pattern-child, expression-child, links-child}
use Rattle.numbering.proofs.Children.{name-child, Link-facts, link-facts, pattern-item, expression-item}
use Rattle.numbering.proofs.Scopes.{Weight, Parts, least_parts, item-parts, room-first, room-second, walked_none}
use Rattle.numbering.proofs.Scopes.{walked-variable, walked-as-is, walked-two, walked-scope}

whole_parts : (u v : Weight) → Parts (λ own. u own + v own) u v
whole_parts u v = record { hold = λ own. omega arith }

-- ---- a pattern, or parameters, and an expression in their scope

pub scope-way : {b : List ℕ} {at n p y : ℕ} {s s₁ s₂ s₃ : Scopes} → ReadyTwo b at n is_pattern p y s → PatternWalk b at n p s s₁
    → ExpressionWalk b at n y s₁ s₂ → s₃ ≡ unwound_to (depth s) s₂ → ScopeWalk b at n p y s s₃
unfolding number_scope ◌>>=◌ return
scope-way R u v w = walked-scope _ _ (λ p q. (p, q)) (whole_parts _ _) R.room (λ l t p l₁ t₁ q t₂ g h. rw (g, h)) (λ t. refl) u v w

pub body-way : {b : List ℕ} {at n l y : ℕ} {s s₁ s₂ s₃ : Scopes} → ReadyFunction b at n l y s → ParameterWalk b at n l s s₁
    → ExpressionWalk b at n y s₁ s₂ → s₃ ≡ unwound_to (depth s) s₂ → FunctionWalk b at n l y s s₃
unfolding number_function ◌>>=◌ return
body-way R u v w = walked-scope _ _ (λ p q. (p, q)) (whole_parts _ _) R.room (λ l t p l₁ t₁ q t₂ g h. rw (g, h)) (λ t. refl) u v w

-- ---- items
module _ {b : List ℕ} {at n l : ℕ} {s : Scopes} (R : ReadyChain b at n Chain.Items l s) {x y z : ℕ} (e : entry_of b at l ≡ Some (Node.Link x y z)) where
  items-facts : Link-facts b at n R.walk Chain.Items l x y z
  items-facts = link-facts b at n R.walk Chain.Items l R.below R.chained e

  items-least : y ≡ 4294967295 → (own : ℕ → ℕ) → weight b at own x ≤ chain_weight b at n own Chain.Items l
  items-least m own = omega (arith, items-facts.weighs-last m own)

  items-parts : (y ≡ 4294967295 → ⊥)
      → Parts (λ own. chain_weight b at n own Chain.Items l) (λ own. weight b at own x) (λ own. chain_weight b at n own Chain.Items y)
  items-parts m = record { hold = λ own. omega (arith, items-facts.weighs-more m own) }

  pub item-first : (x < l) × Ready b at n is_expression x s
  unfolding item_fits
  item-first =
      let c = expression-item b at n R.walk l x items-facts.item-fits in
      (c.0, record { walk = R.walk; below = omega (arith, c.0, R.below); sorted = c.1; room = room-first (item-parts y items-least items-parts) R.room })

  pub item-rest : {s₁ : Scopes} → (y ≡ 4294967295 → ⊥) → ExpressionWalk b at n x s s₁ → (y < l) × ReadyChain b at n Chain.Items y s₁
  item-rest m u =
      let c = items-facts.rest m in (
        c.0,
        record { walk = R.walk; below = omega (arith, c.0, R.below); chained = c.1; room = room-second (items-parts m) R.room u.few u.same_top },
      )

  pub item-last-way : {s₁ : Scopes} → y ≡ 4294967295 → ExpressionWalk b at n x s s₁ → ItemWalk b at n l s s₁
  unfolding number_items ◌>>=◌ return entry_with
  item-last-way m u =
      walked-as-is _ _ Items.last (items-least m)
      (λ t g a h q. rw (items-last (tree b at) (entry_of b at) (trees-grow b at) n l R.below e items-facts.before m, q))
      (λ t. items-last (numbered_tree t b at) _ (numbered-grow t b at) n l R.below (entry-with t b at l e) items-facts.before m)
      u

  pub item-more-way : {s₁ s₂ : Scopes} → (y ≡ 4294967295 → ⊥) → ExpressionWalk b at n x s s₁ → ItemWalk b at n y s₁ s₂ → ItemWalk b at n l s s₂
  unfolding number_items ◌>>=◌ return entry_with
  item-more-way m u v =
      walked-two _ _ Items.◌then◌ (items-parts m) R.room
      (λ t g a g₁ c g₂ q r.
      rw (items_more (tree b at) (entry_of b at) (trees-grow b at) n l R.below e items-facts.before m (items-facts.rest m).0, q, r))
      (λ t.
      items_more (numbered_tree t b at) _ (numbered-grow t b at) n l R.below (entry-with t b at l e) items-facts.before m (items-facts.rest m).0)
      u v

-- ---- arms
module _ {b : List ℕ} {at n l : ℕ} {s : Scopes} (R : ReadyChain b at n Chain.Arms l s) {x y z : ℕ} (e : entry_of b at l ≡ Some (Node.Link x y z)) where
  arms-facts : Link-facts b at n R.walk Chain.Arms l x y z
  arms-facts = link-facts b at n R.walk Chain.Arms l R.below R.chained e

  result : (z < l) × (is_expression (entry_of b at z) ≡ true)
  unfolding result_fits
  result = expression-item b at n R.walk l z arms-facts.result-fits

  arms-least : y ≡ 4294967295 → (own : ℕ → ℕ) → weight b at own x + weight b at own z ≤ chain_weight b at n own Chain.Arms l
  unfolding result_weight
  arms-least m own = omega (arith, arms-facts.weighs-last m own)

  arms-parts : (y ≡ 4294967295 → ⊥)
      → Parts (λ own. chain_weight b at n own Chain.Arms l) (λ own. weight b at own x + weight b at own z) (λ own. chain_weight b at n own Chain.Arms y)
  unfolding result_weight
  arms-parts m = record { hold = λ own. omega (arith, arms-facts.weighs-more m own) }

  pub arm-first : (z < l) × ReadyTwo b at n is_pattern x z s
  unfolding item_fits
  arm-first =
      let c = pattern-item b at n R.walk l x arms-facts.item-fits in (
        result.0,
        record {
          walk = R.walk;
          first_below = omega (arith, c.0, R.below);
          second_below = omega (arith, result.0, R.below);
          first-sorted = c.1;
          second-sorted = result.1;
          room = room-first (item-parts y arms-least arms-parts) R.room;
        },
      )

  pub arm-rest : {s₁ : Scopes} → (y ≡ 4294967295 → ⊥) → ScopeWalk b at n x z s s₁ → (y < l) × ReadyChain b at n Chain.Arms y s₁
  arm-rest m u =
      let c = arms-facts.rest m in (
        c.0,
        record { walk = R.walk; below = omega (arith, c.0, R.below); chained = c.1; room = room-second (arms-parts m) R.room u.few u.same_top },
      )

  pub arm-last-way : {s₁ : Scopes} → y ≡ 4294967295 → ScopeWalk b at n x z s s₁ → ArmWalk b at n l s s₁
  unfolding number_arms number_scope ◌>>=◌ return entry_with
  arm-last-way m u =
      walked-as-is _ _ (λ t. Arms.arm t.0 t.1 Arms.no_arm) (arms-least m)
      (λ t g a h q. rw (arms_last (tree b at) (entry_of b at) (trees-grow b at) n l R.below e arms-facts.before m result.0)
      (ap (λ (t : (Pat × Expr) × Names). (Arms.arm t.0.0 t.0.1 Arms.no_arm, t.1)) q))
      (λ t. arms_last (numbered_tree t b at) _ (numbered-grow t b at) n l R.below (entry-with t b at l e) arms-facts.before m result.0)
      u

  pub arm-more-way : {s₁ s₂ : Scopes} → (y ≡ 4294967295 → ⊥) → ScopeWalk b at n x z s s₁ → ArmWalk b at n y s₁ s₂ → ArmWalk b at n l s s₂
  unfolding number_arms number_scope ◌>>=◌ return entry_with
  arm-more-way m u v =
      walked-two _ _ (λ t r. Arms.arm t.0 t.1 r) (arms-parts m) R.room
      (λ i g a g₁ c g₂ q r.
      rw (arms_more (tree b at) (entry_of b at) (trees-grow b at) n l R.below e arms-facts.before m (arms-facts.rest m).0 result.0)
      (ap (λ (t : (Pat × Expr) × Names). let w = number_arms (tree b at n y).arms i t.1 in (Arms.arm t.0.0 t.0.1 w.0, w.1)) q
      ∙ ap (λ (w : Arms × Names). (Arms.arm a.0 a.1 w.0, w.1)) r))
      (λ t. arms_more (numbered_tree t b at) _ (numbered-grow t b at) n l R.below (entry-with t b at l e) arms-facts.before m
      (arms-facts.rest m).0 result.0)
      u v

-- ---- an expression

abbrev pub Two : Form → ℕ → ℕ → Type 0
Two f x y = children_of (Some (Node.Expression f)) ≡ three (Child.Expression x) (Child.Expression y) Child.Nothing

unfoldable number_two : (Expr → Expr → Expr) → Expr → Expr → Ids → Naming Expr
number_two make p q l = do
  p' ← number_expr_variables p l
  q' ← number_expr_variables q l
  return (make p' q')

-- the forms with two operands
abbrev pub Operands : Form → ℕ → ℕ → Type 0
Operands f x y = (f ≡ Form.Product x y) ⊎ ((f ≡ Form.Cons x y) ⊎ (((o : InfixOp) × (f ≡ Form.Infix o x y)) ⊎ (f ≡ Form.Application x y)))

pub operands : {f : Form} {x y : ℕ} → Operands f x y → Two f x y
operands (inl e) = rw e refl
operands (inr (inl e)) = rw e refl
operands (inr (inr (inl (o, e)))) = rw e refl
operands (inr (inr (inr e))) = rw e refl

module _ {b : List ℕ} {at n k : ℕ} {s : Scopes} (R : Ready b at n is_expression k s) where
  -- a child that is an expression
  child : {x : ℕ} {s₁ : Scopes} → (x < k) × (is_expression (entry_of b at x) ≡ true) → Room (λ own. weight b at own x) s₁.next (depth s₁)
      → (x < k) × Ready b at n is_expression x s₁
  child i r = (i.0, record { walk = R.walk; below = omega (arith, i.0, R.below); sorted = i.1; room = r })

  two_facts : {f : Form} {x y : ℕ} → entry_of b at k ≡ Some (Node.Expression f) → Two f x y
      → Child-facts b at n R.walk k (Child.Expression x) (Child.Expression y) Child.Nothing
  two_facts e r = child-facts b at n R.walk k R.below _ _ _ e r

  two-parts : {f : Form} {x y : ℕ} → entry_of b at k ≡ Some (Node.Expression f) → Two f x y
      → Parts (λ own. weight b at own k) (λ own. weight b at own x) (λ own. weight b at own y)
  unfolding child_weight
  two-parts e r = record { hold = λ own. omega (arith, (two_facts e r).weighs own) }

  pub two-first : {f : Form} {x y : ℕ} → entry_of b at k ≡ Some (Node.Expression f) → Two f x y → (x < k) × Ready b at n is_expression x s
  two-first {f} {x} {y} e r = child (expression-child b at n R.walk k x (two_facts e r).first_fits) (room-first (two-parts e r) R.room)

  pub two-second : {f : Form} {x y : ℕ} {s₁ : Scopes} → entry_of b at k ≡ Some (Node.Expression f) → Two f x y → ExpressionWalk b at n x s s₁
      → (y < k) × Ready b at n is_expression y s₁
  two-second {f} {x} {y} e r u =
      child (expression-child b at n R.walk k y (two_facts e r).second_fits) (room-second (two-parts e r) R.room u.few u.same_top)

  -- one operand, then the other: `make` is what the form stands for
  two-way : {f : Form} {x y : ℕ} {s₁ s₂ : Scopes} (make : Expr → Expr → Expr) → entry_of b at k ≡ Some (Node.Expression f) → Two f x y
      → ((T : ℕ → ℕ → Tree) (E : ℕ → Maybe Node) → Growing T E → E k ≡ Some (Node.Expression f) → x < k → y < k
      → (T n k).expression ≡ make (T n x).expression (T n y).expression)
      → ((i : ℕ) → form_with i f ≡ f)
      → ((p q : Expr) (l : Ids) → number_expr_variables (make p q) l ≡ number_two make p q l)
      → ExpressionWalk b at n x s s₁ → ExpressionWalk b at n y s₁ s₂ → ExpressionWalk b at n k s s₂
  unfolding number_two ◌>>=◌ return entry_with
  two-way make e r is keep steps u v =
      let i = (two-first e r).0 in
      let j = (two-second e r u).0 in
      walked-two _ _ make (two-parts e r) R.room
      (λ l t a t₁ c t₂ g h. rw (is (tree b at) (entry_of b at) (trees-grow b at) e i j, steps, g, h))
      (λ t. is (numbered_tree t b at) _ (numbered-grow t b at) (entry-with t b at k e ∙ ap (λ (f : Form). Some (Node.Expression f)) (keep (get_or t k 0))) i j)
      u v

  pub operands-way : {f : Form} {x y : ℕ} {s₁ s₂ : Scopes} → entry_of b at k ≡ Some (Node.Expression f) → Operands f x y
      → ExpressionWalk b at n x s s₁ → ExpressionWalk b at n y s₁ s₂ → ExpressionWalk b at n k s s₂
  unfolding number_expr_variables number_two form_with
  operands-way e (inl i) =
      two-way Expr.product (e ∙ ap (λ (f : Form). Some (Node.Expression f)) i) refl (λ T E G. product_is T E G n k R.below) (λ _. refl) (λ p q l. refl)
  operands-way e (inr (inl i)) =
      two-way Expr.cons (e ∙ ap (λ (f : Form). Some (Node.Expression f)) i) refl (λ T E G. cons-is T E G n k R.below) (λ _. refl) (λ p q l. refl)
  operands-way e (inr (inr (inl (o, i)))) =
      two-way (Expr.binary o) (e ∙ ap (λ (f : Form). Some (Node.Expression f)) i) refl (λ T E G. infix-is T E G n k R.below) (λ _. refl) (λ p q l. refl)
  operands-way e (inr (inr (inr i))) =
      two-way Expr.application (e ∙ ap (λ (f : Form). Some (Node.Expression f)) i) refl (λ T E G. application-is T E G n k R.below) (λ _. refl) (λ p q l. refl)

  -- negation
  negate-facts : {x : ℕ} → entry_of b at k ≡ Some (Node.Expression (Form.Negate x))
      → Child-facts b at n R.walk k (Child.Expression x) Child.Nothing Child.Nothing
  negate-facts e = child-facts b at n R.walk k R.below _ _ _ e refl

  negate-least : {x : ℕ} → entry_of b at k ≡ Some (Node.Expression (Form.Negate x)) → (own : ℕ → ℕ) → weight b at own x ≤ weight b at own k
  unfolding child_weight
  negate-least e own = omega (arith, (negate-facts e).weighs own)

  pub negate-ready : {x : ℕ} → entry_of b at k ≡ Some (Node.Expression (Form.Negate x)) → (x < k) × Ready b at n is_expression x s
  negate-ready {x} e = child (expression-child b at n R.walk k x (negate-facts e).first_fits) (room-first (least_parts (negate-least e)) R.room)

  pub negate-way : {x : ℕ} {s₁ : Scopes}
      → entry_of b at k ≡ Some (Node.Expression (Form.Negate x)) → ExpressionWalk b at n x s s₁
      → ExpressionWalk b at n k s s₁
  unfolding number_expr_variables ◌>>=◌ return entry_with form_with
  negate-way e u =
      walked-as-is _ _ Expr.negate (negate-least e)
      (λ t g a h q. rw (negate-is (tree b at) (entry_of b at) (trees-grow b at) n k R.below e (negate-ready e).0, q))
      (λ t. negate-is (numbered_tree t b at) _ (numbered-grow t b at) n k R.below (entry-with t b at k e) (negate-ready e).0)
      u

  -- a variable
  variable-facts : {x : ℕ} → entry_of b at k ≡ Some (Node.Expression (Form.Variable x)) → Child-facts b at n R.walk k (Child.Name x) Child.Nothing Child.Nothing
  variable-facts e = child-facts b at n R.walk k R.below _ _ _ e refl

  pub variable-ready : {x : ℕ} → entry_of b at k ≡ Some (Node.Expression (Form.Variable x)) → (x < 512) × ((s.next < 65536) × (k < 2048))
  unfolding each child_weight
  variable-ready {x} e = (
    name-child b at n R.walk k x (variable-facts e).first_fits,
    (omega (arith, (variable-facts e).weighs each, R.room.ids), omega (arith, R.below, R.walk.few-nodes)),
  )

  pub variable-way : {x : ℕ} {id : ℕ} {s₁ : Scopes} → entry_of b at k ≡ Some (Node.Expression (Form.Variable x)) → length s.ids ≡ 2048 → Chosen x s id s₁
      → ExpressionWalk b at n k s (record s₁ { ids = set s₁.ids k id })
  unfolding number_expr_variables ◌>>=◌ return entry_with form_with expression_of bears is_name
  variable-way {x} e z c =
      walked-as-is _ _ Expr.variable (λ own. omega (arith, (variable-facts e).weighs own))
      (λ t g a h q. rw (leaf-is (tree b at) (entry_of b at) (trees-grow b at) n k R.below e, q))
      (λ t. leaf-is (numbered_tree t b at) _ (numbered-grow t b at) n k R.below (entry-with t b at k e))
      (walked-variable x k (ap bears e) (omega (arith, z, (variable-ready e).1.1)) c)

  -- a function
  function-facts : {x y : ℕ} → entry_of b at k ≡ Some (Node.Expression (Form.Function x y))
      → Child-facts b at n R.walk k (Child.Links Chain.Parameters x) (Child.Expression y) Child.Nothing
  function-facts e = child-facts b at n R.walk k R.below _ _ _ e refl

  function-least : {x y : ℕ} → entry_of b at k ≡ Some (Node.Expression (Form.Function x y)) → (own : ℕ → ℕ)
      → chain_weight b at n own Chain.Parameters x + weight b at own y ≤ weight b at own k
  unfolding child_weight
  function-least e own = omega (arith, (function-facts e).weighs own)

  pub function-ready : {x y : ℕ} → entry_of b at k ≡ Some (Node.Expression (Form.Function x y)) → ((x < k) × (y < k)) × ReadyFunction b at n x y s
  function-ready {x} {y} e =
      let i = links-child b at n R.walk k Chain.Parameters x (function-facts e).first_fits in
      let j = expression-child b at n R.walk k y (function-facts e).second_fits in (
        (i.0, j.0),
        record {
          walk = R.walk;
          first_below = omega (arith, i.0, R.below);
          second_below = omega (arith, j.0, R.below);
          chained = i.1;
          second-sorted = j.1;
          room = room-first (least_parts (function-least e)) R.room;
        },
      )

  pub function-way : {x y : ℕ} {s₁ : Scopes}
      → entry_of b at k ≡ Some (Node.Expression (Form.Function x y))
      → FunctionWalk b at n x y s s₁
      → ExpressionWalk b at n k s s₁
  unfolding number_expr_variables number_function ◌>>=◌ return entry_with form_with
  function-way e u =
      let i = (function-ready e).0 in
      walked-as-is _ _ (λ t. Expr.function t.0 t.1 Env.empty) (function-least e)
      (λ t g a h q. rw (function-is (tree b at) (entry_of b at) (trees-grow b at) n k R.below e i.0 i.1)
      (ap (λ (t : (List Pat × Expr) × Names). (Expr.function t.0.0 t.0.1 Env.empty, t.1)) q))
      (λ t. function-is (numbered_tree t b at) _ (numbered-grow t b at) n k R.below (entry-with t b at k e) i.0 i.1)
      u

  -- a let
  let-facts : {p x y : ℕ} → entry_of b at k ≡ Some (Node.Expression (Form.Let p x y))
      → Child-facts b at n R.walk k (Child.Pattern p) (Child.Expression x) (Child.Expression y)
  let-facts e = child-facts b at n R.walk k R.below _ _ _ e refl

  let-parts : {p x y : ℕ} → entry_of b at k ≡ Some (Node.Expression (Form.Let p x y))
      → Parts (λ own. weight b at own k) (λ own. weight b at own x) (λ own. weight b at own p + weight b at own y)
  unfolding child_weight
  let-parts e = record { hold = λ own. omega (arith, (let-facts e).weighs own) }

  pub let-first : {p x y : ℕ} → entry_of b at k ≡ Some (Node.Expression (Form.Let p x y)) → (x < k) × Ready b at n is_expression x s
  let-first {p} {x} {y} e = child (expression-child b at n R.walk k x (let-facts e).second_fits) (room-first (let-parts e) R.room)

  pub let-second : {p x y : ℕ} {s₁ : Scopes} → entry_of b at k ≡ Some (Node.Expression (Form.Let p x y)) → ExpressionWalk b at n x s s₁
      → ((p < k) × (y < k)) × ReadyTwo b at n is_pattern p y s₁
  let-second {p} {x} {y} e u =
      let i = pattern-child b at n R.walk k p (let-facts e).first_fits in
      let j = expression-child b at n R.walk k y (let-facts e).third-fits in (
        (i.0, j.0),
        record {
          walk = R.walk;
          first_below = omega (arith, i.0, R.below);
          second_below = omega (arith, j.0, R.below);
          first-sorted = i.1;
          second-sorted = j.1;
          room = room-second (let-parts e) R.room u.few u.same_top;
        },
      )

  pub let-way : {p x y : ℕ} {s₁ s₂ : Scopes} → entry_of b at k ≡ Some (Node.Expression (Form.Let p x y))
      → ExpressionWalk b at n x s s₁
      → ScopeWalk b at n p y s₁ s₂
      → ExpressionWalk b at n k s s₂
  unfolding number_expr_variables number_scope ◌>>=◌ return entry_with form_with
  let-way {p} {x} {y} e u v =
      let i = (let-second e u).0 in
      let j = (let-first e).0 in
      walked-two _ _ (λ v t. Expr.letting t.0 v t.1) (let-parts e) R.room
      (λ t g a g₁ c g₂ q r. rw (let-is (tree b at) (entry_of b at) (trees-grow b at) n k R.below e i.0 j i.1, q)
      (ap (λ (t : (Pat × Expr) × Names). (Expr.letting t.0.0 a t.0.1, t.1)) r))
      (λ t. let-is (numbered_tree t b at) _ (numbered-grow t b at) n k R.below (entry-with t b at k e) i.0 j i.1)
      u v

  -- a match
  match-facts : {x y : ℕ} → entry_of b at k ≡ Some (Node.Expression (Form.Match x y))
      → Child-facts b at n R.walk k (Child.Expression x) (Child.Links Chain.Arms y) Child.Nothing
  match-facts e = child-facts b at n R.walk k R.below _ _ _ e refl

  match-parts : {x y : ℕ} → entry_of b at k ≡ Some (Node.Expression (Form.Match x y))
      → Parts (λ own. weight b at own k) (λ own. weight b at own x) (λ own. chain_weight b at n own Chain.Arms y)
  unfolding child_weight
  match-parts e = record { hold = λ own. omega (arith, (match-facts e).weighs own) }

  pub match-first : {x y : ℕ} → entry_of b at k ≡ Some (Node.Expression (Form.Match x y)) → (x < k) × Ready b at n is_expression x s
  match-first {x} {y} e = child (expression-child b at n R.walk k x (match-facts e).first_fits) (room-first (match-parts e) R.room)

  pub match-second : {x y : ℕ} {s₁ : Scopes} → entry_of b at k ≡ Some (Node.Expression (Form.Match x y)) → ExpressionWalk b at n x s s₁
      → (y < k) × ReadyChain b at n Chain.Arms y s₁
  match-second {x} {y} e u =
      let i = links-child b at n R.walk k Chain.Arms y (match-facts e).second_fits in (
        i.0,
        record { walk = R.walk; below = omega (arith, i.0, R.below); chained = i.1; room = room-second (match-parts e) R.room u.few u.same_top },
      )

  pub match-way : {x y : ℕ} {s₁ s₂ : Scopes} → entry_of b at k ≡ Some (Node.Expression (Form.Match x y))
      → ExpressionWalk b at n x s s₁
      → ArmWalk b at n y s₁ s₂
      → ExpressionWalk b at n k s s₂
  unfolding number_expr_variables ◌>>=◌ return entry_with form_with
  match-way e u v =
      let i = (match-second e u).0 in
      let j = (match-first e).0 in
      walked-two _ _ Expr.matching (match-parts e) R.room
      (λ t g a g₁ c g₂ q r. rw (match_is (tree b at) (entry_of b at) (trees-grow b at) n k R.below e j i, q, r))
      (λ t. match_is (numbered_tree t b at) _ (numbered-grow t b at) n k R.below (entry-with t b at k e) j i)
      u v

  -- a sequence
  sequence-facts : {x : ℕ} → entry_of b at k ≡ Some (Node.Expression (Form.Sequence x))
      → Child-facts b at n R.walk k (Child.Links Chain.Items x) Child.Nothing Child.Nothing
  sequence-facts e = child-facts b at n R.walk k R.below _ _ _ e refl

  sequence-least : {x : ℕ} → entry_of b at k ≡ Some (Node.Expression (Form.Sequence x)) → (own : ℕ → ℕ)
      → chain_weight b at n own Chain.Items x ≤ weight b at own k
  unfolding child_weight
  sequence-least e own = omega (arith, (sequence-facts e).weighs own)

  pub sequence-ready : {x : ℕ} → entry_of b at k ≡ Some (Node.Expression (Form.Sequence x)) → (x < k) × ReadyChain b at n Chain.Items x s
  sequence-ready {x} e =
      let i = links-child b at n R.walk k Chain.Items x (sequence-facts e).first_fits in
      (i.0, record { walk = R.walk; below = omega (arith, i.0, R.below); chained = i.1; room = room-first (least_parts (sequence-least e)) R.room })

  pub sequence-way : {x : ℕ} {s₁ : Scopes}
      → entry_of b at k ≡ Some (Node.Expression (Form.Sequence x)) → ItemWalk b at n x s s₁
      → ExpressionWalk b at n k s s₁
  unfolding number_expr_variables ◌>>=◌ return entry_with form_with
  sequence-way e u =
      walked-as-is _ _ Expr.sequence (sequence-least e)
      (λ t g a h q. rw (sequence-is (tree b at) (entry_of b at) (trees-grow b at) n k R.below e (sequence-ready e).0, q))
      (λ t. sequence-is (numbered_tree t b at) _ (numbered-grow t b at) n k R.below (entry-with t b at k e) (sequence-ready e).0)
      u

  -- leaves
  leaf : {f : Form} (p : Expr) → entry_of b at k ≡ Some (Node.Expression f) → ((T : ℕ → Tree) → expression_of T f ≡ p) → ((i : ℕ) → form_with i f ≡ f)
      → ((l : Ids) → number_expr_variables p l ≡ return p) → ExpressionWalk b at n k s s
  unfolding return entry_with
  leaf p e is keep steps = walked_none (λ l g t. rw (
    leaf-is (tree b at) (entry_of b at) (trees-grow b at) n k R.below e,
    leaf-is (numbered_tree t b at) _ (numbered-grow t b at) n k R.below
        (entry-with t b at k e ∙ ap (λ (f : Form). Some (Node.Expression f)) (keep (get_or t k 0))),
    is,
    is,
    steps,
  ))

  pub leaf-way : {f : Form} → entry_of b at k ≡ Some (Node.Expression f) → ((c : ℤ) × (f ≡ Form.Constant c)) ⊎ ((f ≡ Form.Unit) ⊎ (f ≡ Form.Nil))
      → ExpressionWalk b at n k s s
  unfolding number_expr_variables form_with expression_of
  leaf-way e (inl (c, i)) = leaf (Expr.constant c) (e ∙ ap (λ (f : Form). Some (Node.Expression f)) i) (λ _. refl) (λ _. refl) (λ _. refl)
  leaf-way e (inr (inl i)) = leaf Expr.unit (e ∙ ap (λ (f : Form). Some (Node.Expression f)) i) (λ _. refl) (λ _. refl) (λ _. refl)
  leaf-way e (inr (inr i)) = leaf Expr.nil (e ∙ ap (λ (f : Form). Some (Node.Expression f)) i) (λ _. refl) (λ _. refl) (λ _. refl)
