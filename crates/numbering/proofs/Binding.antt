-- The ways of the walk over a pattern, and over parameters. Assumes nothing.
use mathlib.Core.Bool.{true}
use lib.ListN.{get_or}
use Prim.Native.Nat.{ℕ, ◌≤◌, ◌<◌}
use mathlib.Core.Path.{◌≡◌, refl, ap, ◌∙◌}
use mathlib.Core.List.{List, [], ◌∷◌}
use native.Mathlib.Omega.{arith}
use mathlib.Core.Logic.{◌⊎◌, inl, inr}
use lib.IntN.{ℤ}
use Rattle.std.specs.Prelude.{Option as Maybe, Some}
use Rattle.source.specs.declared.Node.{Node}
use Rattle.source.specs.declared.Shape.{Shape}
use Rattle.source.specs.declared.Chain.{Chain}
use Rattle.source.specs.Children.{Child}
use Rattle.source.specs.Trees.{Pat}
use Rattle.source.specs.Nodes.{entry_of, children_of, three, is_pattern, item_fits}
use Rattle.source.specs.Record.{Tree, tree, pattern_of}
use Rattle.numbering.specs.Numbering.{Ids, Names, Naming, ◌>>=◌, return, generate_id, number_pattern_variables, number_parameters}
use Rattle.numbering.specs.Numbers.{is_name, bears, entry_with, shape_with, numbered_tree}
use Rattle.numbering.specs.Walks.{depth, weight, chain_weight, each, bound_to, Sized, Room, Ready, ReadyChain, PatternWalk, ParameterWalk}
use Rattle.numbering.specs.declared.rows.Scopes.{Scopes}
use Rattle.numbering.proofs.Weights.{child_weight}
use Rattle.numbering.proofs.Grown.{Growing, trees-grow, numbered-grow, entry-with, stem-is, as_is}
use Rattle.numbering.proofs.Grown.{product_p-is, cons_p-is, parameters-last, parameters-more}
use Rattle.numbering.proofs.Children.{Child-facts, child-facts, pattern-child, name-child, Link-facts, link-facts, pattern-item}
use Rattle.numbering.proofs.Scopes.{Parts, item-parts, room-first, room-inner, bound-none, bound-one, bound-as-is, bound-two}

abbrev pub Paired : Shape → ℕ → ℕ → Type 0
Paired f p q = children_of (Some (Node.Pattern f)) ≡ three (Child.Pattern p) (Child.Pattern q) Child.Nothing

pub paired : {f : Shape} {p q : ℕ} → (f ≡ Shape.Product p q) ⊎ (f ≡ Shape.Cons p q) → Paired f p q
paired (inl e) = rw e refl
paired (inr e) = rw e refl

unfoldable number_two : (Pat → Pat → Pat) → Pat → Pat → Ids → Naming (Pat × Ids)
number_two make p q locals = do
  (p', one) ← number_pattern_variables p locals
  (q', two) ← number_pattern_variables q one
  return (make p' q', two)

module _ {b : List ℕ} {at n k : ℕ} {s : Scopes} (R : Ready b at n is_pattern k s) where
  -- a child that is a pattern
  child : {x : ℕ} {s₁ : Scopes} → (x < k) × (is_pattern (entry_of b at x) ≡ true) → Room (λ own. weight b at own x) s₁.next (depth s₁)
      → (x < k) × Ready b at n is_pattern x s₁
  child i r = (i.0, record { walk = R.walk; below = omega (arith, i.0, R.below); sorted = i.1; room = r })

  -- two patterns
  pair-facts : {f : Shape} {p q : ℕ} → entry_of b at k ≡ Some (Node.Pattern f) → Paired f p q
      → Child-facts b at n R.walk k (Child.Pattern p) (Child.Pattern q) Child.Nothing
  pair-facts e r = child-facts b at n R.walk k R.below _ _ _ e r

  pair_parts : {f : Shape} {p q : ℕ} → entry_of b at k ≡ Some (Node.Pattern f) → Paired f p q
      → Parts (λ own. weight b at own k) (λ own. weight b at own p) (λ own. weight b at own q)
  unfolding child_weight
  pair_parts e r = record { hold = λ own. omega (arith, (pair-facts e r).weighs own) }

  pub pair-first : {f : Shape} {p q : ℕ} → entry_of b at k ≡ Some (Node.Pattern f) → Paired f p q → (p < k) × Ready b at n is_pattern p s
  pair-first {f} {p} {q} e r = child (pattern-child b at n R.walk k p (pair-facts e r).first_fits) (room-first (pair_parts e r) R.room)

  pub pair-second : {f : Shape} {p q : ℕ} {s₁ : Scopes} → entry_of b at k ≡ Some (Node.Pattern f) → Paired f p q → PatternWalk b at n p s s₁
      → (q < k) × Ready b at n is_pattern q s₁
  pair-second {f} {p} {q} e r u =
      child (pattern-child b at n R.walk k q (pair-facts e r).second_fits) (room-inner (pair_parts e r) R.room u.more u.few u.entries)

  -- a pattern with a name
  as-facts : {p x : ℕ} → entry_of b at k ≡ Some (Node.Pattern (Shape.As p x)) → Child-facts b at n R.walk k (Child.Pattern p) (Child.Name x) Child.Nothing
  as-facts e = child-facts b at n R.walk k R.below _ _ _ e refl

  as_parts : {p x : ℕ} → entry_of b at k ≡ Some (Node.Pattern (Shape.As p x)) → Parts (λ own. weight b at own k) (λ own. weight b at own p) (λ own. own k)
  unfolding child_weight
  as_parts e = record { hold = λ own. omega (arith, (as-facts e).weighs own) }

  pub as_first : {p x : ℕ} → entry_of b at k ≡ Some (Node.Pattern (Shape.As p x)) → (p < k) × Ready b at n is_pattern p s
  as_first {p} {x} e = child (pattern-child b at n R.walk k p (as-facts e).first_fits) (room-first (as_parts e) R.room)

  -- what `bind` asks
  pub as-bind : {p x : ℕ} {s₁ : Scopes} → entry_of b at k ≡ Some (Node.Pattern (Shape.As p x)) → PatternWalk b at n p s s₁
      → ((x < 512) × (k < 2048)) × ((s₁.next < 65536) × (depth s₁ < 2048))
  unfolding each
  as-bind {p} {x} e u =
      let r = room-inner (as_parts e) R.room u.more u.few u.entries in (
        (name-child b at n R.walk k x (as-facts e).second_fits, omega (arith, R.below, R.walk.few-nodes)),
        (omega (arith, r.ids), omega (arith, r.entries)),
      )

  variable-facts : {x : ℕ} → entry_of b at k ≡ Some (Node.Pattern (Shape.Variable x)) → Child-facts b at n R.walk k (Child.Name x) Child.Nothing Child.Nothing
  variable-facts e = child-facts b at n R.walk k R.below _ _ _ e refl

  pub variable-bind : {x : ℕ} → entry_of b at k ≡ Some (Node.Pattern (Shape.Variable x)) → ((x < 512) × (k < 2048)) × ((s.next < 65536) × (depth s < 2048))
  unfolding each child_weight
  variable-bind {x} e =
      let w = (variable-facts e).weighs each in (
        (name-child b at n R.walk k x (variable-facts e).first_fits, omega (arith, R.below, R.walk.few-nodes)),
        (omega (arith, w, R.room.ids), omega (arith, w, R.room.entries)),
      )

  module _ {s₁ s₂ : Scopes} where
    -- one pattern, then the other: `make` is what the shape stands for
    two-way : {f : Shape} {p q : ℕ} (make : Pat → Pat → Pat) → entry_of b at k ≡ Some (Node.Pattern f) → Paired f p q
        → ((T : ℕ → ℕ → Tree) (E : ℕ → Maybe Node) → Growing T E → E k ≡ Some (Node.Pattern f) → p < k → q < k
        → (T n k).pattern ≡ make (T n p).pattern (T n q).pattern)
        → ((i : ℕ) → shape_with i f ≡ f)
        → ((x y : Pat) (l : Ids) → number_pattern_variables (make x y) l ≡ number_two make x y l)
        → PatternWalk b at n p s s₁ → PatternWalk b at n q s₁ s₂ → PatternWalk b at n k s s₂
    unfolding number_two ◌>>=◌ return entry_with
    two-way make e r is keep steps u v =
        let i = (pair-first e r).0 in
        let j = (pair-second e r u).0 in
        bound-two _ _ make (pair_parts e r) R.room
        (λ l t a l₁ t₁ c l₂ t₂ g h. rw (is (tree b at) (entry_of b at) (trees-grow b at) e i j, steps, g, h))
        (λ t. is (numbered_tree t b at) _ (numbered-grow t b at) (entry-with t b at k e ∙ ap (λ (f : Shape). Some (Node.Pattern f)) (keep (get_or t k 0))) i j)
        u v

    pub pair-way : {f : Shape} {p q : ℕ} → entry_of b at k ≡ Some (Node.Pattern f) → (f ≡ Shape.Product p q) ⊎ (f ≡ Shape.Cons p q)
        → PatternWalk b at n p s s₁ → PatternWalk b at n q s₁ s₂ → PatternWalk b at n k s s₂
    unfolding number_pattern_variables number_two shape_with
    pair-way e (inl i) =
        two-way Pat.product_p (e ∙ ap (λ (f : Shape). Some (Node.Pattern f)) i) refl (λ T E G. product_p-is T E G n k R.below) (λ _. refl) (λ x y l. refl)
    pair-way e (inr i) =
        two-way Pat.cons_p (e ∙ ap (λ (f : Shape). Some (Node.Pattern f)) i) refl (λ T E G. cons_p-is T E G n k R.below) (λ _. refl) (λ x y l. refl)

    pub as-way : {p x : ℕ} → entry_of b at k ≡ Some (Node.Pattern (Shape.As p x)) → PatternWalk b at n p s s₁
        → s₂ ≡ bound_to x k s₁ → Sized s₁ → PatternWalk b at n k s s₂
    unfolding number_pattern_variables ◌>>=◌ return generate_id entry_with shape_with bears is_name
    as-way {p} {x} e u v z =
        let i = (as_first e).0 in
        let q = as-bind e u in
        bound-two _ _ Pat.as_p (as_parts e) R.room
        (λ l t a l₁ t₁ c l₂ t₂ g h. rw (as_is (tree b at) (entry_of b at) (trees-grow b at) n k R.below e i, g)
        (ap (λ (t : (ℕ × Ids) × Names). ((Pat.as_p a t.0.0, t.0.1), t.1)) h))
        (λ t. as_is (numbered_tree t b at) _ (numbered-grow t b at) n k R.below (entry-with t b at k e) i)
        u
        (bound-one x k (ap bears e) q.0.0 q.0.1 q.1.1 z v)

  pub variable-way : {x : ℕ} {s₁ : Scopes} → entry_of b at k ≡ Some (Node.Pattern (Shape.Variable x)) → s₁ ≡ bound_to x k s → Sized s
      → PatternWalk b at n k s s₁
  unfolding number_pattern_variables ◌>>=◌ return generate_id entry_with shape_with pattern_of bears is_name
  variable-way {x} e v z =
      let q = variable-bind e in
      bound-as-is _ _ Pat.variable_p (λ own. omega (arith, (variable-facts e).weighs own))
      (λ l g a l₁ h r. rw (stem-is (tree b at) (entry_of b at) (trees-grow b at) n k R.below e)
      (ap (λ (t : (ℕ × Ids) × Names). ((Pat.variable_p t.0.0, t.0.1), t.1)) r))
      (λ t. stem-is (numbered_tree t b at) _ (numbered-grow t b at) n k R.below (entry-with t b at k e))
      (bound-one x k (ap bears e) q.0.0 q.0.1 q.1.1 z v)

  -- patterns that bind nothing
  leaf : {f : Shape} (p : Pat) → entry_of b at k ≡ Some (Node.Pattern f) → ((T : ℕ → Tree) → pattern_of T f ≡ p) → ((i : ℕ) → shape_with i f ≡ f)
      → ((l : Ids) → number_pattern_variables p l ≡ return (p, l)) → PatternWalk b at n k s s
  unfolding return entry_with
  leaf p e is keep steps = bound-none (λ l g t. rw (
    stem-is (tree b at) (entry_of b at) (trees-grow b at) n k R.below e,
    stem-is (numbered_tree t b at) _ (numbered-grow t b at) n k R.below
        (entry-with t b at k e ∙ ap (λ (f : Shape). Some (Node.Pattern f)) (keep (get_or t k 0))),
    is,
    is,
    steps,
  ))

  pub leaf-way : {f : Shape} → entry_of b at k ≡ Some (Node.Pattern f) → ((c : ℤ) × (f ≡ Shape.Constant c)) ⊎ ((f ≡ Shape.Unit) ⊎ (f ≡ Shape.Nil))
      → PatternWalk b at n k s s
  unfolding number_pattern_variables shape_with pattern_of
  leaf-way e (inl (c, i)) = leaf (Pat.constant_p c) (e ∙ ap (λ (f : Shape). Some (Node.Pattern f)) i) (λ _. refl) (λ _. refl) (λ _. refl)
  leaf-way e (inr (inl i)) = leaf Pat.unit_p (e ∙ ap (λ (f : Shape). Some (Node.Pattern f)) i) (λ _. refl) (λ _. refl) (λ _. refl)
  leaf-way e (inr (inr i)) = leaf Pat.nil_p (e ∙ ap (λ (f : Shape). Some (Node.Pattern f)) i) (λ _. refl) (λ _. refl) (λ _. refl)

-- parameters
module _ {b : List ℕ} {at n l : ℕ} {s : Scopes} (R : ReadyChain b at n Chain.Parameters l s) {x y z : ℕ} (e : entry_of b at l ≡ Some (Node.Link x y z)) where
  facts : Link-facts b at n R.walk Chain.Parameters l x y z
  facts = link-facts b at n R.walk Chain.Parameters l R.below R.chained e

  last-parts : y ≡ 4294967295 → (own : ℕ → ℕ) → weight b at own x ≤ chain_weight b at n own Chain.Parameters l
  last-parts m own = omega (arith, facts.weighs-last m own)

  more_parts : (y ≡ 4294967295 → ⊥)
      → Parts (λ own. chain_weight b at n own Chain.Parameters l) (λ own. weight b at own x) (λ own. chain_weight b at n own Chain.Parameters y)
  more_parts m = record { hold = λ own. omega (arith, facts.weighs-more m own) }

  pub parameter-first : (x < l) × Ready b at n is_pattern x s
  unfolding item_fits
  parameter-first =
      let c = pattern-item b at n R.walk l x facts.item-fits in
      (c.0, record { walk = R.walk; below = omega (arith, c.0, R.below); sorted = c.1; room = room-first (item-parts y last-parts more_parts) R.room })

  pub parameter-rest : {s₁ : Scopes} → (y ≡ 4294967295 → ⊥) → PatternWalk b at n x s s₁ → (y < l) × ReadyChain b at n Chain.Parameters y s₁
  parameter-rest m u =
      let c = facts.rest m in (
        c.0,
        record { walk = R.walk; below = omega (arith, c.0, R.below); chained = c.1; room = room-inner (more_parts m) R.room u.more u.few u.entries },
      )

  pub parameter-last-way : {s₁ : Scopes} → y ≡ 4294967295 → PatternWalk b at n x s s₁ → ParameterWalk b at n l s s₁
  unfolding number_parameters ◌>>=◌ return entry_with
  parameter-last-way m u =
      bound-as-is _ _ (λ p. p ∷ []) (last-parts m)
      (λ t g a t₁ h q. rw (parameters-last (tree b at) (entry_of b at) (trees-grow b at) n l R.below e facts.before m, q))
      (λ t. parameters-last (numbered_tree t b at) _ (numbered-grow t b at) n l R.below (entry-with t b at l e) facts.before m)
      u

  pub parameter-more-way : {s₁ s₂ : Scopes} → (y ≡ 4294967295 → ⊥) → PatternWalk b at n x s s₁ → ParameterWalk b at n y s₁ s₂ → ParameterWalk b at n l s s₂
  unfolding number_parameters ◌>>=◌ return entry_with
  parameter-more-way m u v =
      bound-two _ _ (λ p ps. p ∷ ps) (more_parts m) R.room
      (λ t g a t₁ g₁ c t₂ g₂ q r.
      rw (parameters-more (tree b at) (entry_of b at) (trees-grow b at) n l R.below e facts.before m (facts.rest m).0, q, r))
      (λ t. parameters-more (numbered_tree t b at) _ (numbered-grow t b at) n l R.below (entry-with t b at l e) facts.before m (facts.rest m).0)
      u v
