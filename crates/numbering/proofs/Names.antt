-- The names that numbering carries along: what holds of them, and how they grow.
use mathlib.Core.Path.{◌≡◌, refl, sym, ap, ◌∙◌}
use mathlib.Core.Bool.{Bool, true, false, cond}
use mathlib.Core.List.{List, [], ◌∷◌, ◌++◌}
use mathlib.Core.Option.{Option, none, some}
use Prim.Native.Nat.{ℕ, suc, ◌<◌, ◌≤◌}
use native.Mathlib.Nat.{le_refl, le_trans}
use native.Mathlib.Omega.{arith}
use native.Mathlib.Decide.{dec_lt}
use lib.Dec.{eqb}
use borrow.Author.Tests.{eq-eqb, ne_eqb, eqb-true}
use Rattle.source.specs.Trees.{Text}
use Rattle.numbering.specs.Numbering.{Ids, found, Names, chosen, same_text, fresh_text, iter_text, fold_text, named, registered}

-- the name that has the id i
unfoldable pub name_of : ℕ → Ids → Option ℕ
name_of i [] = none
name_of i (e ∷ es) = cond (eqb i e.1) (some e.0) (name_of i es)

pub some_is : (a b : ℕ) → some a ≡ some b → a ≡ b
some_is a b e = cc

pub none-some : (a : ℕ) → none ≡ some a → ⊥
none-some a e = let o : ◌≡◌ {A = ℕ} 0 1 = cc in omega arith

-- the first entry or the rest
pub entry_case : {C : Type 0} (c : Bool) (a : ℕ) (o : Option ℕ) (i : ℕ) → cond c (some a) o ≡ some i → (c ≡ true → a ≡ i → C)
    → (c ≡ false → o ≡ some i → C) → C
entry_case true a o i e f g = f refl (some_is a i e)
entry_case false a o i e f g = g refl e

pub cond-true : {A : Type 0} (c : Bool) (x y : A) → c ≡ true → cond c x y ≡ x
cond-true c x y e = ap (λ (c : Bool). cond c x y) e

pub cond-false : {A : Type 0} (c : Bool) (x y : A) → c ≡ false → cond c x y ≡ y
cond-false c x y e = ap (λ (c : Bool). cond c x y) e

-- an entry's name has its id
pub found-head : (x i : ℕ) (es : Ids) → found x ((x, i) ∷ es) ≡ some i
unfolding found
found-head x i es = cond-true (eqb x x) _ _ (eq-eqb x x refl)

-- the ids fall, from below n: the newest entry stands first
abbrev pub Falling : ℕ → Ids → Type 0
Falling n [] = Unit {0}
Falling n (e ∷ es) = (e.1 < n) × Falling e.1 es

pub falling-up : (n m : ℕ) (es : Ids) → n ≤ m → Falling n es → Falling m es
falling-up n m [] l f = tt
falling-up n m (e ∷ es) l f = (le_trans f.0 l, f.1)

pub falling-bounded : (n : ℕ) (es : Ids) → Falling n es → (x i : ℕ) → found x es ≡ some i → i < n
unfolding found
falling-bounded n [] f x i e = absurd (none-some i e)
falling-bounded n (d ∷ es) f x i e =
    entry_case (eqb x d.0) _ _ i e (λ c q. omega (arith, f.0)) (λ c q. omega (arith, f.0, falling-bounded d.1 es f.1 x i q))

pub falling-unnamed : (n : ℕ) (es : Ids) → Falling n es → (i : ℕ) → n ≤ i → name_of i es ≡ none
unfolding name_of
falling-unnamed n [] f i l = refl
falling-unnamed n (d ∷ es) f i l =
    cond-false (eqb i d.1) _ _ (ne_eqb i d.1 (λ q. omega (arith, f.0))) ∙ falling-unnamed d.1 es f.1 i (omega (arith, f.0))

pub falling-named : (n : ℕ) (es : Ids) → Falling n es → (x i : ℕ) → found x es ≡ some i → name_of i es ≡ some x
unfolding found name_of
falling-named n [] f x i e = absurd (none-some i e)
falling-named n (d ∷ es) f x i e = entry_case (eqb x d.0) _ _ i e
    (λ c q. cond-true (eqb i d.1) _ _ (eq-eqb i d.1 (sym q)) ∙ ap some (sym (eqb-true x d.0 c)))
    (λ c q.
    cond-false (eqb i d.1) _ _ (ne_eqb i d.1 (λ z. omega (arith, falling-bounded d.1 es f.1 x i q))) ∙ falling-named d.1 es f.1 x i q)

-- the names are in order
pub record Well (g : Names) : Type 0 where
  pub nine : 9 ≤ g.next
  pub falling : Falling g.next g.globals

-- h has what g has, with ids of its own for new names
pub record Extends (g h : Names) : Type 0 where
  pub next : g.next ≤ h.next
  pub old : (x i : ℕ) → found x g.globals ≡ some i → found x h.globals ≡ some i
  pub new : (x i : ℕ) → found x g.globals ≡ none → found x h.globals ≡ some i → g.next ≤ i
  pub stays : (i : ℕ) → i < g.next → name_of i h.globals ≡ name_of i g.globals
  pub names : (x i : ℕ) → g.next ≤ i → name_of i h.globals ≡ some x → found x h.globals ≡ some i

pub record Grown (g h : Names) : Type 0 where
  pub well : Well h
  pub extends : Extends g h

pub extends-refl : (g : Names) → Well g → Extends g g
extends-refl g w = record {
  next = le_refl _;
  old = λ x i e. e;
  new = λ x i n e. absurd (none-some i (sym n ∙ e));
  stays = λ i l. refl;
  names = λ x i l e. absurd (none-some x (sym (falling-unnamed g.next g.globals w.falling i l) ∙ e));
}

pub extends-trans : {g h k : Names} → Extends g h → Extends h k → Extends g k
extends-trans {g} {h} {k} a b = record {
  next = le_trans a.next b.next;
  old = λ x i e. b.old x i (a.old x i e);
  new = λ x i n e. by-middle x i n e (found x h.globals) refl;
  stays = λ i l. b.stays i (le_trans l a.next) ∙ a.stays i l;
  names = λ x i l e. by_side x i l e (dec_lt i h.next);
}
  where
    by-middle : (x i : ℕ) → found x g.globals ≡ none → found x k.globals ≡ some i → (o : Option ℕ) → found x h.globals ≡ o → g.next ≤ i
    by-middle x i n e none q = le_trans a.next (b.new x i q e)
    by-middle x i n e (some j) q = let s : i ≡ j = some_is i j (sym e ∙ b.old x j q) in omega (arith, a.new x j n q)

    by_side : (x i : ℕ) → g.next ≤ i → name_of i k.globals ≡ some x → Dec (i < h.next) → found x k.globals ≡ some i
    by_side x i l e (yes m) = b.old x i (a.names x i l (sym (b.stays i m) ∙ e))
    by_side x i l e (no m) = b.names x i (omega arith) e

pub grown-refl : (g : Names) → Well g → Grown g g
grown-refl g w = record { well = w; extends = extends-refl g w }

pub grown-trans : {g h k : Names} → Grown g h → Grown h k → Grown g k
grown-trans a b = record { well = b.well; extends = extends-trans a.extends b.extends }

-- an id is drawn for a pattern
abbrev pub drawn : Names → Names
drawn g = record { globals = g.globals; next = suc g.next }

pub drawn-grows : (g : Names) → Well g → Grown g (drawn g)
drawn-grows g w = record {
  well = record { nine = omega (arith, w.nine); falling = falling-up g.next (suc g.next) g.globals (omega arith) w.falling };
  extends = record {
    next = omega arith;
    old = λ x i e. e;
    new = λ x i n e. absurd (none-some i (sym n ∙ e));
    stays = λ i l. refl;
    names = λ x i l e. absurd (none-some x (sym (falling-unnamed g.next g.globals w.falling i l) ∙ e));
  };
}

-- a name becomes an input
abbrev pub added : ℕ → Names → Names
added x g = record { globals = (x, g.next) ∷ g.globals; next = suc g.next }

pub added-grows : (x : ℕ) (g : Names) → Well g → found x g.globals ≡ none → Grown g (added x g)
unfolding found name_of
added-grows x g w f = record {
  well = record { nine = omega (arith, w.nine); falling = (omega arith, w.falling) };
  extends = record {
    next = omega arith;
    old = λ y i e. cond-false (eqb y x) _ _ (ne_eqb y x (λ q. none-some i (sym f ∙ ap (λ (z : ℕ). found z g.globals) (sym q) ∙ e))) ∙ e;
    new = λ y i n e. entry_case (eqb y x) _ _ i e (λ c q. omega arith) (λ c q. absurd (none-some i (sym n ∙ q)));
    stays = λ i l. cond-false (eqb i g.next) _ _ (ne_eqb i g.next (λ z. omega arith));
    names = λ y i l e. entry_case (eqb i g.next) _ _ y e
        (λ c q. cond-true (eqb y x) _ _ (eq-eqb y x (sym q)) ∙ ap some (sym (eqb-true i g.next c)))
        (λ c q. absurd (none-some y (sym (falling-unnamed g.next g.globals w.falling i l) ∙ q)));
  };
}

pub chosen-grows : (x : ℕ) (g : Names) → Well g → (o q : Option ℕ) → found x g.globals ≡ q → Grown g (chosen x o q g).1
unfolding chosen
chosen-grows x g w (some i) q e = grown-refl g w
chosen-grows x g w none (some i) e = grown-refl g w
chosen-grows x g w none none e = added-grows x g w e

-- fresh, iter and fold have ids below 9
named-falls : (t : Text) (i x : ℕ) (ns : List Text) (n : ℕ) (es : Ids) → i < n → Falling i es → Falling n (named t i x ns ++ es)
unfolding named
named-falls t i x [] n es l f = falling-up i n es (omega arith) f
named-falls t i x (s ∷ ns) n es l f = go (same_text t s) (named-falls t i (suc x) ns n es l f)
  where
    go : (c : Bool) → Falling n (named t i (suc x) ns ++ es) → Falling n (cond c ((x, i) ∷ []) (named t i (suc x) ns) ++ es)
    go true r = (l, f)
    go false r = r

named-alone : (t : Text) (i x : ℕ) (ns : List Text) (n : ℕ) → i < n → Falling n (named t i x ns)
unfolding named
named-alone t i x [] n l = tt
named-alone t i x (s ∷ ns) n l = go (same_text t s) (named-alone t i (suc x) ns n l)
  where
    go : (c : Bool) → Falling n (named t i (suc x) ns) → Falling n (cond c ((x, i) ∷ []) (named t i (suc x) ns))
    go true r = (l, tt)
    go false r = r

pub registered-well : (ns : List Text) → Well (registered ns)
unfolding registered
registered-well ns = record {
  nine = le_refl _;
  falling = named-falls fold_text 5 0 ns 9 _ (omega arith) (named-falls iter_text 2 0 ns 5 _ (omega arith) (named-alone fresh_text 0 0 ns 2 (omega arith)));
}
