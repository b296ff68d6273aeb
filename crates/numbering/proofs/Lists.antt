-- Lists of ids: members, every item, pointwise, rising.
use mathlib.Core.Path.{◌≡◌, refl, sym, ap, subst}
use mathlib.Core.Bool.{Bool, true, false, ◌||◌}
use mathlib.Core.List.{List, [], ◌∷◌, ◌++◌}
use Prim.Native.Nat.{ℕ, suc, ◌<◌, ◌≤◌}
use native.Mathlib.Nat.{le_trans}
use native.Mathlib.Omega.{arith}
use lib.Dec.{eqb}
use borrow.Author.Tests.{eq-eqb, eqb-true}
use Rattle.numbering.specs.Inputs.{member}
use Rattle.numbering.specs.Statements.{All, Pointwise, Distinct}

pub false-true : false ≡ true → ⊥
false-true e = let o : ◌≡◌ {A = ℕ} 0 1 = cc in omega arith

-- what is not true is false
pub not-true : (b : Bool) → (b ≡ true → ⊥) → b ≡ false
not-true true h = absurd (h refl)
not-true false h = refl

pub all_append : (Q : ℕ → Type 0) (xs ys : List ℕ) → All Q xs → All Q ys → All Q (xs ++ ys)
all_append Q [] ys a b = b
all_append Q (x ∷ xs) ys a b = (a.0, all_append Q xs ys a.1 b)

pub all_split : (Q : ℕ → Type 0) (xs ys : List ℕ) → All Q (xs ++ ys) → All Q xs × All Q ys
all_split Q [] ys h = (tt, h)
all_split Q (x ∷ xs) ys h = let k = all_split Q xs ys h.1 in ((h.0, k.0), k.1)

pub all_map : {Q S : ℕ → Type 0} → ((i : ℕ) → Q i → S i) → (xs : List ℕ) → All Q xs → All S xs
all_map f [] a = tt
all_map f (x ∷ xs) a = (f x a.0, all_map f xs a.1)

pub all-member : (Q : ℕ → Type 0) (i : ℕ) (xs : List ℕ) → All Q xs → member i xs ≡ true → Q i
unfolding member
all-member Q i [] a h = absurd (false-true h)
all-member Q i (x ∷ xs) a h = go (eqb i x) refl h (all-member Q i xs a.1)
  where
    go : (c : Bool) → eqb i x ≡ c → (c || member i xs) ≡ true → (member i xs ≡ true → Q i) → Q i
    go true e h f = subst Q (sym (eqb-true i x e)) a.0
    go false e h f = f h

-- every item is a member
pub members : (Q : ℕ → Type 0) (xs : List ℕ) → ((i : ℕ) → member i xs ≡ true → Q i) → All Q xs
unfolding member
members Q [] f = tt
members Q (x ∷ xs) f = (f x (ap (λ (c : Bool). c || member x xs) (eq-eqb x x refl)), members Q xs (λ i h. f i (or_right (eqb i x) h)))
  where
    or_right : (c : Bool) {d : Bool} → d ≡ true → (c || d) ≡ true
    or_right true h = refl
    or_right false h = h

pub pointwise-append : (R : ℕ → ℕ → Type 0) (xs us ys vs : List ℕ) → Pointwise R xs ys → Pointwise R us vs → Pointwise R (xs ++ us) (ys ++ vs)
pointwise-append R [] us [] vs a b = b
pointwise-append R [] us (y ∷ ys) vs a b = absurd a
pointwise-append R (x ∷ xs) us [] vs a b = absurd a
pointwise-append R (x ∷ xs) us (y ∷ ys) vs a b = (a.0, pointwise-append R xs us ys vs a.1 b)

pub pointwise-map : {R S : ℕ → ℕ → Type 0} → ((x i : ℕ) → R x i → S x i) → (xs ys : List ℕ) → Pointwise R xs ys → Pointwise S xs ys
pointwise-map f [] [] a = tt
pointwise-map f [] (y ∷ ys) a = a
pointwise-map f (x ∷ xs) [] a = a
pointwise-map f (x ∷ xs) (y ∷ ys) a = (f x y a.0, pointwise-map f xs ys a.1)

-- the second list of a pointwise pair
pub zipped : (R : ℕ → ℕ → Type 0) (Q S : ℕ → Type 0) → ((x i : ℕ) → R x i → Q x → S i) → (xs is : List ℕ) → Pointwise R xs is → All Q xs → All S is
zipped R Q S f [] [] p a = tt
zipped R Q S f [] (i ∷ is) p a = absurd p
zipped R Q S f (x ∷ xs) [] p a = absurd p
zipped R Q S f (x ∷ xs) (i ∷ is) p a = (f x i p.0 a.0, zipped R Q S f xs is p.1 a.1)

-- rising from lo on, below hi
abbrev pub Rises : ℕ → List ℕ → ℕ → Type 0
Rises lo [] hi = lo ≤ hi
Rises lo (i ∷ is) hi = (lo ≤ i) × Rises (suc i) is hi

pub rises-from : (lo mid : ℕ) (xs : List ℕ) (hi : ℕ) → lo ≤ mid → Rises mid xs hi → Rises lo xs hi
rises-from lo mid [] hi l r = le_trans l r
rises-from lo mid (x ∷ xs) hi l r = (le_trans l r.0, r.1)

pub rises-append : (lo : ℕ) (xs : List ℕ) (mid : ℕ) (ys : List ℕ) (hi : ℕ) → Rises lo xs mid → Rises mid ys hi → Rises lo (xs ++ ys) hi
rises-append lo [] mid ys hi a b = rises-from lo mid ys hi a b
rises-append lo (x ∷ xs) mid ys hi a b = (a.0, rises-append (suc x) xs mid ys hi a.1 b)

pub rises-up : (lo : ℕ) (xs : List ℕ) (mid hi : ℕ) → mid ≤ hi → Rises lo xs mid → Rises lo xs hi
rises-up lo [] mid hi l a = le_trans a l
rises-up lo (x ∷ xs) mid hi l a = (a.0, rises-up (suc x) xs mid hi l a.1)

pub rises-le : (lo : ℕ) (xs : List ℕ) (hi : ℕ) → Rises lo xs hi → lo ≤ hi
rises-le lo [] hi a = a
rises-le lo (x ∷ xs) hi a = omega (arith, a.0, rises-le (suc x) xs hi a.1)

pub rises-all : (lo : ℕ) (xs : List ℕ) (hi : ℕ) → Rises lo xs hi → All (λ i. (lo ≤ i) × (i < hi)) xs
rises-all lo [] hi a = tt
rises-all lo (x ∷ xs) hi a = ((a.0, rises-le (suc x) xs hi a.1), all_map (λ i h. (omega (arith, a.0, h.0), h.1)) xs (rises-all (suc x) xs hi a.1))

pub rises-distinct : (lo : ℕ) (xs : List ℕ) (hi : ℕ) → Rises lo xs hi → Distinct xs
rises-distinct lo [] hi a = tt
rises-distinct lo (x ∷ xs) hi a =
    (not-true (member x xs) (λ h. let w = all-member _ x xs (rises-all (suc x) xs hi a.1) h in omega (arith, w.0)), rises-distinct (suc x) xs hi a.1)
