-- The laws of elements: the residue and the element of a sum, a product, an opposite; their range. For any p above 0, odd where said.
use mathlib.Core.Path.{◌≡◌, refl, sym, ap, ap₂, subst, ◌∙◌}
use mathlib.Core.Bool.{Bool, true, false, cond}
use Prim.Native.Nat.{ℕ, zero, suc, ◌+◌, ◌*◌, ◌/◌, ◌%◌, ◌-◌, ◌<◌, ◌≤◌}
use native.Mathlib.Nat.{mod-add-mod, add-mod-mod, add_comm, mod-lt, mod-eq_of_lt, mod-add-div, zero-mod, le_trans}
use native.Mathlib.Omega.{arith}
use native.Mathlib.Decide.{dec_lt}
use lib.IntN.{ℤ, pos, negsuc, neg_ℤ, nat_abs, ◌+ℤ◌, ◌-ℤ◌, ◌*ℤ◌, sub_ℕ}
use lib.Dec.{leb}
use borrow.Author.Tests.{le-leb, lt-leb, lt-ltb, le-ltb, leb-true, leb-false}
use Rattle.field.specs.Element.{res, centre, elem}
use Rattle.field.proofs.Modular.{mod-eq, mod-mul-mod, mul-mod-mod}

-- -1 is p - 1
res-negsuc : (p n : ℕ) → 0 < p → p - suc (n % p) ≡ ((p - 1) * suc n) % p
res-negsuc p n h =
    sym (mod-eq_of_lt (omega arith))
    ∙ mod-eq p (p - suc (n % p)) ((p - 1) * suc n) n (n / p)
    (let e : p - 1 + 1 ≡ p = omega arith in
    let s : p - suc (n % p) + suc (n % p) ≡ p = omega (arith, mod-lt n h) in
    omega (arith, ap (λ (k : ℕ). k * suc n) e, s, mod-add-div n p))

-- the opposite of the opposite
neg-neg : (p x : ℕ) → 0 < p → x % p ≡ ((p - 1) * ((p - 1) * x)) % p
neg-neg p x h =
    let s : ℕ = p - 1 in
    let e : s + 1 ≡ p = omega arith in
    mod-eq p x (s * (s * x)) (s * x) x (omega (arith, ap (λ (k : ℕ). k * (s * x)) e, ap (λ (k : ℕ). k * x) e))

pub abs-zero : (z : ℤ) → nat_abs z ≡ 0 → z ≡ pos 0
abs-zero (pos n) e = ap pos e
abs-zero (negsuc n) e = absurd (omega (arith, e))

pub abs_neg : (z : ℤ) → nat_abs (neg_ℤ z) ≡ nat_abs z
abs_neg (pos zero) = refl
abs_neg (pos (suc n)) = refl
abs_neg (negsuc n) = refl

module _ (p : ℕ) (h : 0 < p) where
  pub res-lt : (z : ℤ) → res p z < p
  unfolding res
  res-lt (pos n) = mod-lt n h
  res-lt (negsuc n) = omega arith

  pub res-centre : (r : ℕ) → r < p → res p (centre p r) ≡ r
  unfolding res centre
  res-centre r l = go (leb r (p / 2))
    where
      go : (b : Bool) → res p (cond b (pos r) (negsuc (p - suc r))) ≡ r
      go true = mod-eq_of_lt l
      go false = rw (mod-eq_of_lt {n = p - suc r} {m = p} (omega arith)) (omega arith)

  pub res-elem : (z : ℤ) → res p (elem p z) ≡ res p z
  unfolding elem
  res-elem z = res-centre (res p z) (res-lt z)

  res-neg-pos : (n : ℕ) → res p (neg_ℤ (pos n)) ≡ ((p - 1) * n) % p
  unfolding res
  res-neg-pos zero = ap (λ (k : ℕ). k % p) (omega arith)
  res-neg-pos (suc n) = res-negsuc p n h

  res-sub : (a b : ℕ) → res p (sub_ℕ a b) ≡ (a + (p - 1) * b) % p
  unfolding res
  res-sub a b = go (dec_lt a b)
    where
      go : Dec (a < b) → res p (sub_ℕ a b) ≡ (a + (p - 1) * b) % p
      go (yes s) =
          rw (lt-ltb a b s) (res-negsuc p (b - suc a) h
          ∙ mod-eq p ((p - 1) * suc (b - suc a)) (a + (p - 1) * b) a 0 (let e : p - 1 + 1 ≡ p = omega arith in
          let f : suc (b - suc a) + a ≡ b = omega arith in omega (arith, ap (λ (k : ℕ). k * a) e, ap (λ (k : ℕ). (p - 1) * k) f)))
      go (no s) =
          rw (le-ltb a b (omega arith))
          (mod-eq p (a - b) (a + (p - 1) * b) b 0 (let e : p - 1 + 1 ≡ p = omega arith in omega (arith, ap (λ (k : ℕ). k * b) e)))

  -- the residue of a sum, a product, an opposite, of those of the parts
  pub res-add : (a b : ℤ) → res p (a +ℤ b) ≡ (res p a + res p b) % p
  unfolding res
  res-add (pos a) (pos b) = sym (mod-add-mod a p (b % p) ∙ add-mod-mod a b p)
  res-add (pos a) (negsuc b) =
      res-sub a (suc b) ∙ sym (mod-add-mod a p (p - suc (b % p)) ∙ ap (λ (k : ℕ). (a + k) % p) (res-negsuc p b h) ∙ add-mod-mod a ((p - 1) * suc b) p)
  res-add (negsuc a) (pos b) =
      res-sub b (suc a)
      ∙ sym (add-mod-mod (p - suc (a % p)) b p
      ∙ ap (λ (k : ℕ). (k + b) % p) (res-negsuc p a h)
      ∙ mod-add-mod ((p - 1) * suc a) p b
      ∙ ap (λ (k : ℕ). k % p) (add_comm ((p - 1) * suc a) b))
  res-add (negsuc a) (negsuc b) =
      res-negsuc p (suc (a + b)) h
      ∙ ap (λ (k : ℕ). k % p) (omega arith)
      ∙ sym (ap₂ (λ (k l : ℕ). (k + l) % p) (res-negsuc p a h) (res-negsuc p b h) ∙ mod-add-mod ((p - 1) * suc a) p _ ∙ add-mod-mod _ ((p - 1) * suc b) p)

  pub res-mul : (a b : ℤ) → res p (a *ℤ b) ≡ (res p a * res p b) % p
  unfolding res
  res-mul (pos a) (pos b) = sym (mod-mul-mod p a (b % p) ∙ mul-mod-mod p a b)
  res-mul (pos a) (negsuc b) =
      res-neg-pos (a * suc b)
      ∙ ap (λ (k : ℕ). k % p) (omega arith)
      ∙ sym (mod-mul-mod p a (p - suc (b % p)) ∙ ap (λ (k : ℕ). (a * k) % p) (res-negsuc p b h) ∙ mul-mod-mod p a ((p - 1) * suc b))
  res-mul (negsuc a) (pos b) =
      res-neg-pos (suc a * b)
      ∙ ap (λ (k : ℕ). k % p) (omega arith)
      ∙ sym (mul-mod-mod p (p - suc (a % p)) b ∙ ap (λ (k : ℕ). (k * b) % p) (res-negsuc p a h) ∙ mod-mul-mod p ((p - 1) * suc a) b)
  res-mul (negsuc a) (negsuc b) =
      neg-neg p (suc a * suc b) h
      ∙ ap (λ (k : ℕ). k % p) (omega arith)
      ∙ sym (ap₂ (λ (k l : ℕ). (k * l) % p) (res-negsuc p a h) (res-negsuc p b h) ∙ mod-mul-mod p ((p - 1) * suc a) _ ∙ mul-mod-mod p _ ((p - 1) * suc b))

  pub res-neg : (a : ℤ) → res p (neg_ℤ a) ≡ ((p - 1) * res p a) % p
  unfolding res
  res-neg (pos a) = res-neg-pos a ∙ sym (mul-mod-mod p (p - 1) a)
  res-neg (negsuc a) = neg-neg p (suc a) h ∙ sym (mul-mod-mod p (p - 1) ((p - 1) * suc a)) ∙ ap (λ (k : ℕ). ((p - 1) * k) % p) (sym (res-negsuc p a h))

  pub res-opp : (a : ℤ) → res p (neg_ℤ a) ≡ (p - res p a) % p
  res-opp a =
      res-neg a
      ∙ mod-eq p ((p - 1) * res p a) (p - res p a) 1 (res p a)
      (let e : p - 1 + 1 ≡ p = omega arith in
      let f : p - res p a + res p a ≡ p = omega (arith, res-lt a) in
      omega (arith, ap (λ (k : ℕ). k * res p a) e))

  -- a sum, a difference and a product in the field, by the residues
  pub elem-add : (a b : ℤ) → elem p (a +ℤ b) ≡ centre p ((res p a + res p b) % p)
  unfolding elem
  elem-add a b = ap (centre p) (res-add a b)

  pub elem-mul : (a b : ℤ) → elem p (a *ℤ b) ≡ centre p ((res p a * res p b) % p)
  unfolding elem
  elem-mul a b = ap (centre p) (res-mul a b)

  pub elem-opp : (a : ℤ) → elem p (neg_ℤ a) ≡ centre p ((p - res p a) % p)
  unfolding elem
  elem-opp a = ap (centre p) (res-opp a)

  pub elem-sub : (a b : ℤ) → elem p (a -ℤ b) ≡ centre p ((res p a + (p - res p b)) % p)
  unfolding elem
  elem-sub a b = ap (centre p) (res-add a (neg_ℤ b) ∙ ap (λ (k : ℕ). (res p a + k) % p) (res-opp b) ∙ add-mod-mod (res p a) (p - res p b) p)

  -- an element is its own element, and an operand may be replaced by its element
  pub elem-elem : (a : ℤ) → elem p (elem p a) ≡ elem p a
  unfolding elem
  elem-elem a = ap (centre p) (res-centre (res p a) (res-lt a))

  -- two integers have one element just if they have one residue
  pub elem-of-res : (a b : ℤ) → res p a ≡ res p b → elem p a ≡ elem p b
  unfolding elem
  elem-of-res a b e = ap (centre p) e

  pub res-of-elem : (a b : ℤ) → elem p a ≡ elem p b → res p a ≡ res p b
  res-of-elem a b e = sym (res-elem a) ∙ ap (res p) e ∙ res-elem b

  pub res-zero : res p (pos 0) ≡ 0
  unfolding res
  res-zero = zero-mod p

  centre-zero : centre p 0 ≡ pos 0
  unfolding centre
  centre-zero = ap (λ (b : Bool). cond b (pos 0) (negsuc (p - 1))) (le-leb 0 (p / 2) (omega arith))

  pub elem-zero : (a : ℤ) → res p a ≡ 0 → elem p a ≡ pos 0
  unfolding elem
  elem-zero a e = ap (centre p) e ∙ centre-zero

  pub zero-elem : (a : ℤ) → elem p a ≡ pos 0 → res p a ≡ 0
  zero-elem a e = sym (res-elem a) ∙ ap (res p) e ∙ res-zero

  pub elem-one : 1 < p → elem p (pos 1) ≡ pos 1
  unfolding elem centre res
  elem-one l = ap (centre p) (mod-eq_of_lt l) ∙ ap (λ (b : Bool). cond b (pos 1) (negsuc (p - suc 1))) (le-leb 1 (p / 2) (omega arith))

  -- an element is at most half of p away from 0
  pub elem-range : (a : ℤ) → nat_abs (elem p a) ≤ p / 2
  unfolding elem centre
  elem-range a = go (res p a) (res-lt a) (leb (res p a) (p / 2)) refl
    where
      go : (r : ℕ) → r < p → (b : Bool) → leb r (p / 2) ≡ b → nat_abs (cond b (pos r) (negsuc (p - suc r))) ≤ p / 2
      go r l true e = leb-true r (p / 2) e
      go r l false e = let k : p / 2 < r = leb-false r (p / 2) e in omega arith

  -- and of an odd p each such number is an element
  pub elem-small : p % 2 ≡ 1 → (a : ℤ) → nat_abs a ≤ p / 2 → elem p a ≡ a
  unfolding elem centre res
  elem-small odd (pos n) l =
      ap (centre p) (mod-eq_of_lt {n = n} {m = p} (omega arith)) ∙ ap (λ (b : Bool). cond b (pos n) (negsuc (p - suc n))) (le-leb n (p / 2) l)
  elem-small odd (negsuc n) l =
      ap (λ (k : ℕ). centre p (p - suc k)) (mod-eq_of_lt {n = n} {m = p} (omega arith))
      ∙ ap (λ (b : Bool). cond b (pos (p - suc n)) (negsuc (p - suc (p - suc n)))) (lt-leb (p - suc n) (p / 2) (omega arith))
      ∙ ap negsuc (omega arith)

  pub elem-neg : p % 2 ≡ 1 → (a : ℤ) → elem p (neg_ℤ (elem p a)) ≡ neg_ℤ (elem p a)
  elem-neg odd a = elem-small odd (neg_ℤ (elem p a)) (subst (λ (k : ℕ). k ≤ p / 2) (sym (abs_neg (elem p a))) (elem-range a))

  -- below an element from 0 on, and its opposite
  pub elem_below : p % 2 ≡ 1 → (n k : ℕ) → elem p (pos n) ≡ pos n → k ≤ n → elem p (pos k) ≡ pos k
  elem_below odd n k e l = elem-small odd (pos k) (le_trans l (subst (λ (z : ℤ). nat_abs z ≤ p / 2) e (elem-range (pos n))))

  pub elem-opposite : p % 2 ≡ 1 → (n : ℕ) → elem p (negsuc n) ≡ negsuc n → elem p (pos (suc n)) ≡ pos (suc n)
  elem-opposite odd n e = subst (λ (z : ℤ). elem p (neg_ℤ z) ≡ neg_ℤ z) e (elem-neg odd (negsuc n))

  pub add-elem : (a b : ℤ) → elem p (a +ℤ elem p b) ≡ elem p (a +ℤ b)
  add-elem a b = elem-of-res _ _ (res-add a (elem p b) ∙ ap (λ (k : ℕ). (res p a + k) % p) (res-elem b) ∙ sym (res-add a b))

  pub mul-elem : (a b : ℤ) → elem p (a *ℤ elem p b) ≡ elem p (a *ℤ b)
  mul-elem a b = elem-of-res _ _ (res-mul a (elem p b) ∙ ap (λ (k : ℕ). (res p a * k) % p) (res-elem b) ∙ sym (res-mul a b))

  pub sub-elem : (a b : ℤ) → elem p (a -ℤ elem p b) ≡ elem p (a -ℤ b)
  sub-elem a b = elem-sub a (elem p b) ∙ ap (λ (k : ℕ). centre p ((res p a + (p - k)) % p)) (res-elem b) ∙ sym (elem-sub a b)
