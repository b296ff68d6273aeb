-- Cuts put one after the other, and the room that they leave. Assumes nothing.
use mathlib.Core.Path.{◌≡◌, sym, ap, ap₂, ◌∙◌}
use mathlib.Core.List.{List, [], append-nil}
use Prim.Native.Nat.{ℕ, ◌+◌, ◌≤◌}
use native.Mathlib.Omega.{arith}
use lib.ListN.{length, length-append}
use Rattle.constraint.specs.Trees.{Equality}
use Rattle.pass_trees.specs.Passes.{Cut as Cutting, Cuts, cuts_of, joined}
use Rattle.pass_3ac.specs.Cutting.{Cut}
use Rattle.pass_3ac.specs.Cutting.{Place}
use Rattle.pass_3ac.specs.Cutting.{put_equalities, after, cut_from, place_from, Room}
use Rattle.pass_3ac.proofs.Placing.{put-none, after_none, put-append, after-append, length-put}
use Rattle.pass_3ac.proofs.Ways.{Leaves}

-- what cuts from word `at` on leave: the body b' where it was b, and the answer r
abbrev pub Puts : List ℕ → List ℕ → ℕ → Cuts → Place → Type 0
Puts b b' at c r = (b' ≡ put_equalities b at c.equalities) × (r ≡ place_from at c)

-- the fields of an answer
module _ (at : ℕ) (c : Cuts) {r : Place} (e : r ≡ place_from at c) where
  pub place-next : r.next ≡ c.next
  unfolding place_from
  place-next = ap (λ (x : Place). x.next) e

  pub place_at : r.at ≡ after at c.equalities
  unfolding place_from
  place_at = ap (λ (x : Place). x.at) e

-- no equality
pub puts_none : (b : List ℕ) (at n : ℕ) → Puts b b at (record { next = n; equalities = [] }) (record { next = n; at = at })
unfolding place_from
puts_none b at n = (sym (put-none b at), ap (λ (m : ℕ). record { next = n; at = m }) (sym (after_none at)))

-- a tree's
pub puts-tree : (b : List ℕ) {b' : List ℕ} (at : ℕ) (c : Cutting) {r : Cut} → Leaves b b' at c r → Puts b b' at (cuts_of c) r.place
unfolding cuts_of cut_from place_from
puts-tree b at c l = (l.0, ap (λ (x : Cut). x.place) l.1)

-- one after the other
pub puts-join : (b : List ℕ) {b1 b2 : List ℕ} (at : ℕ) (c d : Cuts) {r1 r2 : Place} → Puts b b1 at c r1 → Puts b1 b2 r1.at d r2
    → Puts b b2 at (joined c.equalities d) r2
unfolding joined place_from
puts-join b at c d l m =
    let i = place_at at c l.1 in (
      m.0 ∙ ap₂ (λ (x : List ℕ) (y : ℕ). put_equalities x y d.equalities) l.0 i ∙ sym (put-append b at c.equalities d.equalities),
      m.1 ∙ ap (λ (x : ℕ). record { next = d.next; at = x })
          (ap (λ (x : ℕ). after x d.equalities) i ∙ sym (after-append at c.equalities d.equalities)),
    )

pub joined-none : (c : Cuts) → joined c.equalities (record { next = c.next; equalities = [] }) ≡ c
unfolding joined
joined-none c = ap (λ (l : List Equality). record { next = c.next; equalities = l }) (append-nil c.equalities)

-- at most n equalities and ids from `next` on
pub record Few (c : Cuts) (n next : ℕ) : Type 0 where
  pub equalities : length c.equalities ≤ n
  pub ids : c.next ≤ next + n

pub few-none : (n : ℕ) → Few (record { next = n; equalities = [] }) 0 n
few-none n = record { equalities = omega arith; ids = omega arith }

pub few-join : (c d : Cuts) {m n next : ℕ} → Few c m next → Few d n c.next → Few (joined c.equalities d) (m + n) next
unfolding joined
few-join c d f g =
    record { equalities = omega (arith, length-append c.equalities d.equalities, f.equalities, g.equalities); ids = omega (arith, f.ids, g.ids) }

pub few-less : (c : Cuts) {m n next : ℕ} → Few c m next → m ≤ n → Few c n next
few-less c f l = record { equalities = omega (arith, f.equalities); ids = omega (arith, f.ids) }

-- what is left of the room for them and more
pub room-puts : {b b' : List ℕ} {at next : ℕ} (c : Cuts) {r : Place} (m n : ℕ) → Few c m next → Puts b b' at c r → Room (m + n) at next b
    → Room n r.at r.next b'
unfolding after
room-puts {b} {at = at} c m n f l h =
    let i = place_at at c l.1 in
    let j = place-next at c l.1 in
    let k = ap length l.0 ∙ length-put b at c.equalities in
    record { words = omega (arith, h.words, f.equalities); ids = omega (arith, h.ids, f.ids) }
