-- What steps on a writer leave, one after the other. Assumes nothing.
use mathlib.Core.Path.{◌≡◌, ap, ◌∙◌}
use mathlib.Core.List.{List}
use denote.MutBor.{MutBor}
use Prim.Native.Nat.{ℕ}
use Rattle.constraint.specs.declared.Term.{Term}
use Rattle.pass_3ac.specs.declared.Writer.{Writer}
use Rattle.pass_3ac.specs.Cutting.{Cut}
use Rattle.pass_3ac.specs.Writers.{Placed, CutsPut}
use Rattle.pass_trees.specs.Passes.{Cuts}
use Rattle.pass_3ac.proofs.Joining.{Puts}

-- what a step leaves, as a pair
pub left : {b : List ℕ} {q : Cut} {t : Term} {v w : Writer} → Placed b q t v w
    → (w.body.now ≡ b) × (record { term = t; place = record { next = w.next; at = w.at } } ≡ q)
left p = (p.body_is, p.cut_is)

pub puts : {c : Cuts} {v w : Writer} → CutsPut c v w → Puts v.body.now w.body.now v.at c (record { next = w.next; at = w.at })
puts p = (p.body_is, p.place_is)

-- the slice that is lent stays the same one
pub lent-on : {A : Type 0} (x : MutBor A) {y z : MutBor A} → y ≡ record x { now = y.now } → z ≡ record y { now = z.now } → z ≡ record x { now = z.now }
lent-on {A} x {z = z} e f = f ∙ ap (λ (m : MutBor A). record m { now = z.now }) e

-- and so with the values that stand in it then
pub lent-as : {A : Type 0} (x : MutBor A) {y : MutBor A} {a : A} → y ≡ record x { now = y.now } → y.now ≡ a → y ≡ record x { now = a }
lent-as {A} x e q = e ∙ ap (λ (n : A). record x { now = n }) q
