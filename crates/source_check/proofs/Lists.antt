-- What a node's words use, and the loops over nodes, definitions and expressions. Assumes nothing.
use Prim.Native.Nat.{ℕ, ◌+◌, ◌<◌}
use mathlib.Core.Path.{◌≡◌, refl, sym}
use mathlib.Core.List.{List}
use mathlib.Core.Bool.{Bool, true, and-true, and-false}
use native.Mathlib.Omega.{arith}
use Rattle.std.specs.Prelude.{Option, Some, Ok, Err}
use Rattle.std.specs.Result.{IsErrAnd}
use Rattle.marks.specs.declared.Uses.{Uses}
use Rattle.marks.specs.Marks.{Adds}
use Rattle.marks.specs.Indices.{every, total}
use Rattle.marks.proofs.Indices.{every_more, every-fails, total-more}
use Rattle.marks.proofs.Counted.{adds_none, adds-more}
use Rattle.records.specs.declared.refusals.Refusal.{Refusal}
use Rattle.source.specs.Children.{Child, Children}
use Rattle.source.specs.declared.Node.{Node}
use Rattle.source.specs.Nodes.{three, children_of, child_fits, children_fit}
use Rattle.source.specs.Uses.{child_uses, children_use}
use Rattle.source_check.specs.Answer.{Checked}
use Rattle.source_check.specs.Marks.{Judged}
use Rattle.source_check.specs.declared.nodes.Nodes.{Nodes}
use Rattle.source_check.proofs.Marks.{accepted, judged-yes, judged-as, judged-stop, judged-then}

-- ---- the words of a node

module _ (n : Nodes) where
  abbrev Uses-child : Checked → Child → List Uses → List Uses → Type 0
  Uses-child r x m m' = Judged r (child_fits n.bytes.now n.at n.names n.count x) m m' (child_uses n.bytes.now n.at n.count x)

  abbrev Uses-children : Checked → Children → List Uses → List Uses → Type 0
  Uses-children r c m m' = Judged r (children_fit n.bytes.now n.at n.names n.count c) m m' (children_use n.bytes.now n.at n.count c)

  pub uses-none : {c : Children} {m : List Uses} → c ≡ three Child.Nothing Child.Nothing Child.Nothing → Uses-children (Ok tt) c m m
  unfolding children_fit children_use child_fits child_uses
  uses-none {m = m} e = rw e (judged-yes _ refl (adds_none m _ (λ j. refl)))

  pub uses-one : {c : Children} (x : Child) {r : Checked} {m m' : List Uses} → c ≡ three x Child.Nothing Child.Nothing → Uses-child r x m m'
      → Uses-children r c m m'
  unfolding children_fit children_use child_fits child_uses
  uses-one x e i = rw e (judged-as _ (sym (and-true _)) (λ j. omega arith) i)

  module _ (c : Children) {v : Checked} {m m₁ : List Uses} (i : Uses-child v c.first m m₁) where
    pub first-stops : {a : Refusal} {r : Checked} {m' : List Uses} → v ≡ Err a → IsErrAnd r (λ x. x ≡ a) → Uses-children r c m m'
    unfolding children_fit
    first-stops q h = judged-stop _ _ i q h (λ f. rw f)

    module _ (q : v ≡ Ok tt) {w : Checked} {m₂ : List Uses} (j : Uses-child w c.second m₁ m₂) where
      pub second-stops : {a : Refusal} {r : Checked} {m' : List Uses} → w ≡ Err a → IsErrAnd r (λ x. x ≡ a) → Uses-children r c m m'
      unfolding children_fit
      second-stops s h = judged-stop _ _ j s h (λ f. rw (f, and-false))

      pub uses-three : w ≡ Ok tt → {r : Checked} {m₃ : List Uses} → Uses-child r c.third m₂ m₃ → Uses-children r c m m₃
      unfolding children_fit children_use
      uses-three s l = judged-then _ _ i q (judged-then _ _ j s l)

  pub uses-two : {c : Children} (x y : Child) {v r : Checked} {m m₁ m₂ : List Uses} → c ≡ three x y Child.Nothing → Uses-child v x m m₁ → v ≡ Ok tt
      → Uses-child r y m₁ m₂ → Uses-children r c m m₂
  unfolding children_fit children_use child_fits child_uses
  uses-two x y e i q j = rw e (judged-then _ _ i q (judged-as _ (sym (and-true _)) (λ l. omega arith) j))

-- of a node that was read
pub of_read : (n : Nodes) (k : ℕ) {o : Option Node} {x : Node} {r : Checked} {m m' : List Uses} → o ≡ Some x
    → Judged r (children_fit n.bytes.now n.at n.names k (children_of (Some x))) m m' (children_use n.bytes.now n.at k (children_of (Some x)))
    → Judged r (children_fit n.bytes.now n.at n.names k (children_of o)) m m' (children_use n.bytes.now n.at k (children_of o))
of_read n k e j = rw e j

-- ---- the loops over nodes, definitions and expressions: at their start, after one more that fits, and where one does not

-- of the first n: each fits, and they use what the sum says
module _ (p : ℕ → Bool) (uses : ℕ → ℕ → ℕ) where
  abbrev All-fit : ℕ → Bool
  All-fit n = every n p

  abbrev All-use : ℕ → ℕ → ℕ
  All-use n k = total n (λ j. uses j k)

  pub all-none : {m : List Uses} → (every 0 p ≡ true) × Adds m m (All-use 0)
  unfolding every total
  all-none {m} = (refl, adds_none m _ (λ k. refl))

  pub all-more : (k : ℕ) {m m₁ m₂ : List Uses} {v : Checked} → (every k p ≡ true) × Adds m m₁ (All-use k) → Judged v (p k) m₁ m₂ (uses k) → v ≡ Ok tt
      → (every (k + 1) p ≡ true) × Adds m m₂ (All-use (k + 1))
  all-more k h j q =
      (every_more k p h.0 (accepted Refusal.Entry _ j.0 q), adds-more (All-use (k + 1)) h.1 (j.1 q) (λ i. total-more k (λ l. uses l i)))

  pub all-stops : (n k : ℕ) → k < n → {m m' m₁ m₂ : List Uses} {r v : Checked} {a : Refusal} → Judged v (p k) m₁ m₂ (uses k) → v ≡ Err a
      → IsErrAnd r (λ x. x ≡ a) → Judged r (every n p) m m' (All-use n)
  all-stops n k l j q h = judged-stop _ _ j q h (λ f. sym (every-fails n k p l f))

  pub all-done : (n : ℕ) {m m' : List Uses} → (every n p ≡ true) × Adds m m' (All-use n) → Judged (Ok tt) (every n p) m m' (All-use n)
  all-done n h = judged-yes _ h.0 h.1
