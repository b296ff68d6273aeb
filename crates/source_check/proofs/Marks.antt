-- A test's outcome as an answer, with what is left in the marks: of one test, of two joined by "and", and at the exit of a `?`. Assumes nothing.
use Prim.Native.Nat.{ℕ, ◌+◌}
use mathlib.Core.Path.{◌≡◌, refl, sym, ap, ◌∙◌}
use mathlib.Core.List.{List}
use mathlib.Core.Bool.{Bool, true, false, ◌&&◌}
use Rattle.std.specs.Prelude.{Option, Some, None, Result, Ok, Err, ok_or}
use Rattle.std.specs.Result.{IsErrAnd}
use Rattle.std.proofs.lemmas.Result.{err_from_is_err_and}
use Rattle.marks.specs.declared.Uses.{Uses}
use Rattle.marks.specs.Marks.{Adds}
use Rattle.marks.proofs.Counted.{adds_none, adds-more, adds_same}
use Rattle.records.specs.declared.refusals.Refusal.{Refusal}
use Rattle.source_check.specs.Answer.{Checked}
use Rattle.source_check.specs.Marks.{verdict, Judged}

-- ---- a test's outcome

pub accepts : (r : Refusal) (t : Bool) → t ≡ true → Ok tt ≡ verdict r t
unfolding verdict
accepts r t e = rw e

pub refuses : (r : Refusal) (t : Bool) → t ≡ false → Err r ≡ verdict r t
unfolding verdict
refuses r t e = rw e

pub accepted : (n : Refusal) (t : Bool) {r : Checked} → r ≡ verdict n t → r ≡ Ok tt → t ≡ true
unfolding verdict
accepted n true e q = refl
accepted n false {r} e q = cc

pub refused : (n : Refusal) (t : Bool) {r : Checked} {m : Refusal} → r ≡ verdict n t → r ≡ Err m → (t ≡ false) × (m ≡ n)
unfolding verdict
refused n true {r} e q = cc
refused n false e q = (refl, cc)

-- what a `?` returns is its callee's refusal
pub passes-on : (n : Refusal) (t : Bool) {r v : Checked} {m : Refusal} → v ≡ verdict n t → v ≡ Err m → IsErrAnd r (λ x. x ≡ m) → r ≡ Err n
passes-on n t {r} e q h =
    let p = err_from_is_err_and r h in
    p.1 ∙ ap (λ (x : Refusal). Err x) (p.2 ∙ (refused n t e q).1)

-- what is read, where it is there or Refusal.Entry says that it is not
read-ok : {A : Type 0} (o : Option A) {v : Result A Refusal} {x : A} → v ≡ ok_or o Refusal.Entry → v ≡ Ok x → o ≡ Some x
read-ok None e q = cc
read-ok (Some y) e q = cc

read-err : {A : Type 0} (o : Option A) {v : Result A Refusal} {m : Refusal} → v ≡ ok_or o Refusal.Entry → v ≡ Err m → (o ≡ None) × (m ≡ Refusal.Entry)
read-err None e q = (refl, cc)
read-err (Some y) e q = cc

pub there : {A : Type 0} {o : Option A} {v : Result A Refusal} {x : A} → v ≡ ok_or o Refusal.Entry → v ≡ Ok x → o ≡ Some x
there {o = o} e q = read-ok o e q

pub missing : {A : Type 0} {o : Option A} {v : Result A Refusal} {m : Refusal} {r : Checked} → v ≡ ok_or o Refusal.Entry → v ≡ Err m → IsErrAnd r (λ x. x ≡ m)
    → (o ≡ None) × (r ≡ Err Refusal.Entry)
missing {o = o} {r = r} e q h =
    let p = err_from_is_err_and r h in
    let n = read-err o e q in
    (n.0, p.1 ∙ ap (λ (x : Refusal). Err x) (p.2 ∙ n.1))

-- ---- with the marks

module _ {m m' : List Uses} {g : ℕ → ℕ} where
  pub judged-yes : (t : Bool) → t ≡ true → Adds m m' g → Judged (Ok tt) t m m' g
  judged-yes t e a = (accepts Refusal.Entry t e, λ _. a)

  pub judged-no : {r : Checked} (t : Bool) → r ≡ Err Refusal.Entry → t ≡ false → Judged r t m m' g
  judged-no t q e = (q ∙ refuses Refusal.Entry t e, λ z. cc)

  -- a use of nothing
  pub judged-none : {r : Checked} (t : Bool) → r ≡ verdict Refusal.Entry t → m' ≡ m → ((k : ℕ) → g k ≡ 0) → Judged r t m m' g
  judged-none t e q z = (e, λ _. rw q (adds_none m g z))

  pub judged-as : {r : Checked} (t : Bool) {u : Bool} {f : ℕ → ℕ} → u ≡ t → ((k : ℕ) → g k ≡ f k) → Judged r u m m' f → Judged r t m m' g
  judged-as t e q j = (j.0 ∙ ap (verdict Refusal.Entry) e, λ a. adds_same g (j.1 a) q)

  -- the exit of a `?` whose callee's test is the first, or the second after one that holds
  pub judged-stop : (t : Bool) {m₁ m₂ : List Uses} {f : ℕ → ℕ} {r v : Checked} {n : Refusal} (u : Bool) → Judged v t m₁ m₂ f → v ≡ Err n
      → IsErrAnd r (λ x. x ≡ n)
      → (t ≡ false → u ≡ false) → Judged r u m m' g
  judged-stop t u j q h w = judged-no u (passes-on Refusal.Entry t j.0 q h) (w (refused Refusal.Entry t j.0 q).0)

-- after a `?` whose callee accepted
pub judged-then : (t u : Bool) {m m₁ m₂ : List Uses} {f g : ℕ → ℕ} {v r : Checked} → Judged v t m m₁ f → v ≡ Ok tt → Judged r u m₁ m₂ g
    → Judged r (t && u) m m₂ (λ k. f k + g k)
judged-then t u {f = f} {g = g} i q j =
    let h = accepted Refusal.Entry t i.0 q in
    (j.0 ∙ ap (λ (x : Bool). verdict Refusal.Entry (x && u)) (sym h), λ a. adds-more (λ k. f k + g k) (i.1 q) (j.1 a) (λ k. refl))
