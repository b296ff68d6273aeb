-- The arrays by id: what a store changes, how usages compare, and arrays with no marks. Assumes nothing.
use Prim.Native.Nat.{ℕ, ◌+◌, ◌≤◌, ◌<◌}
use mathlib.Core.Path.{◌≡◌, sym, ap, ◌∙◌, fun_ext}
use mathlib.Core.List.{List}
use mathlib.Core.Bool.{Bool, false}
use mathlib.Core.Logic.{⊎_elim}
use native.Mathlib.Omega.{arith}
use lib.ListN.{length, get_or, set, length-set, replicate, length-replicate, get_or-replicate, get_or-eq_default}
use lib.Seq.{get_or-set_same, get_or-set_other, ext_get_or}
use Rattle.flat.specs.Meaning.{update}
use Rattle.flat.specs.Record.{rows}
use Rattle.std.proofs.lemmas.Bool.{cases_lt, cases_eq}
use Rattle.flat.proofs.Rows.{length-rows, rows_at}
use Rattle.pass_trees.specs.declared.Usage.{Usage}
use Rattle.pass_trees.specs.declared.Usage.TheVariants.{Never}
use Rattle.pass_trees.proofs.Lists.{update_same, update_other}
use Rattle.pass_classify.specs.Arrays.{usage_of, marked, Uses}

-- a list of so many values, by what stands at each index
pub table_is : {A : Type 0} (d : A) (n : ℕ) (m : List A) (f : ℕ → A) → length m ≡ n → ((v : ℕ) → v < n → get_or m v d ≡ f v) → m ≡ rows n 0 f
table_is {A} d n m f l h =
    let at : (v : ℕ) → v < n → get_or (rows n 0 f) v d ≡ f v = λ v g. rows_at f n 0 v d g ∙ (let z : 0 + v ≡ v = omega arith in ap f z) in
    ext_get_or d m (rows n 0 f) (l ∙ sym (length-rows f n 0)) (λ v g. let k : v < n = omega arith in h v k ∙ sym (at v k))

-- ---- stores

pub usage-set : (m : List Usage) (v : ℕ) (u : Usage) → v < length m → usage_of (set m v u) ≡ update (usage_of m) v u
usage-set m v u l = fun_ext (λ w. ⊎_elim
    (λ (e : w ≡ v). rw e (get_or-set_same {A = Usage} m v u Never l ∙ sym (update_same (usage_of m) v u)))
    (λ (n : w ≡ v → ⊥). get_or-set_other {A = Usage} m v w u Never n ∙ sym (update_other (usage_of m) v u w n))
    (cases_eq w v))

pub uses-set : (m : List Usage) (v : ℕ) (u : Usage) → v < 65536 → length m ≡ 65536 → Uses (set m v u) (update (usage_of m) v u)
uses-set m v u l e = record { says = usage-set m v u (omega arith); long = length-set m v u ∙ e }

-- a map that is written what it has
pub update-none : {A : Type 0} (f : ℕ → A) (v : ℕ) (a : A) → f v ≡ a → update f v a ≡ f
update-none f v a e = fun_ext (λ w. ⊎_elim (λ (q : w ≡ v). rw q (update_same f v a ∙ sym e)) (λ (n : w ≡ v → ⊥). update_other f v a w n) (cases_eq w v))

pub uses-none : (m : List Usage) (v : ℕ) (u : Usage) → length m ≡ 65536 → usage_of m v ≡ u → Uses m (update (usage_of m) v u)
uses-none m v u l e = record { says = sym (update-none (usage_of m) v u e); long = l }

pub marked-set : (m : List Bool) (v : ℕ) (t : Bool) → v < length m → marked (set m v t) ≡ update (marked m) v t
marked-set m v t l = fun_ext (λ w. ⊎_elim
    (λ (e : w ≡ v). rw e (get_or-set_same {A = Bool} m v t false l ∙ sym (update_same (marked m) v t)))
    (λ (n : w ≡ v → ⊥). get_or-set_other {A = Bool} m v w t false n ∙ sym (update_other (marked m) v t w n))
    (cases_eq w v))

-- ---- no marks

pub none-used : usage_of (replicate 65536 Never) ≡ (λ _. Never)
none-used = fun_ext (λ v. ⊎_elim
    (λ (l : v < 65536). get_or-replicate 65536 v Never Never l)
    (λ (l : 65536 ≤ v). get_or-eq_default (replicate 65536 Never) Never {n = v} (omega (arith, length-replicate {A = Usage} 65536 Never)))
    (cases_lt v 65536))

pub none-marked : marked (replicate 65536 false) ≡ (λ _. false)
none-marked = fun_ext (λ v. ⊎_elim
    (λ (l : v < 65536). get_or-replicate 65536 v false false l)
    (λ (l : 65536 ≤ v). get_or-eq_default (replicate 65536 false) false {n = v} (omega (arith, length-replicate {A = Bool} 65536 false)))
    (cases_lt v 65536))
