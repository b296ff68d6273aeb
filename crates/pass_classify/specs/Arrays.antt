-- The arrays by id that the code's passes share, and what they stand for: how each id is used, and which ids are the prover's.
use Rattle.std.specs.Prelude.{◌≡◌, List, Bool, false, not, ℕ, zero, suc, length, get_or}
use Rattle.std.proofs.Math.Path.{refl, sym, ap, ◌∙◌}
use mathlib.Core.HLevel.{collapsible→set}
use Rattle.std.proofs.Math.Nat.{ℕ_set}
use Rattle.std.proofs.Math.Bool.{Bool-set}
use Rattle.flat.specs.Trees.{Definition}
use Rattle.flat.specs.Record.{rows, module_of}
use Rattle.pass_trees.specs.declared.Usage.{Usage}
use Rattle.pass_trees.specs.declared.Usage.TheVariants.{Never, Witness, Constraint}
use Rattle.pass_trees.specs.Passes.{member, those, is_never, usage, classify_defs}
use Rattle.records.specs.FlatRecord.{IDS}

-- how an array says that each id is used
abbrev pub usage_of : List Usage → ℕ → Usage
usage_of m v = get_or m v Never

-- the ids that an array marks
abbrev pub marked : List Bool → ℕ → Bool
marked m v = get_or m v false

-- an array by the 65,536 ids that says how each is used, and one that marks those of a set
pub record Uses (m : List Usage) (f : ℕ → Usage) : Type 0 where
  pub says : usage_of m ≡ f
  pub long : length m ≡ IDS

pub record Marks (m : List Bool) (f : ℕ → Bool) : Type 0 where
  pub says : marked m ≡ f
  pub long : length m ≡ IDS

-- of the record with the bytes b: the prover ids after classify_defs; those of some definitions that are used, and of these the counted ones
unfoldable pub provers_of : List ℕ → List ℕ
provers_of b = (classify_defs (module_of b)).provers

unfoldable pub used_of : List ℕ → List Definition → List Definition
used_of b ds = those (λ v. not (is_never (usage (module_of b) v))) ds

unfoldable pub counted_of : List ℕ → List Definition → List Definition
counted_of b ds = those (λ v. not (member v (provers_of b))) (used_of b ds)

-- the arrays after classify_defs of that record, by the 65,536 ids: how each is used, and whether it is the prover's then
unfoldable pub usages_of : List ℕ → List Usage
usages_of b = rows IDS 0 (usage (module_of b))

unfoldable pub marks_of : List ℕ → List Bool
marks_of b = rows IDS 0 (λ v. member v (provers_of b))

-- what the passes know of these arrays: that this is read from them (`classified-of` in proofs/Whole.antt)
pub record Classified (b : List ℕ) (usages : List Usage) (provers : List Bool) : Type 0 where
  pub used : usage_of usages ≡ usage (module_of b)
  pub proved : marked provers ≡ (λ v. member v (classify_defs (module_of b)).provers)
  pub usages-long : length usages ≡ IDS
  pub provers-long : length provers ≡ IDS

-- at most one proof says so: usages are told apart by numbers
number_of : Usage → ℕ
number_of Never = 0
number_of Witness = 1
number_of Constraint = 2

numbered : ℕ → Usage
numbered zero = Never
numbered (suc zero) = Witness
numbered (suc (suc n)) = Constraint

numbered-back : (u : Usage) → numbered (number_of u) ≡ u
unfolding number_of numbered
numbered-back Never = refl
numbered-back Witness = refl
numbered-back Constraint = refl

Usage-set : IsSet Usage
Usage-set = collapsible→set
    (λ x y p. sym (numbered-back x) ∙ ap numbered (ap number_of p) ∙ numbered-back y)
    (λ x y p q. ap (λ z. sym (numbered-back x) ∙ ap numbered z ∙ numbered-back y) (ℕ_set (number_of x) (number_of y) (ap number_of p) (ap number_of q)))

pub Classified-prop : {b : List ℕ} {usages : List Usage} {provers : List Bool} → IsProp (Classified b usages provers)
Classified-prop = hlevel (Usage-set, Bool-set, ℕ_set)
