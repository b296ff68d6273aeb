-- What is shown of the flat module without places holds of it with them. Assumes nothing.
use mathlib.Core.Path.{◌≡◌, refl, sym, ap, subst, ◌∙◌}
use mathlib.Core.Bool.{Bool, true, false, ◌||◌}
use mathlib.Core.List.{List, [], ◌∷◌}
use Prim.Native.Nat.{ℕ, ◌≤◌}
use lib.Dec.{eqb}
use lib.IntN.{ℤ}
use Rattle.field.specs.Operations.{Answer}
use Rattle.source.specs.Trees.{Expr}
use Rattle.flat.specs.Trees.{Definition, Equation, FlatModule, defines}
use Rattle.flat.specs.Places.{definition_placed, place_definitions, place_equations, place_module}
use Rattle.flat.specs.Rules.{All, Every}
use Rattle.flat.specs.Meaning.{update, Assignment, Elements, value, or_zero, worked_out}
use Rattle.flat.proofs.PlaceLaws.{equations-placed}
use Rattle.plain.specs.Meaning.{Table}
use Rattle.plain.proofs.Order.{From, OnceInOrder}
use Rattle.plain.proofs.OrderModules.{InOrder, every_map}
use Rattle.plain.proofs.Modules.{flat_sides, InTurnValued, Kept}

defines-placed : (ps : List ℕ) (ds : List Definition) (v : ℕ) → defines (place_definitions ps ds) v ≡ defines ds v
unfolding place_definitions defines
defines-placed [] [] v = refl
defines-placed (p ∷ ps) [] v = refl
defines-placed [] (d ∷ ds) v = refl
defines-placed (p ∷ ps) (d ∷ ds) v = ap (λ (b : Bool). eqb v d.id || b) (defines-placed ps ds v)

-- ---- values

in-turn-placed : (ps : List ℕ) (ds : List Definition) (ρ : Assignment) → InTurnValued ρ ds → InTurnValued ρ (place_definitions ps ds)
unfolding place_definitions
in-turn-placed [] [] ρ h = tt
in-turn-placed (p ∷ ps) [] ρ h = tt
in-turn-placed [] (d ∷ ds) ρ h = h
in-turn-placed (p ∷ ps) (d ∷ ds) ρ h = (h.0, in-turn-placed ps ds _ h.1)

worked-placed : (ps : List ℕ) (ds : List Definition) (ρ : Assignment) → worked_out (place_definitions ps ds) ρ ≡ worked_out ds ρ
unfolding place_definitions worked_out
worked-placed [] [] ρ = refl
worked-placed (p ∷ ps) [] ρ = refl
worked-placed [] (d ∷ ds) ρ = refl
worked-placed (p ∷ ps) (d ∷ ds) ρ = worked-placed ps ds _

sides-placed : (qs : List ℕ) (es : List Equation) (σ : Assignment) → flat_sides σ (place_equations qs es) ≡ flat_sides σ es
unfolding place_equations flat_sides
sides-placed [] [] σ = refl
sides-placed (q ∷ qs) [] σ = refl
sides-placed [] (e ∷ es) σ = refl
sides-placed (q ∷ qs) (e ∷ es) σ = ap (λ (l : List (Answer × Answer)). (value σ e.left, value σ e.right) ∷ l) (sides-placed qs es σ)

module _ (B : ℕ → Bool) (N : ℕ) (beyond : (x : ℕ) → N ≤ x → B x ≡ false) (t : Assignment) (elements : Elements t) where
  pub kept-placed : (ps qs : List ℕ) (τ : Table) (es : List Expr) (f : FlatModule) → Kept B N beyond t elements τ es f
      → Kept B N beyond t elements τ es (place_module ps qs f)
  unfolding place_module
  kept-placed ps qs τ es f k = record {
    no-provers = k.no-provers;
    in-turn = in-turn-placed ps f.definitions t k.in-turn;
    same-sides = ap (λ (w : Assignment). flat_sides w (place_equations qs f.equations)) (worked-placed ps f.definitions t)
        ∙ sides-placed qs f.equations _
        ∙ k.same-sides;
  }

-- ---- order

from-same : (I : ℕ → Type 0) (ds es : List Definition) → ((v : ℕ) → defines es v ≡ defines ds v) → (v : ℕ) → From I ds v → From I es v
from-same I ds es h v f e = f (sym (h v) ∙ e)

once-placed : (I : ℕ → Type 0) (ps : List ℕ) (seen seen′ ds : List Definition) → ((v : ℕ) → defines seen′ v ≡ defines seen v)
    → OnceInOrder I seen ds → OnceInOrder I seen′ (place_definitions ps ds)
unfolding place_definitions defines
once-placed I [] seen seen′ [] h o = tt
once-placed I (p ∷ ps) seen seen′ [] h o = tt
once-placed I [] seen seen′ (d ∷ ds) h o = (
  h d.id ∙ o.0,
  o.1,
  every_map _ _ (from-same I seen seen′ h) d.right o.2,
  subst (OnceInOrder I (d ∷ seen′)) (none-placed ds) (once-placed I [] (d ∷ seen) (d ∷ seen′) ds (λ v. ap (λ (b : Bool). eqb v d.id || b) (h v)) o.3),
)
  where
    none-placed : (ds : List Definition) → place_definitions [] ds ≡ ds
    none-placed [] = refl
    none-placed (d ∷ ds) = refl
once-placed I (p ∷ ps) seen seen′ (d ∷ ds) h o = (
  h d.id ∙ o.0,
  o.1,
  every_map _ _ (from-same I seen seen′ h) d.right o.2,
  once-placed I ps (d ∷ seen) (definition_placed p d ∷ seen′) ds (λ v. ap (λ (b : Bool). eqb v d.id || b) (h v)) o.3,
)

all-same : {A : Type 0} (Q S : A → Type 0) → ((a : A) → Q a → S a) → (xs : List A) → All Q xs → All S xs
all-same Q S f [] h = tt
all-same Q S f (x ∷ xs) h = (f x h.0, all-same Q S f xs h.1)

pub order-placed : (I : ℕ → Type 0) (ps qs : List ℕ) (f : FlatModule) → InOrder I f → InOrder I (place_module ps qs f)
unfolding place_module
order-placed I ps qs f o =
    let same = defines-placed ps f.definitions in
    let from = from-same I f.definitions (place_definitions ps f.definitions) same in
    record {
      no-provers = o.no-provers;
      definitions = once-placed I ps [] [] f.definitions (λ v. refl) o.definitions;
      equations = equations-placed _ (λ p e h. h) qs f.equations
          (all-same _ _ (λ e h. (every_map _ _ from e.left h.0, every_map _ _ from e.right h.1)) f.equations o.equations);
      inputs-below = o.inputs-below;
      defined-below = λ x h. o.defined-below x (sym (same x) ∙ h);
      publics-below = o.publics-below;
    }
