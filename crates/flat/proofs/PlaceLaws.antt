-- Places given to a module change nothing else of it. Assumes nothing.
use mathlib.Core.Path.{◌≡◌, refl, sym, ap, ap₂, subst}
use mathlib.Core.List.{List, [], ◌∷◌}
use Prim.Native.Nat.{ℕ, suc, ◌+◌, ◌≤◌}
use lib.ListN.{length}
use Rattle.records.specs.FlatRecord.{LISTED, NODES}
use Rattle.flat.specs.Trees.{Definition, Equation, FlatModule, tree_nodes, definitions_nodes, equations_nodes, module_nodes}
use Rattle.flat.specs.Rules.{All, Recordable}
use Rattle.flat.specs.Places.{definition_placed, equation_placed, place_definitions, place_equations, place_module, bare_definitions, bare_equations, bare}

-- what holds of every entry, whatever its place, holds of the placed ones
pub definitions-placed : (Q : Definition → Type 0) → ((p : ℕ) (d : Definition) → Q d → Q (definition_placed p d)) → (ps : List ℕ) (ds : List Definition)
    → All Q ds → All Q (place_definitions ps ds)
unfolding place_definitions
definitions-placed Q f [] [] h = tt
definitions-placed Q f (p ∷ ps) [] h = tt
definitions-placed Q f [] (d ∷ ds) h = h
definitions-placed Q f (p ∷ ps) (d ∷ ds) h = (f p d h.0, definitions-placed Q f ps ds h.1)

pub equations-placed : (Q : Equation → Type 0) → ((p : ℕ) (e : Equation) → Q e → Q (equation_placed p e)) → (ps : List ℕ) (es : List Equation)
    → All Q es → All Q (place_equations ps es)
unfolding place_equations
equations-placed Q f [] [] h = tt
equations-placed Q f (p ∷ ps) [] h = tt
equations-placed Q f [] (e ∷ es) h = h
equations-placed Q f (p ∷ ps) (e ∷ es) h = (f p e h.0, equations-placed Q f ps es h.1)

pub definitions-many : (ps : List ℕ) (ds : List Definition) → length (place_definitions ps ds) ≡ length ds
unfolding place_definitions
definitions-many [] [] = refl
definitions-many (p ∷ ps) [] = refl
definitions-many [] (d ∷ ds) = refl
definitions-many (p ∷ ps) (d ∷ ds) = ap suc (definitions-many ps ds)

pub equations-many : (ps : List ℕ) (es : List Equation) → length (place_equations ps es) ≡ length es
unfolding place_equations
equations-many [] [] = refl
equations-many (p ∷ ps) [] = refl
equations-many [] (e ∷ es) = refl
equations-many (p ∷ ps) (e ∷ es) = ap suc (equations-many ps es)

pub definitions-nodes : (ps : List ℕ) (ds : List Definition) → definitions_nodes (place_definitions ps ds) ≡ definitions_nodes ds
unfolding place_definitions definitions_nodes
definitions-nodes [] [] = refl
definitions-nodes (p ∷ ps) [] = refl
definitions-nodes [] (d ∷ ds) = refl
definitions-nodes (p ∷ ps) (d ∷ ds) = ap (λ (n : ℕ). tree_nodes d.right + n) (definitions-nodes ps ds)

pub equations-nodes : (ps : List ℕ) (es : List Equation) → equations_nodes (place_equations ps es) ≡ equations_nodes es
unfolding place_equations equations_nodes
equations-nodes [] [] = refl
equations-nodes (p ∷ ps) [] = refl
equations-nodes [] (e ∷ es) = refl
equations-nodes (p ∷ ps) (e ∷ es) = ap (λ (n : ℕ). tree_nodes e.left + tree_nodes e.right + n) (equations-nodes ps es)

pub module-nodes : (ps qs : List ℕ) (f : FlatModule) → module_nodes (place_module ps qs f) ≡ module_nodes f
unfolding place_module module_nodes
module-nodes ps qs f = ap₂ ◌+◌ (definitions-nodes ps f.definitions) (equations-nodes qs f.equations)

-- taken out again they leave the lists that there were
pub bare-definitions : (ps : List ℕ) (ds : List Definition) → bare_definitions (place_definitions ps ds) ≡ bare_definitions ds
unfolding place_definitions bare_definitions
bare-definitions [] [] = refl
bare-definitions (p ∷ ps) [] = refl
bare-definitions [] (d ∷ ds) = refl
bare-definitions (p ∷ ps) (d ∷ ds) = ap (λ (l : List Definition). definition_placed 0 d ∷ l) (bare-definitions ps ds)

pub bare-equations : (ps : List ℕ) (es : List Equation) → bare_equations (place_equations ps es) ≡ bare_equations es
unfolding place_equations bare_equations
bare-equations [] [] = refl
bare-equations (p ∷ ps) [] = refl
bare-equations [] (e ∷ es) = refl
bare-equations (p ∷ ps) (e ∷ es) = ap (λ (l : List Equation). equation_placed 0 e ∷ l) (bare-equations ps es)

pub bare-placed : (ps qs : List ℕ) (f : FlatModule) → bare (place_module ps qs f) ≡ bare f
unfolding place_module bare
bare-placed ps qs f =
    let d = bare-definitions ps f.definitions in
    let e = bare-equations qs f.equations in
    λ i. record { next = f.next; publics = f.publics; provers = f.provers; definitions = d i; equations = e i }

-- so a record can be made of it where one can be made of the module
pub placed-recordable : (ps qs : List ℕ) (f : FlatModule) → Recordable f → Recordable (place_module ps qs f)
unfolding place_module
placed-recordable ps qs f r = record {
  publics-below = r.publics-below;
  provers-below = r.provers-below;
  provers-rise = r.provers-rise;
  definitions-below = definitions-placed _ (λ p d h. h) ps f.definitions r.definitions-below;
  equations-below = equations-placed _ (λ p e h. h) qs f.equations r.equations-below;
  provers-fit = r.provers-fit;
  definitions-fit = subst (λ (n : ℕ). n ≤ LISTED) (sym (definitions-many ps f.definitions)) r.definitions-fit;
  equations-fit = subst (λ (n : ℕ). n ≤ LISTED) (sym (equations-many qs f.equations)) r.equations-fit;
  nodes-fit = subst (λ (n : ℕ). n ≤ NODES) (sym (module-nodes ps qs f)) r.nodes-fit;
  next_fits = r.next_fits;
}
