-- The places of a flat module's entries: given to its lists, and taken out of them.
use Rattle.std.specs.Prelude.{List, [], ◌∷◌, ℕ}
use Rattle.flat.specs.Trees.{Definition, Equation, FlatModule}

abbrev pub definition_placed : ℕ → Definition → Definition
definition_placed p d = record { id = d.id; right = d.right; place = p }

abbrev pub equation_placed : ℕ → Equation → Equation
equation_placed p e = record { left = e.left; right = e.right; place = p }

-- each entry gets the place that stands where it stands; entries behind the last place stay
unfoldable pub place_definitions : List ℕ → List Definition → List Definition
place_definitions ps [] = []
place_definitions [] (d ∷ ds) = d ∷ ds
place_definitions (p ∷ ps) (d ∷ ds) = definition_placed p d ∷ place_definitions ps ds

unfoldable pub place_equations : List ℕ → List Equation → List Equation
place_equations ps [] = []
place_equations [] (e ∷ es) = e ∷ es
place_equations (p ∷ ps) (e ∷ es) = equation_placed p e ∷ place_equations ps es

unfoldable pub place_module : List ℕ → List ℕ → FlatModule → FlatModule
place_module ps qs f = record {
  next = f.next;
  publics = f.publics;
  provers = f.provers;
  definitions = place_definitions ps f.definitions;
  equations = place_equations qs f.equations;
}

-- the lists without their places
unfoldable pub bare_definitions : List Definition → List Definition
bare_definitions [] = []
bare_definitions (d ∷ ds) = definition_placed 0 d ∷ bare_definitions ds

unfoldable pub bare_equations : List Equation → List Equation
bare_equations [] = []
bare_equations (e ∷ es) = equation_placed 0 e ∷ bare_equations es

unfoldable pub bare : FlatModule → FlatModule
bare f = record {
  next = f.next;
  publics = f.publics;
  provers = f.provers;
  definitions = bare_definitions f.definitions;
  equations = bare_equations f.equations;
}
