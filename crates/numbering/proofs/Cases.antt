-- A module with every way to bind a name, numbered as the Rust numbers it, and its inputs.
use mathlib.Core.Path.{◌≡◌, refl}
use mathlib.Core.List.{[], ◌∷◌}
use lib.IntN.{pos}
use Rattle.field.specs.declared.InfixOp.TheVariants.{Multiply, Add, Equal}
use Rattle.source.specs.Trees.{unit_p, nil_p, as_p, product_p, cons_p, variable_p, constant_p, sequence, binary, negate}
use Rattle.source.specs.Trees.{application, variable, function, letting, matching, last, ◌then◌, empty, no_arm, arm, Module}
use Rattle.numbering.specs.Numbering.{Numbered, found, ◌>>=◌, return, generate_id, chosen, number_variable, number_pattern_variables, number_parameters}
use Rattle.numbering.specs.Numbering.{number_expr_variables, number_items, number_arms, number_def_variables, number_publics, number_definitions}
use Rattle.numbering.specs.Numbering.{number_expressions, number_module_variables, fresh_text, same_text, named, registered, names_of, numbered}
use Rattle.numbering.specs.Inputs.{member, binding, bindings, free_variables, free_in_items, free_in_arms}
use Rattle.numbering.specs.Inputs.{free_in_definitions, defining, free_in_expressions, free_in_module, inputs, input_ids}

-- pub x, q;
-- def (a, (b : [])) as w = fun x 3 { x + fresh y };
-- def y = { def x = x * y; x; match x { (p, p) => p, () => a } };
-- y = -x;
abbrev pub source : Module
source = record {
  names = (120 ∷ []) ∷ (113 ∷ []) ∷ (97 ∷ []) ∷ (98 ∷ []) ∷ (119 ∷ []) ∷ fresh_text ∷ (121 ∷ []) ∷ (112 ∷ []) ∷ [];
  publics = 0 ∷ 1 ∷ [];
  definitions = (
    as_p (product_p (variable_p 2) (cons_p (variable_p 3) nil_p)) 4,
    function (variable_p 0 ∷ constant_p (pos 3) ∷ []) (binary Add (variable 0) (application (variable 5) (variable 6))) empty,
  )
      ∷ (
        variable_p 6,
        letting (variable_p 0) (binary Multiply (variable 0) (variable 6))
            (sequence (variable 0 then last (matching (variable 0)
            (arm (product_p (variable_p 7) (variable_p 7)) (variable 7) (arm unit_p (variable 2) no_arm))))),
      )
      ∷ [];
  expressions = binary Equal (variable 6) (negate (variable 0)) ∷ [];
}

abbrev pub answer : Numbered
answer = record {
  next = 20;
  publics = 9 ∷ 10 ∷ [];
  definitions = (
    as_p (product_p (variable_p 13) (cons_p (variable_p 14) nil_p)) 15,
    function (variable_p 11 ∷ constant_p (pos 3) ∷ []) (binary Add (variable 11) (application (variable 0) (variable 12))) empty,
  )
      ∷ (
        variable_p 19,
        letting (variable_p 16) (binary Multiply (variable 9) (variable 12))
            (sequence
            (variable 16 then last (matching (variable 16) (arm (product_p (variable_p 17) (variable_p 18)) (variable 18) (arm unit_p (variable 13) no_arm))))),
      )
      ∷ [];
  expressions = binary Equal (variable 19) (negate (variable 9)) ∷ [];
}

pub case-numbered : numbered source ≡ answer
unfolding found ◌>>=◌ return generate_id chosen number_variable number_pattern_variables number_parameters number_expr_variables number_items number_arms
    number_def_variables number_publics number_definitions number_expressions number_module_variables same_text named registered names_of numbered
case-numbered = refl

-- fresh, y, x, y, x, and their ids
pub case-inputs : inputs source ≡ 5 ∷ 6 ∷ 0 ∷ 6 ∷ 0 ∷ []
unfolding member binding bindings free_variables free_in_items free_in_arms free_in_definitions defining free_in_expressions free_in_module inputs
case-inputs = refl

pub case-input-ids : input_ids answer ≡ 0 ∷ 12 ∷ 9 ∷ 12 ∷ 9 ∷ []
unfolding member binding bindings free_variables free_in_items free_in_arms free_in_definitions defining free_in_expressions free_in_module input_ids
case-input-ids = refl
