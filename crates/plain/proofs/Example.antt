-- A plain module with a public name, a name defined over an input, a let that hides the name it reads, and an unused division: the theorem at it.
-- pub x; def y = 1 / x; def x = x * (def x = x + 1; x * x); x = w
use mathlib.Core.Path.{◌≡◌, refl}
use mathlib.Core.Bool.{true, false, cond}
use mathlib.Core.List.{[], ◌∷◌}
use Prim.Native.Nat.{ℕ}
use lib.IntN.{ℤ, pos}
use lib.Dec.{eqb}
use Rattle.std.specs.Prelude.{Some}
use Rattle.field.specs.declared.InfixOp.TheVariants.{Divide, Multiply, Add, Equal}
use Rattle.field.specs.Prime.{P}
use Rattle.field.specs.Element.{elem}
use Rattle.source.specs.Trees.{variable_p, binary, constant, variable, letting, matching, no_arm, arm, Module}
use Rattle.flat.specs.Trees.{Flat, FlatModule}
use Rattle.flat.specs.Meaning.{update, Assignment, Elements, on_values, negated, value, or_zero, worked_out}
use Rattle.numbering.specs.Numbering.{found, same_text, named, registered}
use Rattle.eval_trees.specs.Evaluation.{flat, evaluated}
use Rattle.eval_trees.proofs.Compute.{answer_of}
use Rattle.plain.specs.Plain.{is_arithmetic, is_free, is_plain_name, is_plain_pattern, is_plain_expr, is_equal, is_plain_equation}
use Rattle.plain.specs.Plain.{are_plain_publics, are_plain_definitions, are_plain_equations, is_plain_body, is_plain}
use Rattle.plain.specs.Meaning.{write, through, value_of, sides_of, sides, start, NoDivisorZero}
use Rattle.plain.specs.Meaning
use Rattle.plain.specs.Statements.{Gives, PlainFlat, SaysTheSame}
use Rattle.plain.proofs.Agreement.{plain-modules-agree}
use Rattle.plain.proofs.Condition.{plain-has-plain-body}

-- x is name 0, y 1, w 2
abbrev pub source : Module
source = record {
  names = (120 ∷ []) ∷ (121 ∷ []) ∷ (119 ∷ []) ∷ [];
  publics = 0 ∷ [];
  definitions =
      (variable_p 1, binary Divide (constant (pos 1)) (variable 0))
      ∷ (
        variable_p 0,
        binary Multiply (variable 0) (letting (variable_p 0) (binary Add (variable 0) (constant (pos 1))) (binary Multiply (variable 0) (variable 0))),
      )
      ∷ [];
  expressions = binary Equal (variable 0) (variable 2) ∷ [];
}

-- x is v9, w v13
abbrev pub made : FlatModule
made = record {
  next = 18;
  publics = 9 ∷ [];
  provers = [];
  definitions =
      record { id = 14; right = Flat.infixed Divide (Flat.constant (pos 1)) (Flat.variable 9); place = 0 }
      ∷ record { id = 10; right = Flat.variable 14; place = 0 }
      ∷ record { id = 15; right = Flat.infixed Add (Flat.variable 9) (Flat.constant (pos 1)); place = 1 }
      ∷ record { id = 11; right = Flat.variable 15; place = 1 }
      ∷ record { id = 16; right = Flat.infixed Multiply (Flat.variable 15) (Flat.variable 15); place = 1 }
      ∷ record { id = 17; right = Flat.infixed Multiply (Flat.variable 9) (Flat.variable 16); place = 1 }
      ∷ record { id = 12; right = Flat.variable 17; place = 1 }
      ∷ [];
  equations = record { left = Flat.variable 17; right = Flat.variable 13; place = 2 } ∷ [];
}

pub is-plain : is_plain source ≡ true
unfolding is_plain is_plain_body is_arithmetic is_free is_plain_name is_plain_pattern is_plain_expr is_equal is_plain_equation are_plain_publics
    are_plain_definitions
    are_plain_equations found same_text named registered
is-plain = refl

-- a match is not plain
match-not-plain : is_plain
    (record { names = []; publics = []; definitions = []; expressions = matching (constant (pos 1)) (arm (variable_p 0) (variable 0) no_arm) ∷ [] }) ≡ false
unfolding is_plain is_plain_body is_arithmetic is_free is_plain_name is_plain_pattern is_plain_expr is_equal is_plain_equation are_plain_publics
    are_plain_definitions
    are_plain_equations found same_text named registered
match-not-plain = refl

-- a public that is fresh: pub fresh; x = 1. The test on publics alone turns it down, and the theorem is about it too
abbrev fresh-public : Module
fresh-public = record {
  names = (102 ∷ 114 ∷ 101 ∷ 115 ∷ 104 ∷ []) ∷ (120 ∷ []) ∷ [];
  publics = 0 ∷ [];
  definitions = [];
  expressions = binary Equal (variable 1) (constant (pos 1)) ∷ [];
}

fresh-public-not-plain : is_plain fresh-public ≡ false
unfolding is_plain is_plain_body is_arithmetic is_free is_plain_name is_plain_pattern is_plain_expr is_equal is_plain_equation are_plain_publics
    are_plain_definitions
    are_plain_equations found same_text named registered
fresh-public-not-plain = refl

fresh-public-body : is_plain_body fresh-public ≡ true
unfolding is_plain_body is_arithmetic is_free is_plain_name is_plain_pattern is_plain_expr is_equal is_plain_equation are_plain_definitions
    are_plain_equations found
    same_text named registered
fresh-public-body = refl

abbrev fresh-public-made : FlatModule
fresh-public-made =
    record {
      next = 10;
      publics = 0 ∷ [];
      provers = [];
      definitions = [];
      equations = record { left = Flat.variable 9; right = Flat.constant (pos 1); place = 0 } ∷ [];
    }

fresh-public-makes : evaluated 65535 (Rattle.numbering.specs.Numbering.numbered fresh-public) ≡ flat fresh-public-made
unfolding answer_of
fresh-public-makes = refl

fresh-public-shape : PlainFlat fresh-public fresh-public-made
fresh-public-shape = (plain-modules-agree fresh-public fresh-public-body 65535 fresh-public-made fresh-public-makes).0

makes : evaluated 65535 (Rattle.numbering.specs.Numbering.numbered source) ≡ flat made
unfolding answer_of
makes = refl

-- worked out from the top, at x = 2 and w = 18: x becomes 2 * (2 + 1) * (2 + 1)
at-two : ℕ → ℤ
at-two x = cond (eqb x 0) (pos 2) (pos 18)

sides-at-two : sides (Meaning.defined (start at-two) source.definitions) source.expressions ≡ (Some (pos 18), Some (pos 18)) ∷ []
unfolding answer_of at-two update on_values negated write through value_of Meaning.defined sides_of sides
sides-at-two = refl

-- and the flat list, from v9 = 2 and v13 = 18
flat-at-two : worked_out made.definitions (λ i. cond (eqb i 9) (pos 2) (pos 18)) 17 ≡ pos 18
unfolding answer_of update on_values negated value or_zero worked_out
flat-at-two = refl

pub shape : PlainFlat source made
shape = (plain-modules-agree source (plain-has-plain-body source is-plain) 65535 made makes).0

-- for every x that is not 0
pub agrees : (ρ : ℕ → ℤ) → ((x : ℕ) → elem P (ρ x) ≡ ρ x) → NoDivisorZero source ρ → (υ : Assignment) → Elements υ → Gives source ρ υ
    → SaysTheSame source ρ made υ (worked_out made.definitions υ)
agrees = (plain-modules-agree source (plain-has-plain-body source is-plain) 65535 made makes).1
