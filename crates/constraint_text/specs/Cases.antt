-- "Case F [...] prints all of this": the text of its constraint list; and one with every other form of a line.
use Rattle.std.specs.Prelude.{◌≡◌, refl, List, [], ◌∷◌, ◌++◌, ℕ, pos, negsuc}
use Rattle.field.specs.Element.{res, centre, elem}
use Rattle.field.specs.declared.InfixOp.{InfixOp}
use Rattle.constraint.specs.declared.Term.{Term}
use Rattle.constraint.specs.Trees.{Side, ConstraintModule, operation, first, second, written_of}
use Rattle.constraint_text.specs.Text.{decimal_from, decimal, number_text, term_text, sign_of, between}
use Rattle.constraint_text.specs.Text.{side_text, equality_text, line_text, next_text, equalities_text, listing}

-- next 12; v10 = v0 + 1; v2 = v10 * v0; v2 = v1
abbrev pub case_f : ConstraintModule
case_f =
    record {
      next = 12;
      publics = [];
      provers = [];
      equalities =
          record { left = Term.Variable 10; right = Side.infixed InfixOp.Add (Term.Variable 0) (Term.Constant (pos 1)); place = 0 }
          ∷ record { left = Term.Variable 2; right = Side.infixed InfixOp.Multiply (Term.Variable 10) (Term.Variable 0); place = 0 }
          ∷ record { left = Term.Variable 2; right = Side.copy (Term.Variable 1); place = 1 }
          ∷ [];
      kept = [];
    }

abbrev pub case_f-text : List ℕ
case_f-text =
    (110 ∷ 101 ∷ 120 ∷ 116 ∷ 32 ∷ 49 ∷ 50 ∷ 10 ∷ [])
    ++ ((118 ∷ 49 ∷ 48 ∷ 32 ∷ 61 ∷ 32 ∷ 118 ∷ 48 ∷ 32 ∷ 43 ∷ 32 ∷ 49 ∷ 10 ∷ [])
    ++ ((118 ∷ 50 ∷ 32 ∷ 61 ∷ 32 ∷ 118 ∷ 49 ∷ 48 ∷ 32 ∷ 42 ∷ 32 ∷ 118 ∷ 48 ∷ 10 ∷ [])
    ++ (118 ∷ 50 ∷ 32 ∷ 61 ∷ 32 ∷ 118 ∷ 49 ∷ 10 ∷ [])))

pub case_f-printed : listing case_f ≡ case_f-text
unfolding decimal_from decimal number_text term_text sign_of between side_text equality_text line_text next_text equalities_text listing operation first
    second written_of res centre elem
case_f-printed = refl

-- next 0; -5 = --5; v65535 = -v0; 0 = 1073741823 % -1073741823
abbrev pub others : ConstraintModule
others =
    record {
      next = 0;
      publics = [];
      provers = [];
      equalities =
          record { left = Term.Constant (negsuc 4); right = Side.negate (Term.Constant (negsuc 4)); place = 4294967295 }
          ∷ record { left = Term.Variable 65535; right = Side.negate (Term.Variable 0); place = 0 }
          ∷ record {
            left = Term.Constant (pos 2147483647);
            right = Side.infixed InfixOp.Modulo (Term.Constant (pos 1073741823)) (Term.Constant (pos 1073741824));
            place = 7;
          }
          ∷ [];
      kept = [];
    }

abbrev pub others-text : List ℕ
others-text =
    (110 ∷ 101 ∷ 120 ∷ 116 ∷ 32 ∷ 48 ∷ 10 ∷ [])
    ++ ((45 ∷ 53 ∷ 32 ∷ 61 ∷ 32 ∷ 45 ∷ 45 ∷ 53 ∷ 10 ∷ [])
    ++ ((118 ∷ 54 ∷ 53 ∷ 53 ∷ 51 ∷ 53 ∷ 32 ∷ 61 ∷ 32 ∷ 45 ∷ 118 ∷ 48 ∷ 10 ∷ [])
    ++ (48 ∷ 32 ∷ 61 ∷ 32 ∷ 49 ∷ 48 ∷ 55 ∷ 51 ∷ 55 ∷ 52 ∷ 49 ∷ 56 ∷ 50 ∷ 51 ∷ 32 ∷ 37 ∷ 32 ∷ 45 ∷ 49 ∷ 48 ∷ 55 ∷ 51 ∷ 55 ∷ 52 ∷ 49 ∷ 56 ∷ 50 ∷ 51 ∷ 10 ∷ [])))

pub others-printed : listing others ≡ others-text
unfolding decimal_from decimal number_text term_text sign_of between side_text equality_text line_text next_text equalities_text listing operation first
    second written_of res centre elem
others-printed = refl
