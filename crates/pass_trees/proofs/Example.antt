-- The theorem at case F: v0 and v1 are the inputs, and (v0 + 1) * v0 = v1 holds just if the three equalities have a solution with them.
-- And what `|` by 0 comes to.
use Rattle.std.proofs.Common.{◌≡◌, ◌↔◌, pos, sym, refl, ◌∙◌, arith}
use Rattle.field.specs.Prime.{P}
use Rattle.field.specs.Element.{res, centre, elem}
use Rattle.field.specs.Operations.{divide_z_of, infix_of}
use Rattle.field.proofs.Primality.{P-prime}
use Rattle.field.proofs.Answers.{value-path, nothing-value}
use Rattle.field.proofs.Values.{add-answer, multiply-answer, divide-z-valued}
use Rattle.flat.specs.Trees.{Flat, defines}
use Rattle.flat.specs.Meaning.{update, Assignment, Elements, on_values, value, NoZeroInTurn}
use Rattle.flat.specs.Rules.{All, WellFormed}
use Rattle.constraint.specs.declared.Term.{Term}
use Rattle.constraint.specs.Meaning.{side_value, EqualityHolds}
use Rattle.pass_trees.specs.Passes.{member, keep_if, those, most, is_never, is_witness, mark_used, used_in}
use Rattle.pass_trees.specs.Passes.{override, classify_def, classified, usage, ids_from, classify_defs, counted, cut, cut_of}
use Rattle.pass_trees.specs.Meaning.{worked, Given}
use Rattle.pass_trees.specs.Statements.{KeepsMeaning}
use Rattle.pass_trees.specs.Cases.{case_f, case_f-cut, over-zero, over-zero-equalities, cases-hold}
use Rattle.pass_trees.proofs.Agreement.{cut-keeps-meaning, inputs-given}

-- the first of the table of cases
pub case-F : cut_of case_f ≡ cut case_f-cut
case-F = cc cases-hold

well-formed-F : WellFormed case_f
unfolding defines
well-formed-F =
    record {
      publics-below = tt;
      provers-below = tt;
      provers-rise = tt;
      definitions-below = ((omega arith, ((omega arith, tt), omega arith)), tt);
      equations-below = ((omega arith, omega arith), tt);
      ordered = (refl, ((refl, tt), refl), tt);
    }

no-division-F : (ρ : Assignment) → NoZeroInTurn (counted case_f) ρ
unfolding member update keep_if those most is_never is_witness mark_used used_in override classify_def classified usage ids_from classify_defs counted
    value on_values
no-division-F ρ =
    let up = add-answer P (ρ 0) (elem P (pos 1)) in
    (((tt, tt, (_, up)), tt, rw up (_, multiply-answer P _ (ρ 0))), tt)

pub case-F-keeps-meaning : (ρ : Assignment) → Elements ρ → KeepsMeaning case_f case_f-cut (Given case_f) ρ (worked case_f ρ)
case-F-keeps-meaning ρ el = cut-keeps-meaning case_f case_f-cut well-formed-F case-F (Given case_f) (inputs-given case_f well-formed-F) ρ el (no-division-F ρ)

-- x | 0 = 0 holds just where x is 0
pub over-zero-at-zero : (σ : Assignment) → Elements σ
    → All (EqualityHolds σ) (over-zero-equalities (Term.Variable 9) (Term.Constant (pos 0))) ↔ ((σ 9 ≡ pos 0) × (σ 10 ≡ pos 0))
unfolding side_value infix_of divide_z_of elem centre res
over-zero-at-zero σ el = (
  (λ h. (sym (el 9) ∙ (divide-z-valued P P-prime (σ 9) (elem P (pos 0))).0 (σ 10, h.0) refl, sym (value-path _ _ h.1.0))),
  (λ e. (rw (e.0, e.1) refl, (rw e.1 refl, tt))),
)

-- 5 | 0 = x obeys the rules of a record, so that it may be lent
pub five-over-zero-well-formed : WellFormed (over-zero (Flat.constant (pos 5)) (Flat.variable 9))
unfolding defines
five-over-zero-well-formed =
    record {
      publics-below = tt;
      provers-below = tt;
      provers-rise = tt;
      definitions-below = ((omega arith, (tt, tt)), tt);
      equations-below = ((omega arith, omega arith), tt);
      ordered = (refl, (tt, tt), tt);
    }

-- and never holds
pub five-over-zero-never : (σ : Assignment) → All (EqualityHolds σ) (over-zero-equalities (Term.Constant (pos 5)) (Term.Variable 9)) → ⊥
unfolding side_value infix_of divide_z_of elem centre res
five-over-zero-never σ h = nothing-value (σ 10) h.0
