-- The theorem at a module: pub x; def y = 1 / x; def x = x * (def x = x + 1; x * x); x = w.
-- The unused division leaves no equality. Where x is not 0, w is x * (x + 1) * (x + 1) just if the equalities have a solution, and then one only
use mathlib.Core.Path.{◌≡◌, refl}
use mathlib.Core.List.{[], ◌∷◌}
use Prim.Native.Nat.{ℕ}
use lib.IntN.{ℤ, pos}
use Rattle.std.specs.Prelude.{Some}
use Rattle.field.specs.declared.InfixOp.TheVariants.{Divide, Multiply, Add}
use Rattle.field.specs.Prime.{P}
use Rattle.field.specs.Element.{elem}
use Rattle.field.specs.Operations.{sum, product}
use Rattle.field.proofs.Primality.{P-prime}
use Rattle.field.proofs.Values.{not-zero-value, add-answer, multiply-answer, has-value-where}
use Rattle.flat.specs.Meaning.{update, on_values}
use Rattle.constraint.specs.declared.Term.{Term}
use Rattle.constraint.specs.Trees.{at_place, Side, ConstraintModule}
use Rattle.pass_trees.specs.Passes
use Rattle.pass_trees.specs.Passes.{cut}
use Rattle.eval_trees.proofs.Compute.{answer_of}
use Rattle.plain.specs.Meaning.{write, through, value_of, NotZeroInEquation, NoDivisorZero}
use Rattle.plain.proofs.Condition.{plain-has-plain-body}
use Rattle.plain.proofs.Example.{source, is-plain}
use Rattle.agreement.specs.Flattened.{passed, flattened_of}
use Rattle.agreement.specs.Statement.{Agrees}
use Rattle.agreement.proofs.Agreement.{agreement}

-- x is v9, w v13
abbrev pub equalities : ConstraintModule
equalities = record {
  next = 21;
  publics = 9 ∷ [];
  provers = [];
  equalities =
      record { left = Term.Variable 15; right = Side.infixed Add (Term.Variable 9) (Term.Constant (pos 1)); place = 1 }
      ∷ record { left = Term.Variable 16; right = Side.infixed Multiply (Term.Variable 15) (Term.Variable 15); place = 1 }
      ∷ record { left = Term.Variable 17; right = Side.infixed Multiply (Term.Variable 9) (Term.Variable 16); place = 1 }
      ∷ record { left = Term.Variable 17; right = Side.copy (Term.Variable 13); place = 2 }
      ∷ [];
  kept = [];
}

is_cut : flattened_of 65535 source ≡ cut equalities
unfolding answer_of flattened_of passed update Passes.member Passes.keep_if Passes.those Passes.most Passes.is_never Passes.is_witness Passes.mark_used
    Passes.used_in Passes.override Passes.classify_def Passes.classified Passes.usage Passes.ids_from Passes.classify_defs Passes.follow Passes.walk
    Passes.to_expr Passes.copy_propagate_expr Passes.substituting Passes.copy_propagate_def Passes.after_def Passes.copy_propagate_defs Passes.after_defs
    Passes.copy_propagate_equations Passes.copy_propagate Passes.same_number Passes.dead Passes.alive Passes.eliminate_dead_equalities Passes.is_one
    Passes.is_zero Passes.when Passes.infix_op Passes.or_variable Passes.push_constraint_def Passes.copied Passes.flatten_expr_to_3ac Passes.cuts_of
    Passes.joined
    at_place Passes.all_at Passes.placed
    Passes.flatten_def_to_3ac Passes.flatten_defs Passes.sides Passes.flatten_sides Passes.flatten_equations Passes.flatten_lists Passes.flatten_module_to_3ac
    Passes.passes Passes.cuttable Passes.cuttable_expr Passes.cuttable_defs Passes.cuttable_equations Passes.counted Passes.unless Passes.fitting Passes.cut_of
is_cut = refl

-- the one divisor is x
not-zero : (ρ : ℕ → ℤ) → elem P (ρ 0) ≡ ρ 0 → (Some (ρ 0) ≡ Some (pos 0) → ⊥) → NoDivisorZero source ρ
unfolding value_of on_values write update through NotZeroInEquation
not-zero ρ c h =
    let quotient = (has-value-where P P-prime (elem P (pos 1)) (ρ 0) Divide).1 (not-zero-value P P-prime (ρ 0) c h) in
    let up = add-answer P (ρ 0) (elem P (pos 1)) in
    let next = sum P (ρ 0) (elem P (pos 1)) in
    let square = multiply-answer P next next in
    let cube = multiply-answer P (ρ 0) (product P next next) in
    (((tt, tt, quotient), ((tt, ((tt, tt, (_, up)), (tt, tt, rw up (_, square))), rw (up, square) (_, cube)), tt)), ((tt, tt), tt))

pub example : (ρ : ℕ → ℤ) → ((x : ℕ) → elem P (ρ x) ≡ ρ x) → (Some (ρ 0) ≡ Some (pos 0) → ⊥) → Agrees source equalities ρ
example ρ elements h = agreement source (plain-has-plain-body source is-plain) 65535 equalities is_cut ρ elements (not-zero ρ (elements 0) h)
