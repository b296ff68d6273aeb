-- The theorem is not empty: a plain module with each operator, a negative power, 0 `|` 0, a name used before its definition, a let that hides a name, a
-- public name that is defined, and an unused definition. It is accepted; some inputs fulfil it, and some do not.
-- pub c; def u = z; def z = a + b; def c = (let a = a - b; a * a); def w = 1 / a; and the equations below
use mathlib.Core.Path.{◌≡◌, refl}
use mathlib.Core.Bool.{Bool, true, false, cond}
use mathlib.Core.List.{List, [], ◌∷◌}
use Prim.Native.Nat.{ℕ}
use native.Mathlib.Omega.{arith}
use lib.IntN.{ℤ, pos, negsuc}
use lib.Dec.{eqb}
use Rattle.field.specs.Operations.{Answer}
use Rattle.field.proofs.Answers.{nothing-value}
use Rattle.std.specs.Prelude.{Some}
use Rattle.field.specs.declared.InfixOp.TheVariants.{Divide, DivideZ, Multiply, Add, Subtract, Equal, Exponentiate, IntDivide, Modulo}
use Rattle.source.specs.Trees.{variable_p, Expr, binary, negate, constant, variable, letting, Module}
use Rattle.flat.specs.Meaning.{update, on_values, negated}
use Rattle.numbering.specs.Numbering.{found, same_text, named, registered}
use Rattle.constraint.specs.Trees.{at_place}
use Rattle.pass_trees.specs.Passes
use Rattle.pass_trees.specs.Passes.{Outcome, cut, refused}
use Rattle.eval_trees.proofs.Compute.{answer_of}
use Rattle.plain.specs.Plain.{is_arithmetic, is_free, is_plain_name, is_plain_pattern, is_plain_expr, is_equal, is_plain_equation}
use Rattle.plain.specs.Plain.{are_plain_publics, are_plain_definitions, are_plain_equations, is_plain_body, is_plain}
use Rattle.plain.specs.Meaning.{write, through, value_of, sides_of, sides, start, Holds, NotZeroInEquation, NoDivisorZero}
use Rattle.plain.specs.Meaning
use Rattle.agreement.specs.Flattened.{passed, flattened_of}

-- names: a 0, b 1, c 2, z 3, u 4, w 5
abbrev a : Expr
a = variable 0

abbrev b : Expr
b = variable 1

abbrev number : ℕ → Expr
number n = constant (pos n)

abbrev pub operators : Module
operators = record {
  names = (97 ∷ []) ∷ (98 ∷ []) ∷ (99 ∷ []) ∷ (122 ∷ []) ∷ (117 ∷ []) ∷ (119 ∷ []) ∷ [];
  publics = 2 ∷ [];
  definitions =
      (variable_p 4, variable 3)
      ∷ (variable_p 3, binary Add a b)
      ∷ (variable_p 2, letting (variable_p 0) (binary Subtract a b) (binary Multiply a a))
      ∷ (variable_p 5, binary Divide (number 1) a)
      ∷ [];
  expressions =
      binary Equal (binary Multiply (binary Divide a b) b) a
      ∷ binary Equal (binary DivideZ (binary Subtract b b) (binary Subtract b b)) (number 0)
      ∷ binary Equal (binary Multiply a b) (number 14)
      ∷ binary Equal (binary Add a b) (variable 3)
      ∷ binary Equal (binary Subtract a b) (number 5)
      ∷ binary Equal (binary Exponentiate a (number 2)) (number 49)
      ∷ binary Equal (binary Multiply (binary Exponentiate a (constant (negsuc 0))) a) (number 1)
      ∷ binary Equal (binary IntDivide a b) (number 4)
      ∷ binary Equal (binary Modulo a b) (constant (negsuc 0))
      ∷ binary Equal (variable 4) (number 4)
      ∷ binary Equal (variable 2) (number 25)
      ∷ binary Equal (negate a) (constant (negsuc 6))
      ∷ [];
}

pub is-plain : is_plain operators ≡ true
unfolding is_plain is_plain_body is_arithmetic is_free is_plain_name is_plain_pattern is_plain_expr is_equal is_plain_equation are_plain_publics
    are_plain_definitions
    are_plain_equations found same_text named registered
is-plain = refl

-- it is accepted
abbrev is_cut : Outcome → Bool
is_cut (cut c) = true
is_cut (refused n) = false

pub is-accepted : is_cut (flattened_of 65535 operators) ≡ true
unfolding answer_of flattened_of passed update Passes.member Passes.keep_if Passes.those Passes.most Passes.is_never Passes.is_witness Passes.mark_used
    Passes.used_in Passes.override Passes.classify_def Passes.classified Passes.usage Passes.ids_from Passes.classify_defs Passes.follow Passes.walk
    Passes.to_expr Passes.copy_propagate_expr Passes.substituting Passes.copy_propagate_def Passes.after_def Passes.copy_propagate_defs Passes.after_defs
    Passes.copy_propagate_equations Passes.copy_propagate Passes.same_number Passes.dead Passes.alive Passes.eliminate_dead_equalities Passes.is_one
    Passes.is_zero Passes.when Passes.infix_op Passes.or_variable Passes.push_constraint_def Passes.copied Passes.flatten_expr_to_3ac Passes.cuts_of
    Passes.joined
    at_place Passes.all_at Passes.placed
    Passes.flatten_def_to_3ac Passes.flatten_defs Passes.sides Passes.flatten_sides Passes.flatten_equations Passes.flatten_lists Passes.flatten_module_to_3ac
    Passes.passes Passes.cuttable Passes.cuttable_expr Passes.cuttable_defs Passes.cuttable_equations Passes.counted Passes.unless Passes.fitting Passes.cut_of
is-accepted = refl

-- a is 7, b is 2, and z, before its definition, 4; or a is 8
pub inputs : ℤ → ℕ → ℤ
inputs x n = cond (eqb n 0) x (cond (eqb n 1) (pos 2) (pos 4))

abbrev worked : ℤ → List (Answer × Answer)
worked x = sides (Meaning.defined (start (inputs x)) operators.definitions) operators.expressions

abbrev twice : ℤ → Answer × Answer
twice x = (Some x, Some x)

sides-at-seven : worked (pos 7) ≡ twice (pos 7) ∷ twice (pos 0) ∷ twice (pos 14) ∷ twice (pos 9) ∷ twice (pos 5) ∷ twice (pos 49) ∷ twice (pos 1)
    ∷ twice (pos 4) ∷ twice (negsuc 0) ∷ twice (pos 4) ∷ twice (pos 25) ∷ twice (negsuc 6) ∷ []
unfolding answer_of inputs update on_values negated write through value_of Meaning.defined sides_of sides
sides-at-seven = refl

pub fulfilled : Holds operators (inputs (pos 7))
unfolding answer_of inputs update on_values negated write through value_of Meaning.defined sides_of sides
fulfilled = (
  (pos 7, refl, refl),
  (
    (pos 0, refl, refl),
    (
      (pos 14, refl, refl),
      (
        (pos 9, refl, refl),
        (
          (pos 5, refl, refl),
          (
            (pos 49, refl, refl),
            (
              (pos 1, refl, refl),
              ((pos 4, refl, refl), ((negsuc 0, refl, refl), ((pos 4, refl, refl), ((pos 25, refl, refl), ((negsuc 6, refl, refl), tt))))),
            ),
          ),
        ),
      ),
    ),
  ),
)

-- 8 * 2 is not 14
pub not-fulfilled : Holds operators (inputs (pos 8)) → ⊥
unfolding answer_of inputs update on_values negated write through value_of Meaning.defined sides_of sides
not-fulfilled h =
    let w = h.1.1.0 in
    let p : Some (pos 16) ≡ Some w.0 = w.1 in
    let q : Some (pos 14) ≡ Some w.0 = w.2 in
    let k : ◌≡◌ {A = ℕ} 16 14 = cc in
    omega arith

-- the parts of a list's fact, one after the other
abbrev ◌also◌ : {A B : Type 0} → A → B → A × B
x also y = (x, y)

infixr 60 ◌also◌
-- and where a is 7 every operation has a value, 0 | 0 among them
pub not-zero : NoDivisorZero operators (inputs (pos 7))
unfolding answer_of inputs update on_values negated write through value_of Meaning.defined NotZeroInEquation
not-zero = (
  tt also (tt, tt, (_, refl)) also ((tt, tt, (_, refl)), (tt, tt, (_, refl))) also (tt, tt, (_, refl)) also tt,
  (((tt, tt, (_, refl)), tt, (_, refl)), tt)
      also (((tt, tt, (_, refl)), (tt, tt, (_, refl)), (_, refl)), tt)
      also ((tt, tt, (_, refl)), tt)
      also ((tt, tt, (_, refl)), tt)
      also ((tt, tt, (_, refl)), tt)
      also ((tt, tt, (_, refl)), tt)
      also (((tt, tt, (_, refl)), tt, (_, refl)), tt)
      also ((tt, tt, (_, refl)), tt)
      also ((tt, tt, (_, refl)), tt)
      also (tt, tt)
      also (tt, tt)
      also (tt, tt)
      also tt,
)

-- def b = a | 0, and nothing uses b: 5 as a is left aside, since 5 | 0 has no value, and 0 is not
abbrev pub unused : Module
unused = record {
  names = (97 ∷ []) ∷ (98 ∷ []) ∷ [];
  publics = [];
  definitions = (variable_p 1, binary DivideZ a (number 0)) ∷ [];
  expressions = [];
}

pub left-aside : NoDivisorZero unused (λ n. pos 5) → ⊥
unfolding answer_of update on_values write value_of Meaning.defined NotZeroInEquation
left-aside h =
    let valued = h.0.0.2 in
    nothing-value valued.0 valued.1

pub not-left-aside : NoDivisorZero unused (λ n. pos 0)
unfolding answer_of update on_values write value_of Meaning.defined NotZeroInEquation
not-left-aside = (((tt, tt, (_, refl)), tt), tt)
