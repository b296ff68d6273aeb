-- Cases of the passes: what `cut_of` answers.
use Rattle.std.specs.Prelude.{◌≡◌, ℕ, List, [], ◌∷◌, pos, refl}
use Rattle.field.specs.declared.InfixOp.{InfixOp}
use Rattle.flat.specs.Trees.{Flat, Definition, Equation, FlatModule}
use Rattle.flat.specs.Meaning.{update}
use Rattle.constraint.specs.declared.Term.{Term}
use Rattle.constraint.specs.Trees.{Side, Equality, ConstraintModule, at_place}
use Rattle.pass_trees.specs.Passes.{member, keep_if, those, most, is_never, is_witness, mark_used, used_in, override, classify_def, classified, usage, ids_from}
use Rattle.pass_trees.specs.Passes.{classify_defs, follow, walk, to_expr, copy_propagate_expr, substituting, copy_propagate_def, after_def, copy_propagate_defs}
use Rattle.pass_trees.specs.Passes.{after_defs, copy_propagate_equations, copy_propagate, same_number, dead, alive, eliminate_dead_equalities, is_one, is_zero}
use Rattle.pass_trees.specs.Passes.{when, infix_op, or_variable, push_constraint_def, copied}
use Rattle.pass_trees.specs.Passes.{flatten_expr_to_3ac, cuts_of, joined, all_at, placed, flatten_def_to_3ac, flatten_defs}
use Rattle.pass_trees.specs.Passes.{sides, flatten_sides, flatten_equations, flatten_lists, flatten_module_to_3ac, passes, cuttable, cuttable_expr}
use Rattle.pass_trees.specs.Passes.{cuttable_defs, cuttable_equations, counted, Outcome, cut, refused, unless, fitting, cut_of}

-- expressions and lists in short
abbrev v : ℕ → Flat
v n = Flat.variable n

abbrev number : ℕ → Flat
number n = Flat.constant (pos n)

abbrev flat : ℕ → List ℕ → List Definition → List Equation → FlatModule
flat next provers definitions equations = record { next = next; publics = []; provers = provers; definitions = definitions; equations = equations }

abbrev list : ℕ → List ℕ → List Equality → List Definition → ConstraintModule
list next provers equalities kept = record { next = next; publics = []; provers = provers; equalities = equalities; kept = kept }

-- every definition has the place 3, every equation the place 8; an equality that is cut from the one, and from the other
abbrev ◌is◌ : ℕ → Flat → Definition
n is e = record { id = n; right = e; place = 3 }

abbrev ◌equals◌ : Flat → Flat → Equation
a equals b = record { left = a; right = b; place = 8 }

abbrev ◌becomes◌ : Term → Side → Equality
t becomes s = record { left = t; right = s; place = 3 }

abbrev ◌matches◌ : Term → Side → Equality
t matches s = record { left = t; right = s; place = 8 }

infix 70 ◌is◌
infix 70 ◌equals◌
infix 70 ◌becomes◌
infix 70 ◌matches◌
-- case F
abbrev pub case_f : FlatModule
case_f = flat 10 [] (2 is Flat.infixed InfixOp.Multiply (Flat.infixed InfixOp.Add (v 0) (number 1)) (v 0) ∷ []) (v 2 equals v 1 ∷ [])

abbrev pub case_f-cut : ConstraintModule
case_f-cut =
    list 12 []
    (Term.Variable 10 becomes Side.infixed InfixOp.Add (Term.Variable 0) (Term.Constant (pos 1))
    ∷ Term.Variable 2 becomes Side.infixed InfixOp.Multiply (Term.Variable 10) (Term.Variable 0)
    ∷ Term.Variable 2 matches Side.copy (Term.Variable 1)
    ∷ [])
    []

-- a | 0 = b. Of x | 0 = 0 evaluation leaves this; 5 | 0 = x it refuses, but a lent record can say it
abbrev pub over-zero : Flat → Flat → FlatModule
over-zero a b = flat 11 [] (10 is Flat.infixed InfixOp.DivideZ a (number 0) ∷ []) (v 10 equals b ∷ [])

abbrev pub over-zero-equalities : Term → Term → List Equality
over-zero-equalities a b = Term.Variable 10 becomes Side.infixed InfixOp.DivideZ a (Term.Constant (pos 0)) ∷ Term.Variable 10 matches Side.copy b ∷ []

-- a case: a flat list, and what it is cut into
pub record Case : Type 0 where
  pub given : FlatModule
  pub answer : Outcome

abbrev ◌gives◌ : FlatModule → Outcome → Case
f gives o = record { given = f; answer = o }

infix 70 ◌gives◌
abbrev pub cases : List Case
cases =
    case_f gives cut case_f-cut
    -- x | 0 = 0, and 5 | 0 = x
    ∷ over-zero (v 9) (number 0) gives cut (list 12 [] (over-zero-equalities (Term.Variable 9) (Term.Constant (pos 0))) [])
    ∷ over-zero (number 5) (v 9) gives cut (list 12 [] (over-zero-equalities (Term.Constant (pos 5)) (Term.Variable 9)) [])
    -- "y = 1 / x unused leaves no equality"
    ∷ flat 11 [] (10 is Flat.infixed InfixOp.Divide (number 1) (v 9) ∷ []) [] gives cut (list 11 [] [] [])
    -- 3 + 4 is not folded
    ∷ flat 10 [] [] (v 9 equals Flat.infixed InfixOp.Add (number 3) (number 4) ∷ [])
    gives cut (list 11 [] (Term.Variable 9 matches Side.infixed InfixOp.Add (Term.Constant (pos 3)) (Term.Constant (pos 4)) ∷ []) [])
    -- neither side is a term; 0 * v1 is 0
    ∷ flat 10 [] [] (Flat.negate (v 0) equals Flat.infixed InfixOp.Multiply (number 0) (v 1) ∷ [])
    gives cut
    (list 12 []
    (Term.Variable 10 matches Side.negate (Term.Variable 0)
    ∷ Term.Variable 11 matches Side.copy (Term.Constant (pos 0))
    ∷ Term.Variable 10 matches Side.copy (Term.Variable 11)
    ∷ [])
    [])
    -- v3 is a copy of v2; 5 = v3 gives v2 = 5, and v2 = v3 is dead
    ∷ flat 10 [] (3 is v 2 ∷ []) (number 5 equals v 3 ∷ v 2 equals v 3 ∷ [])
    gives cut (list 10 [] (Term.Variable 3 becomes Side.copy (Term.Variable 2) ∷ Term.Variable 2 matches Side.copy (Term.Constant (pos 5)) ∷ []) [])
    -- v4 is a prover variable: its definition is kept uncut, `^` in it too, and its input v1 is the prover's
    ∷ flat 10 (4 ∷ []) (4 is Flat.infixed InfixOp.Exponentiate (v 1) (number 2) ∷ []) (v 4 equals v 0 ∷ [])
    gives cut (list 10 (1 ∷ 4 ∷ []) (Term.Variable 4 matches Side.copy (Term.Variable 0) ∷ []) (4 is Flat.infixed InfixOp.Exponentiate (v 1) (number 2) ∷ []))
    -- constants are compared as they are written
    ∷ flat 10 [] [] (number 2147483647 equals number 0 ∷ number 7 equals number 7 ∷ [])
    gives cut (list 10 [] (Term.Constant (pos 2147483647) matches Side.copy (Term.Constant (pos 0)) ∷ []) [])
    -- `^` in an equation, and an inner `=`
    ∷ flat 10 [] [] (v 9 equals Flat.infixed InfixOp.Exponentiate (v 1) (v 2) ∷ []) gives refused 22
    ∷ flat 10 [] (3 is Flat.infixed InfixOp.Equal (v 0) (v 1) ∷ []) (v 9 equals v 3 ∷ []) gives refused 22
    ∷ []

abbrev pub worked-out : List Case → List Outcome
worked-out [] = []
worked-out (c ∷ cs) = cut_of c.given ∷ worked-out cs

abbrev pub answers : List Case → List Outcome
answers [] = []
answers (c ∷ cs) = c.answer ∷ answers cs

-- every case holds
pub cases-hold : worked-out cases ≡ answers cases
unfolding update member keep_if those most is_never is_witness mark_used used_in override classify_def classified usage ids_from classify_defs follow walk
    to_expr
    copy_propagate_expr substituting copy_propagate_def after_def copy_propagate_defs after_defs copy_propagate_equations copy_propagate same_number dead alive
    eliminate_dead_equalities is_one is_zero when infix_op or_variable push_constraint_def copied flatten_expr_to_3ac cuts_of joined
    at_place all_at placed flatten_def_to_3ac flatten_defs sides
    flatten_sides flatten_equations flatten_lists flatten_module_to_3ac passes cuttable cuttable_expr cuttable_defs cuttable_equations counted unless fitting
    cut_of
cases-hold = refl
