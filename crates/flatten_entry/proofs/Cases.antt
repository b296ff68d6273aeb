-- The proved cases: one table, and one fact about it. Assumes nothing.
use mathlib.Core.Path.{◌≡◌, refl}
use mathlib.Core.List.{List, [], ◌∷◌, ◌++◌}
use Prim.Native.Nat.{ℕ}
use lib.IntN.{pos, negsuc}
use Rattle.words.specs.Words.{integer, word_at, bytes_of}
use Rattle.std.specs.Prelude.{Some, None}
use Rattle.field.specs.declared.InfixOp.TheVariants.{Divide, DivideZ, Multiply, Add, Exponentiate, IntDivide, Modulo}
use Rattle.field.specs.Prime.{P}
use Rattle.field.specs.Element.{elem}
use Rattle.field.specs.Operations.{infix_of, Answer}
use Rattle.source.specs.Trees.{variable_p, binary, constant, variable, Module}
use Rattle.marks.specs.Indices.{every, total, rows, pick, same}
use Rattle.source.specs.Layout.{listed, names}
use Rattle.source.specs.Layout
use Rattle.source.specs.Names.{offset_of, length_of, end_of, printed, name_fits, names_fit, same_bytes, same_name, name_new, names_differ, name_of}
use Rattle.source.specs.Nodes.{operator_of, infix_for, entry_for, entry_of, is_expression, is_pattern, expression_fits, pattern_fits, item_fits}
use Rattle.source.specs.Nodes.{result_fits, link_fits, chain_fits, child_fits, children_fit, nodes_fit, definitions_fit, expressions_fit, publics_fit}
use Rattle.source.specs.Uses.{result_uses, link_uses, chain_uses, child_uses, children_use, by_nodes, by_definitions, by_expressions}
use Rattle.source.specs.Record.{expression_of, pattern_of, link_of, grown, tree, definition_at, expression_at, module_of, shaped, used_once, source_of}
use Rattle.source.specs.Record
use Rattle.flat.specs.Meaning.{update}
use Rattle.constraint.specs.declared.Term.{Term}
use Rattle.constraint.specs.Trees.{at_place, Side, Equality, ConstraintModule}
use Rattle.pass_trees.specs.Passes
use Rattle.pass_trees.specs.Passes.{Outcome, cut, cut_of}
use Rattle.pass_trees.specs.Cases.{case_f, case_f-cut}
use Rattle.eval_trees.proofs.Compute.{answer_of}
use Rattle.eval_entry.specs.Source.{capacity_of}
use Rattle.agreement.specs.Flattened.{passed, flattened_of}
use Rattle.flatten_entry.specs.Flatten.{flattened_read, flattened}

-- what a case works out: an element, or a constraint list
pub data Worked : Type 0 where
  element : Answer → Worked
  list : Outcome → Worked

pub record Case : Type 0 where
  pub worked : Worked
  pub answer : Worked

abbrev pub ◌gives◌ : Worked → Worked → Case
a gives b = record { worked = a; answer = b }

infix 70 ◌gives◌
-- of the first statement
abbrev pub ◌becomes◌ : Term → Side → Equality
t becomes s = record { left = t; right = s; place = 0 }

infix 70 ◌becomes◌
-- def y = 1 / x
abbrev pub unused : Module
unused = record {
  names = (121 ∷ []) ∷ (120 ∷ []) ∷ [];
  publics = [];
  definitions = (variable_p 0, binary Divide (constant (pos 1)) (variable 1)) ∷ [];
  expressions = [];
}

-- the bytes of examples/product.record: pub z; def y = (x + 1) * x; def u = 1 / x; y = z
abbrev pub product : List ℕ
product =
    bytes_of
    ((4 ∷ 1 ∷ 2 ∷ 1 ∷ 13 ∷ [])
    ++ ((0 ∷ 1 ∷ 1 ∷ 1 ∷ 2 ∷ 1 ∷ 3 ∷ 1 ∷ [])
    ++ ((0 ∷ [])
    ++ ((0 ∷ 5 ∷ 6 ∷ 9 ∷ [])
    ++ ((12 ∷ [])
    ++ ((21 ∷ 1 ∷ 0 ∷ 0 ∷ [])
    ++ ((8 ∷ 2 ∷ 0 ∷ 0 ∷ [])
    ++ ((7 ∷ 1 ∷ 0 ∷ 0 ∷ [])
    ++ ((4 ∷ 1 ∷ 2 ∷ 3 ∷ [])
    ++ ((8 ∷ 2 ∷ 0 ∷ 0 ∷ [])
    ++ ((4 ∷ 3 ∷ 4 ∷ 2 ∷ [])
    ++ ((21 ∷ 3 ∷ 0 ∷ 0 ∷ [])
    ++ ((7 ∷ 1 ∷ 0 ∷ 0 ∷ [])
    ++ ((8 ∷ 2 ∷ 0 ∷ 0 ∷ [])
    ++ ((4 ∷ 7 ∷ 8 ∷ 0 ∷ [])
    ++ ((8 ∷ 1 ∷ 0 ∷ 0 ∷ [])
    ++ ((8 ∷ 0 ∷ 0 ∷ 0 ∷ [])
    ++ ((4 ∷ 10 ∷ 11 ∷ 5 ∷ [])))))))))))))))))))
    ++ (122 ∷ 121 ∷ 120 ∷ 117 ∷ [])

-- z is v9, x v10
abbrev pub product-list : ConstraintModule
product-list = record {
  next = 18;
  publics = 9 ∷ [];
  provers = [];
  equalities =
      Term.Variable 13 becomes Side.infixed Add (Term.Variable 10) (Term.Constant (pos 1))
      ∷ Term.Variable 14 becomes Side.infixed Multiply (Term.Variable 13) (Term.Variable 10)
      ∷ record { left = Term.Variable 14; right = Side.copy (Term.Variable 9); place = 2 }
      ∷ [];
  kept = [];
}

abbrev pub product-cut : Outcome
product-cut = cut product-list

-- the cases that the rules name; `negsuc n` is -(n + 1). Behind them the example of the programs, from its
-- bytes, and more cases of \ and %
abbrev pub cases : List Case
cases =
    list (cut_of case_f) gives list (cut case_f-cut)
    ∷ element (Some (elem P (pos 1073741824))) gives element (Some (negsuc 1073741822))
    ∷ element (Some (elem P (negsuc 1073741823))) gives element (Some (pos 1073741823))
    ∷ element (infix_of P Divide (pos 1) (pos 2)) gives element (Some (negsuc 1073741822))
    ∷ element (infix_of P IntDivide (pos 7) (pos 2)) gives element (Some (pos 4))
    ∷ element (infix_of P IntDivide (negsuc 6) (pos 2)) gives element (Some (negsuc 3))
    ∷ element (infix_of P Modulo (negsuc 6) (pos 2)) gives element (Some (pos 1))
    ∷ element (infix_of P IntDivide (pos 7) (negsuc 1)) gives element (Some (negsuc 3))
    ∷ element (infix_of P DivideZ (pos 5) (pos 0)) gives element None
    ∷ element (infix_of P DivideZ (pos 0) (pos 0)) gives element (Some (pos 0))
    ∷ element (infix_of P Exponentiate (pos 0) (pos 0)) gives element (Some (pos 1))
    ∷ list (flattened_of 65535 unused) gives list (cut (record { next = 12; publics = []; provers = []; equalities = []; kept = [] }))
    ∷ list (flattened product 1048560) gives list product-cut
    ∷ element (infix_of P IntDivide (negsuc 6) (negsuc 1)) gives element (Some (pos 4))
    ∷ element (infix_of P IntDivide (pos 5) (pos 3)) gives element (Some (pos 2))
    ∷ element (infix_of P IntDivide (pos 4) (pos 3)) gives element (Some (pos 1))
    ∷ element (infix_of P Modulo (pos 7) (pos 2)) gives element (Some (negsuc 0))
    ∷ []

abbrev pub worked-out : List Case → List Worked
worked-out [] = []
worked-out (c ∷ cs) = c.worked ∷ worked-out cs

abbrev pub answers : List Case → List Worked
answers [] = []
answers (c ∷ cs) = c.answer ∷ answers cs

-- EVERY CASE HOLDS
pub cases-hold : worked-out cases ≡ answers cases
unfolding answer_of flattened flattened_read flattened_of passed capacity_of update Passes.member Passes.keep_if Passes.those Passes.most Passes.is_never
    Passes.is_witness Passes.mark_used Passes.used_in Passes.override Passes.classify_def Passes.classified Passes.usage Passes.ids_from
    Passes.classify_defs Passes.follow Passes.walk Passes.to_expr Passes.copy_propagate_expr Passes.substituting Passes.copy_propagate_def Passes.after_def
    Passes.copy_propagate_defs Passes.after_defs Passes.copy_propagate_equations Passes.copy_propagate Passes.same_number Passes.dead Passes.alive
    Passes.eliminate_dead_equalities Passes.is_one Passes.is_zero Passes.when Passes.infix_op Passes.or_variable Passes.push_constraint_def Passes.copied
    Passes.flatten_expr_to_3ac Passes.cuts_of Passes.joined at_place Passes.all_at Passes.placed
    Passes.flatten_def_to_3ac Passes.flatten_defs Passes.sides Passes.flatten_sides
    Passes.flatten_equations Passes.flatten_lists Passes.flatten_module_to_3ac Passes.passes Passes.cuttable Passes.cuttable_expr Passes.cuttable_defs
    Passes.cuttable_equations Passes.counted Passes.unless Passes.fitting Passes.cut_of word_at bytes_of every total rows pick Layout.counted listed
    offset_of length_of end_of printed name_fits names_fit same_bytes same_name name_new names_differ name_of operator_of infix_for entry_for entry_of
    is_expression is_pattern expression_fits pattern_fits item_fits result_fits link_fits chain_fits child_fits children_fit nodes_fit definitions_fit
    expressions_fit publics_fit same result_uses link_uses chain_uses child_uses children_use by_nodes by_definitions by_expressions expression_of
    pattern_of link_of grown tree definition_at expression_at module_of shaped used_once Record.unless source_of integer
cases-hold = refl
