-- The theorem at the bytes of examples/product.record: pub z; def y = (x + 1) * x; def u = 1 / x; y = z.
-- Where x is not 0, (x + 1) * x is z just if the three equalities that are written have a solution with x and z, and then one only. Assumes nothing.
use mathlib.Core.Path.{◌≡◌, refl, ap, ◌∙◌}
use mathlib.Core.Bool.{true}
use mathlib.Core.List.{List, [], ◌∷◌}
use Prim.Native.Nat.{ℕ, ◌≤◌}
use native.Mathlib.Omega.{arith}
use lib.IntN.{ℤ, pos}
use lib.ListN.{length, take, get_or}
use borrow.Author.Tests.{le-leb}
use Rattle.std.specs.Prelude.{Some}
use Rattle.field.specs.declared.InfixOp.TheVariants.{Divide, Multiply, Add, Equal}
use Rattle.field.specs.Prime.{P}
use Rattle.field.specs.Element.{elem}
use Rattle.field.proofs.Primality.{P-prime}
use Rattle.field.proofs.Values.{not-zero-value, add-answer, multiply-answer, has-value-where}
use Rattle.source.specs.Trees.{variable_p, binary, constant, variable, Module}
use Rattle.words.specs.Words.{integer, word_at, bytes_of}
use Rattle.marks.specs.Indices.{every, total, rows, pick, same}
use Rattle.source.specs.Layout.{listed, names}
use Rattle.source.specs.Layout
use Rattle.source.specs.Names.{offset_of, length_of, end_of, printed, name_fits, names_fit, same_bytes, same_name, name_new, names_differ, name_of}
use Rattle.source.specs.Nodes.{operator_of, infix_for, entry_for, entry_of, is_expression, is_pattern, expression_fits, pattern_fits, item_fits}
use Rattle.source.specs.Nodes.{result_fits, link_fits, chain_fits, child_fits, children_fit, nodes_fit, definitions_fit, expressions_fit, publics_fit}
use Rattle.source.specs.Uses.{result_uses, link_uses, chain_uses, child_uses, children_use, by_nodes, by_definitions, by_expressions}
use Rattle.source.specs.Record.{expression_of, pattern_of, link_of, grown, tree, definition_at, expression_at, module_of, shaped, used_once, source_of}
use Rattle.source.specs.Record
use Rattle.source.specs.Record.{Read}
use Rattle.flat.specs.Record as Flat
use Rattle.flat.specs.Trees.{definitions_nodes}
use Rattle.flat.specs.Meaning.{update, on_values}
use Rattle.constraint.specs.Record.{constraint_bytes}
use Rattle.constraint.specs.Reading.{constraint_of}
use Rattle.constraint.proofs.Lengths.{length-bytes}
use Rattle.pass_trees.specs.Passes.{Outcome, refused}
use Rattle.std.specs.Prelude.{Ok}
use Rattle.pass_entry.specs.Cut.{answer_for, output_for}
use Rattle.numbering.specs.Numbering.{found, same_text, named, registered}
use Rattle.plain.specs.Plain.{is_plain, is_plain_body, is_arithmetic, is_free, is_plain_name, is_plain_pattern, is_plain_expr}
use Rattle.plain.specs.Plain.{is_equal, is_plain_equation, are_plain_publics, are_plain_definitions, are_plain_equations}
use Rattle.plain.specs.Meaning.{write, value_of, NotZeroInEquation, NoDivisorZero}
use Rattle.plain.proofs.Condition.{plain-has-plain-body}
use Rattle.agreement.specs.Statement.{Agrees}
use Rattle.flatten_entry.specs.Flatten.{flattened}
use Rattle.flatten_entry.proofs.Agreement.{flatten-agrees}
use Rattle.flatten_entry.proofs.Cases.{Worked, element, list, product, product-list, product-cut, cases-hold}

-- z is name 0, y 1, x 2, u 3
abbrev pub module-text : Module
module-text = record {
  names = (122 ∷ []) ∷ (121 ∷ []) ∷ (120 ∷ []) ∷ (117 ∷ []) ∷ [];
  publics = 0 ∷ [];
  definitions =
      (variable_p 1, binary Multiply (binary Add (variable 2) (constant (pos 1))) (variable 2))
      ∷ (variable_p 3, binary Divide (constant (pos 1)) (variable 2)) ∷ [];
  expressions = binary Equal (variable 1) (variable 0) ∷ [];
}

pub is_read : source_of product ≡ Read.module-of module-text
unfolding word_at bytes_of every total rows pick Layout.counted listed offset_of length_of end_of printed name_fits names_fit same_bytes same_name name_new
    names_differ name_of operator_of infix_for entry_for entry_of is_expression is_pattern expression_fits pattern_fits item_fits result_fits link_fits
    chain_fits child_fits children_fit nodes_fit definitions_fit expressions_fit publics_fit same result_uses link_uses chain_uses child_uses children_use
    by_nodes by_definitions by_expressions expression_of pattern_of link_of grown tree definition_at expression_at module_of shaped used_once Record.unless
    source_of integer
is_read = refl

is-plain : is_plain module-text ≡ true
unfolding is_plain is_plain_body is_arithmetic is_free is_plain_name is_plain_pattern is_plain_expr is_equal is_plain_equation are_plain_publics
    are_plain_definitions are_plain_equations found same_text named registered
is-plain = refl

is_cut : flattened product 1048560 ≡ product-cut
is_cut = ap (λ (ws : List Worked). outcome_of (get_or ws 12 (list (refused 0)))) cases-hold
  where
    outcome_of : Worked → Outcome
    outcome_of (element a) = refused 0
    outcome_of (list o) = o

-- 6 words of header, 1 public, 3 equalities of 8 words
is-long : length (constraint_bytes product-list) ≡ 124
unfolding definitions_nodes
is-long = omega (arith, length-bytes product-list)

is-written : (out : List ℕ) → 124 ≤ length out → answer_for (length out) (flattened product 1048560) ≡ Ok 124
unfolding answer_for Flat.pick
is-written out l =
    ap (answer_for (length out)) is_cut ∙ rw (le-leb (length (constraint_bytes product-list)) (length out) (omega (arith, is-long))) (ap Ok is-long)

-- the divisors: x
not-zero : (ρ : ℕ → ℤ) → elem P (ρ 2) ≡ ρ 2 → (Some (ρ 2) ≡ Some (pos 0) → ⊥) → NoDivisorZero module-text ρ
unfolding value_of on_values write update NotZeroInEquation
not-zero ρ c h =
    let quotient = (has-value-where P P-prime (elem P (pos 1)) (ρ 2) Divide).1 (not-zero-value P P-prime (ρ 2) c h) in
    let up = add-answer P (ρ 2) (elem P (pos 1)) in
    ((((tt, tt, (_, up)), tt, rw up (_, multiply-answer P _ (ρ 2))), ((tt, tt, quotient), tt)), ((tt, tt), tt))

pub example : (out : List ℕ) → 124 ≤ length out → (ρ : ℕ → ℤ) → ((x : ℕ) → elem P (ρ x) ≡ ρ x) → (Some (ρ 2) ≡ Some (pos 0) → ⊥)
    → Agrees module-text (constraint_of (take 124 (output_for out (flattened product 1048560)))) ρ
example out l ρ elements h =
    let agrees = flatten-agrees product out 1048560 124 module-text (is-written out l) is_read (plain-has-plain-body module-text is-plain) in
    agrees.1 ρ elements (not-zero ρ (elements 2) h)
