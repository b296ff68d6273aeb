-- What the code of the last pass answers, by the definitions of the passes.
use Rattle.std.specs.Prelude.{◌≡◌, List, ℕ, ◌+◌, ◌*◌, ◌≤◌, length, Option, None, Some}
use Rattle.words.specs.Words.{set_words}
use Rattle.flat.specs.Trees.{Flat, Definition, Equation}
use Rattle.flat.specs.Record.{module_of}
use Rattle.constraint.specs.declared.Term.{Term}
use Rattle.constraint.specs.Trees.{Equality}
use Rattle.constraint.specs.Record.{EQUALITY-WORDS, equalities_words}
use Rattle.pass_trees.specs.Passes.{Substitutions, copy_propagate_expr, copy_propagate_defs, after_defs, copy_propagate_equations}
use Rattle.pass_trees.specs.Passes.{alive, flatten_expr_to_3ac, all_at, flatten_defs, flatten_equations, Cut as Cutting, Cuts}
use Rattle.pass_classify.specs.Arrays.{provers_of, used_of, counted_of}
use Rattle.pass_copies.specs.declared.Substitute.{Substitute}
use Rattle.pass_copies.specs.Substituted.{option_of, subst_of, put_definitions}
use Rattle.pass_3ac.specs.declared.Sides.{Sides}
use Rattle.pass_3ac.specs.declared.Sides.TheVariants.{Left, Right, Neither}

-- where the code writes next: the next id, and the word after the last equality. The place of a statement is the `place` of a `Writer`
pub record Place : Type 0 where
  pub next : ℕ
  pub at : ℕ

-- what a cut leaves: the term that stands for the expression, and the place after its equalities
pub record Cut : Type 0 where
  pub term : Term
  pub place : Place

-- a cut whose equalities have a place
abbrev pub placed_cut : ℕ → Cutting → Cutting
placed_cut place c = record { term = c.term; next = c.next; equalities = all_at place c.equalities }

-- a tree with the substitutions made, cut with a place: into the left side that is given, or into none
unfoldable pub tree_cut : ℕ → Option Term → ℕ → Substitutions → Flat → ℕ → Cutting
tree_cut place target steps s e next = placed_cut place (flatten_expr_to_3ac (option_of target) (copy_propagate_expr steps s e) next)

-- the body with equalities from word `at` on, and the word after them
unfoldable pub put_equalities : List ℕ → ℕ → List Equality → List ℕ
put_equalities body at qs = set_words body at (equalities_words qs)

unfoldable pub after : ℕ → List Equality → ℕ
after at qs = at + EQUALITY-WORDS * length qs

-- the code's answer for a cut whose equalities are written from word `at` on
unfoldable pub cut_from : ℕ → Cutting → Cut
cut_from at c = record { term = c.term; place = record { next = c.next; at = after at c.equalities } }

-- more ids than a flat record's and one for each of its nodes: a sum of them never wraps
abbrev pub DRAWN : ℕ
DRAWN = 131072

-- room for an equality of each of n nodes, and ids for them
pub record Room (n at next : ℕ) (body : List ℕ) : Type 0 where
  pub words : 4 * (at + EQUALITY-WORDS * n) ≤ length body
  pub ids : next + n ≤ DRAWN

-- ---- lists

-- the code's answer for cuts whose equalities are written from word `at` on
unfoldable pub place_from : ℕ → Cuts → Place
place_from at c = record { next = c.next; at = after at c.equalities }

-- definitions of a record with the bytes b, those that are used, with the substitutions made one after the other: cut, and the substitutions after them
unfoldable pub defs_cut : List ℕ → ℕ → Substitutions → List Definition → ℕ → Cuts
defs_cut b steps s ds next = flatten_defs (provers_of b) (copy_propagate_defs (provers_of b) steps s (used_of b ds)) next

unfoldable pub defs_after : List ℕ → ℕ → Substitutions → List Definition → Substitutions
defs_after b steps s ds = after_defs (provers_of b) steps s (used_of b ds)

-- what cut definitions leave: the body after them, the answer, and the array of the substitutions, in which the counted ones have theirs
abbrev pub DefsPut : List ℕ → ℕ → List Definition → List Substitute → List Substitute → List ℕ → List ℕ → ℕ → ℕ → Place → Type 0
DefsPut b steps ds subs subs' body body' at next r =
    (body' ≡ put_equalities body at (defs_cut b steps (subst_of subs) ds next).equalities)
    × (r ≡ place_from at (defs_cut b steps (subst_of subs) ds next))
    × (subs' ≡ put_definitions steps subs (counted_of b ds))

-- equations with the substitutions made, those that are not obviously true: cut
unfoldable pub equations_cut : ℕ → Substitutions → List Equation → ℕ → Cuts
equations_cut steps s es next = flatten_equations (alive (copy_propagate_equations steps s es)) next

-- all definitions and all equations of the record with the bytes b, with the substitutions that an array has: cut
abbrev pub record_defs : List ℕ → ℕ → List Substitute → ℕ → Cuts
record_defs b steps subs next = defs_cut b steps (subst_of subs) (module_of b).definitions next

abbrev pub record_equations : List ℕ → ℕ → List Substitute → ℕ → Cuts
record_equations b steps subs next = equations_cut steps (subst_of subs) (module_of b).equations next

-- which side of an equation is the left term, by the sides' roots: a left variable, else a right variable, else a left constant, else a right constant
unfoldable pub sides_of : Option Term → Option Term → Sides
sides_of None None = Neither
sides_of None (Some y) = Right y
sides_of (Some x) None = Left x
sides_of (Some (Term.Variable v)) (Some y) = Left (Term.Variable v)
sides_of (Some (Term.Constant c)) (Some (Term.Variable w)) = Right (Term.Variable w)
sides_of (Some (Term.Constant c)) (Some (Term.Constant d)) = Left (Term.Constant c)
