-- Substitutions as they stand in an array by id, and expressions with the substitutions made, by their root.
use Rattle.std.specs.Prelude.{◌≡◌, List, [], ◌∷◌, Bool, false, ℕ, eqb, get_or, length, set, replicate}
use Rattle.std.specs.Prelude as code
use Rattle.std.proofs.Math.Nat.{ℕ_set}
use Rattle.std.proofs.Math.Option.{Option, none, some}
use Rattle.flat.specs.Record.{pick}
use Rattle.flat.specs.Trees.{Flat, Definition}
use Rattle.constraint.specs.declared.Term.{Term}
use Rattle.pass_copies.specs.declared.Substitute.{Substitute}
use Rattle.pass_trees.specs.Passes.{Substitutions, copy_propagate_expr, same_number}
use Rattle.records.specs.FlatRecord.{IDS}

-- what stands for an id in the array
unfoldable pub term_of : Substitute → Option Term
term_of Substitute.Itself = none
term_of (Substitute.Variable w) = some (Term.Variable w)
term_of (Substitute.Constant c) = some (Term.Constant c)

unfoldable pub standing : Term → Substitute
standing (Term.Variable w) = Substitute.Variable w
standing (Term.Constant c) = Substitute.Constant c

-- what the code says of a term that may be missing
unfoldable pub option_of : code.Option Term → Option Term
option_of code.None = none
option_of (code.Some t) = some t

-- what stands for each id: nothing stands for one above 65,535
unfoldable pub subst_of : List Substitute → Substitutions
subst_of m v = term_of (get_or m v Substitute.Itself)

-- no substitutions
unfoldable pub no_substitutions : List Substitute
no_substitutions = replicate IDS Substitute.Itself

-- an array by the ids: at most one proof says so
pub long-prop : (m : List Substitute) → IsProp (length m ≡ IDS)
long-prop m = hlevel ℕ_set

-- "the result is a variable or constant", or an operation on others
unfoldable pub copied_of : Flat → code.Option Term
copied_of (Flat.infixed o a b) = code.None
copied_of (Flat.negate a) = code.None
copied_of (Flat.constant c) = code.Some (Term.Constant c)
copied_of (Flat.variable v) = code.Some (Term.Variable v)

-- the array in which a term stands for id v
unfoldable pub put_term : List Substitute → ℕ → Term → List Substitute
put_term m v t = set m v (standing t)

-- "if the result is a variable or constant, then make a new substitution for the LHS", none of a variable for itself: the array after a definition of
-- v whose right side, copied, has this root
unfoldable pub put_root : List Substitute → ℕ → code.Option Term → List Substitute
put_root m v code.None = m
put_root m v (code.Some (Term.Variable w)) = pick (eqb w v) m (put_term m v (Term.Variable w))
put_root m v (code.Some (Term.Constant c)) = put_term m v (Term.Constant c)

unfoldable pub put_definition : ℕ → List Substitute → Definition → List Substitute
put_definition steps m d = put_root m d.id (copied_of (copy_propagate_expr steps (subst_of m) d.right))

-- the array after definitions, one after the other. What it says is `after_defs` of the passes (`definitions-say` in proofs/After.antt)
unfoldable pub put_definitions : ℕ → List Substitute → List Definition → List Substitute
put_definitions steps m [] = m
put_definitions steps m (d ∷ ds) = put_definitions steps (put_definition steps m d) ds

-- "two equal constants, as they are written, or one variable twice": `dead` by the roots (dead-by-roots in proofs/Shapes.antt)
unfoldable pub same_term : Term → Term → Bool
same_term (Term.Variable v) (Term.Variable w) = eqb v w
same_term (Term.Variable v) (Term.Constant d) = false
same_term (Term.Constant c) (Term.Variable w) = false
same_term (Term.Constant c) (Term.Constant d) = same_number c d

unfoldable pub dead_roots : code.Option Term → code.Option Term → Bool
dead_roots (code.Some x) (code.Some y) = same_term x y
dead_roots (code.Some x) code.None = false
dead_roots code.None b = false
