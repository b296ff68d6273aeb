-- What is proved of the passes, in proofs/: their statements.
use Rattle.std.specs.Prelude.{◌≡◌, ℕ, ◌+◌, ◌<◌, Bool, true, false, cond, ◌↔◌, List, [], ◌∷◌, ◌++◌, length, ◌≢◌, slice_index, replicate}
use Rattle.std.proofs.Math.Option.{none, some}
use Rattle.flat.specs.Trees.{Flat, Definition, Equation, FlatModule, defines}
use Rattle.flat.specs.Places.{bare_definitions, bare}
use Rattle.flat.specs.Record.{Read, flat_of}
use Rattle.flat.specs.Rules.{All, Every, Ordered, WellFormed}
use Rattle.flat.specs.Meaning.{update, Assignment, Elements, DefinitionHolds, EquationHolds, NoZeroDivisor, worked_out, NoZeroInTurn}
use Rattle.constraint.specs.declared.Term.{Term}
use Rattle.constraint.specs.Trees.{Equality, ConstraintModule}
use Rattle.constraint.specs.Reading.{constraint_of, SignedTree, Signed}
use Rattle.constraint.specs.Record.{constraint_bytes}
use Rattle.constraint.specs.Meaning.{InTerm, InEquality, EqualityHolds, Solution}
use Rattle.pass_trees.specs.Passes.{member, classify_defs, Substitutions, walk, copy_propagate_expr, copy_propagate_def}
use Rattle.pass_trees.specs.Passes.{after_def, copy_propagate_equations, copy_propagate, counted, Outcome, cut, refused, passes, cut_of}
use Rattle.pass_trees.specs.Passes.{those, dead, Sides, into, both, sides, all_at}
use Rattle.pass_trees.specs.Meaning.{Inputs, Uncounted, Given, worked}

-- THE PASSES KEEP THE MEANING. For inputs I with the values ρ, and the module's values τ: the equations hold under τ just if the equalities have a solution
-- with ρ, and any two such solutions agree on every variable that occurs in the equalities
pub record KeepsMeaning (f : FlatModule) (c : ConstraintModule) (I : ℕ → Type 0) (ρ τ : Assignment) : Type 0 where
  pub agrees : All (EquationHolds τ) f.equations ↔ ((σ : Assignment) × Solution I c ρ σ)
  pub unique : (σ υ : Assignment) → Solution I c ρ σ → Solution I c ρ υ → All (InEquality (λ v. σ v ≡ υ v)) c.equalities

-- for the values worked out in order from ρ, where every operation of a counted definition has a value when its turn comes.
-- (One without a value in an equation takes away the equation's, and the equalities' solution: nothing need be asked of it.)
abbrev pub CutKeepsMeaning : Type 1
CutKeepsMeaning =
    (f : FlatModule) (c : ConstraintModule) →
    WellFormed f →
    cut_of f ≡ cut c →
    (I : ℕ → Type 0) → Inputs f I →
    (ρ : Assignment) →
    Elements ρ →
    NoZeroInTurn (counted f) ρ →
    KeepsMeaning f c I ρ (worked f ρ)

-- and for any values τ that the counted definitions have with ρ
abbrev pub CutKeepsMeaningAt : Type 1
CutKeepsMeaningAt =
    (f : FlatModule) (c : ConstraintModule) →
    WellFormed f →
    cut_of f ≡ cut c →
    (I : ℕ → Type 0) → Inputs f I →
    (ρ τ : Assignment) →
    Elements τ →
    ((v : ℕ) → I v → τ v ≡ ρ v) →
    All (DefinitionHolds τ) (counted f) →
    KeepsMeaning f c I ρ τ

-- every operation has the value at the end that it has when its turn comes, or has none either time
abbrev pub InTurnIsAtEnd : Type 0
InTurnIsAtEnd = (ds : List Definition) → Ordered ds → (ρ : Assignment) → NoZeroInTurn ds ρ ↔ All (λ d. NoZeroDivisor (worked_out ds ρ) d.right) ds

-- the two sets of inputs
abbrev pub InputsUncounted : Type 0
InputsUncounted = (f : FlatModule) → WellFormed f → Inputs f (Uncounted f)

abbrev pub InputsGiven : Type 0
InputsGiven = (f : FlatModule) → WellFormed f → Inputs f (Given f)

-- ON EVERY MODULE, ids defined twice or used before their definition included, the passes keep the solutions: a solution of the equalities is one of the
-- module; one of the module can be given values for the new ids; and these are determined
abbrev pub Fulfils : FlatModule → Assignment → Type 0
Fulfils f σ = All (DefinitionHolds σ) (counted f) × All (EquationHolds σ) f.equations

-- an assignment that agrees with σ below n and fulfils the equalities
pub record Extension (σ : Assignment) (n : ℕ) (qs : List Equality) : Type 0 where
  pub assignment : Assignment
  pub elements : Elements assignment
  pub same : (v : ℕ) → v < n → assignment v ≡ σ v
  pub holds : All (EqualityHolds assignment) qs

pub record KeepsSolutions (f : FlatModule) (c : ConstraintModule) : Type 0 where
  pub reads : (σ : Assignment) → Elements σ → All (EqualityHolds σ) c.equalities → Fulfils f σ
  pub extends : (σ : Assignment) → Elements σ → Fulfils f σ → Extension σ f.next c.equalities
  pub determines : (σ τ : Assignment) → ((v : ℕ) → v < f.next → σ v ≡ τ v) → All (EqualityHolds σ) c.equalities → All (EqualityHolds τ) c.equalities
      → All (InEquality (λ v. σ v ≡ τ v)) c.equalities

abbrev pub PassesKeepSolutions : Type 0
PassesKeepSolutions =
    (f : FlatModule) →
    All (λ d. (d.id < f.next) × Every (λ v. v < f.next) d.right) f.definitions →
    All (λ e. Every (λ v. v < f.next) e.left × Every (λ v. v < f.next) e.right) f.equations →
    KeepsSolutions f (passes f)

-- PLACES ARE INHERITED: the places of the equalities are, definition by definition and then equation by equation, that of the definition or equation as often
-- as it has equalities

-- how many equalities a tree is cut into for a left side that is given: one for each operation, and one for a term alone
unfoldable pub operations : Flat → ℕ
operations (Flat.infixed o a b) = operations a + operations b + 1
operations (Flat.negate a) = operations a + 1
operations (Flat.constant c) = 0
operations (Flat.variable v) = 0

unfoldable pub equalities_into : Flat → ℕ
equalities_into (Flat.infixed o a b) = operations (Flat.infixed o a b)
equalities_into (Flat.negate a) = operations (Flat.negate a)
equalities_into (Flat.constant c) = 1
equalities_into (Flat.variable v) = 1

-- and an equation: none where it is obviously true; where neither side is a term, one more
unfoldable pub equalities_of : Sides → ℕ
equalities_of (into t e) = equalities_into e
equalities_of (both a b) = operations a + (operations b + 1)

unfoldable pub places : List Equality → List ℕ
places [] = []
places (q ∷ qs) = q.place ∷ places qs

unfoldable pub definition_places : List Definition → List ℕ
definition_places [] = []
definition_places (d ∷ ds) = replicate (equalities_into d.right) d.place ++ definition_places ds

unfoldable pub equation_places : List Equation → List ℕ
equation_places [] = []
equation_places (e ∷ es) = replicate (cond (dead e.left e.right) 0 (equalities_of (sides e.left e.right))) e.place ++ equation_places es

unfoldable pub own_places : List Definition → List ℕ
own_places [] = []
own_places (d ∷ ds) = d.place ∷ own_places ds

unfoldable pub own_equation_places : List Equation → List ℕ
own_equation_places [] = []
own_equation_places (e ∷ es) = e.place ∷ own_equation_places es

-- of the counted definitions, and of the equations as copy propagation leaves them, which are the module's with their places; kept definitions have theirs
pub record PlacesInherited (f : FlatModule) : Type 0 where
  pub equalities : places (passes f).equalities ≡ definition_places (counted f) ++ equation_places (copy_propagate (classify_defs f)).equations
  pub equations : own_equation_places (copy_propagate (classify_defs f)).equations ≡ own_equation_places f.equations
  pub kept : own_places (passes f).kept ≡ own_places (those (λ v. member v (classify_defs f).provers) (classify_defs f).definitions)

-- PLACES STAND APART: with the place words taken out the list is what it is without them, and so is whether it is cut
unfoldable pub bare_cut : ConstraintModule → ConstraintModule
bare_cut c =
    record {
      next = c.next;
      publics = c.publics;
      provers = c.provers;
      equalities = all_at 0 c.equalities;
      kept = bare_definitions c.kept;
    }

unfoldable pub bare_outcome : Outcome → Outcome
bare_outcome (cut c) = cut (bare_cut c)
bare_outcome (refused n) = refused n

pub record PlacesApart (f : FlatModule) : Type 0 where
  pub passes-are : bare_cut (passes f) ≡ passes (bare f)
  pub cut-is : bare_outcome (cut_of f) ≡ cut_of (bare f)

-- CONSTANTS STAY SIGNED 32-BIT, so that the record's bytes say the list that the passes leave (ReadBack in crate constraint)
abbrev pub SignedModule : FlatModule → Type 0
SignedModule f = All (λ d. SignedTree d.right) f.definitions × All (λ e. SignedTree e.left × SignedTree e.right) f.equations

abbrev pub PassesKeepSigned : Type 0
PassesKeepSigned = (f : FlatModule) → SignedModule f → Signed (passes f)

-- the constants of a lent record are; so the bytes written for it say the list that its module is cut into
abbrev pub LentReadBack : Type 0
LentReadBack =
    (b : List ℕ) (f : FlatModule) (c : ConstraintModule) →
    ((k : ℕ) → slice_index b k < 256) →
    flat_of b ≡ Read.module-of f →
    cut_of f ≡ cut c →
    constraint_of (constraint_bytes c) ≡ c

-- COPY PROPAGATION ENDS, on every list of definitions, ids defined twice included: at each definition, and after the last, every walk with
-- the steps that copy_propagate gives ends in a term that nothing stands for
abbrev pub Resolved : Substitutions → Term → Type 0
Resolved s t = InTerm (λ v. s v ≡ none) t

abbrev pub WalksEnd : List ℕ → ℕ → Substitutions → List Definition → Type 0
WalksEnd ps k s [] = (t : Term) → Resolved s (walk k s t)
WalksEnd ps k s (d ∷ ds) = ((t : Term) → Resolved s (walk k s t)) × WalksEnd ps k (after_def ps k s d) ds

abbrev pub CopyPropagationEnds : Type 0
CopyPropagationEnds = (ps : List ℕ) (ds : List Definition) → WalksEnd ps (length ds) (λ _. none) ds

-- IT IS THE RUST'S. copy_propagate_def inserts also a variable for itself, and copy_propagate_expr follows the substitutions as long as there are any.
-- The Rust's, with k steps for each of its walks:
unfoldable pub inserted : Bool → ℕ → Flat → Substitutions → Substitutions
inserted true v e s = s
inserted false v (Flat.infixed o a b) s = s
inserted false v (Flat.negate a) s = s
inserted false v (Flat.constant c) s = update s v (some (Term.Constant c))
inserted false v (Flat.variable w) s = update s v (some (Term.Variable w))

unfoldable pub rust_after_def : List ℕ → ℕ → Substitutions → Definition → Substitutions
rust_after_def ps k s d = inserted (member d.id ps) d.id (copy_propagate_expr k s d.right) s

unfoldable pub rust_defs : List ℕ → ℕ → Substitutions → List Definition → List Definition
rust_defs ps k s [] = []
rust_defs ps k s (d ∷ ds) = copy_propagate_def k s d ∷ rust_defs ps k (rust_after_def ps k s d) ds

unfoldable pub rust_after_defs : List ℕ → ℕ → Substitutions → List Definition → Substitutions
rust_after_defs ps k s [] = s
rust_after_defs ps k s (d ∷ ds) = rust_after_defs ps k (rust_after_def ps k s d) ds

unfoldable pub rust_copy_propagate : ℕ → FlatModule → FlatModule
rust_copy_propagate k f =
    record {
      next = f.next;
      publics = f.publics;
      provers = f.provers;
      definitions = rust_defs f.provers k (λ _. none) f.definitions;
      equations = copy_propagate_equations k (rust_after_defs f.provers k (λ _. none) f.definitions) f.equations;
    }

-- the Rust ends within k steps for each walk: each walk that it makes is then at a constant, or at a variable that nothing stands for
abbrev pub Ended : ℕ → Substitutions → Flat → Type 0
Ended k s e = Every (λ v. Resolved s (walk k s (Term.Variable v))) e

abbrev pub RustEndsFrom : List ℕ → ℕ → Substitutions → List Definition → List Equation → Type 0
RustEndsFrom ps k s [] es = All (λ e. Ended k s e.left × Ended k s e.right) es
RustEndsFrom ps k s (d ∷ ds) es = Ended k s d.right × RustEndsFrom ps k (rust_after_def ps k s d) ds es

abbrev pub RustEnds : ℕ → FlatModule → Type 0
RustEnds k f = RustEndsFrom f.provers k (λ _. none) f.definitions f.equations

-- wherever the Rust ends, both give the same
abbrev pub RustAgrees : Type 0
RustAgrees = (k : ℕ) (f : FlatModule) → RustEnds k f → rust_copy_propagate k f ≡ copy_propagate f

-- it ends where no definition's copy is its own variable, as at every lent record; and a walk that comes to a variable that stands for itself does not
abbrev pub NoneItself : List ℕ → ℕ → Substitutions → List Definition → Type 0
NoneItself ps k s [] = Unit {0}
NoneItself ps k s (d ∷ ds) =
    (member d.id ps ≡ false → copy_propagate_expr k s d.right ≢ Flat.variable d.id) × NoneItself ps k (after_def ps k s d) ds

abbrev pub RustEndsUnlessItself : Type 0
RustEndsUnlessItself = (f : FlatModule) → NoneItself f.provers (length f.definitions) (λ _. none) f.definitions → RustEnds (length f.definitions) f

abbrev pub RustEndsOnLent : Type 0
RustEndsOnLent = (f : FlatModule) → WellFormed f → RustEnds (length (classify_defs f).definitions) (classify_defs f)

abbrev pub ItselfNeverEnds : Type 0
ItselfNeverEnds = (s : Substitutions) (v : ℕ) → s v ≡ some (Term.Variable v) → (k : ℕ) → Resolved s (walk k s (Term.Variable v)) → ⊥

-- COUNTED IS WHAT DOCUMENT 01 CALLS SO: the least set that has what equations and counted definitions use.
-- a set of ids that has the variables of the equations, and with a variable that is no prover variable those of its definition
pub record Closed (f : FlatModule) (R : ℕ → Type 0) : Type 0 where
  pub equations : All (λ e. Every R e.left × Every R e.right) f.equations
  pub definitions : All (λ d. R d.id → member d.id f.provers ≡ false → Every R d.right) f.definitions

-- every counted definition's variable is in every such set, and no prover variable
abbrev pub CountedIsLeast : Type 1
CountedIsLeast = (f : FlatModule) → WellFormed f → (R : ℕ → Type 0) → Closed f R → All (λ d. R d.id × (member d.id f.provers ≡ false)) (counted f)

-- what an equation or a counted definition uses has a counted definition, if it has one and is no prover variable
abbrev pub IfDefinedCounted : FlatModule → ℕ → Type 0
IfDefinedCounted f v = defines f.definitions v ≡ true → member v f.provers ≡ false → defines (counted f) v ≡ true

abbrev pub CountedIsClosed : Type 0
CountedIsClosed =
    (f : FlatModule) →
    WellFormed f →
    All (λ e. Every (IfDefinedCounted f) e.left × Every (IfDefinedCounted f) e.right) f.equations
    × All (λ d. Every (IfDefinedCounted f) d.right) (counted f)
