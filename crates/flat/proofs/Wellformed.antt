-- The module of an accepted record is well formed. Assumes nothing.
use Prim.Native.Nat.{ℕ, zero, suc, ◌+◌, ◌≤◌, ◌<◌}
use mathlib.Core.Path.{◌≡◌}
use mathlib.Core.List.{List, [], ◌∷◌}
use mathlib.Core.Bool.{Bool, true, not, ◌&&◌}
use native.Mathlib.Omega.{arith}
use borrow.Author.Tests.{not-true}
use Rattle.flat.specs.Trees.{Flat, Definition, FlatModule, defines, every_id}
use Rattle.flat.specs.Layout.{next, publics, provers, definitions, equations, nodes, provers_offset, nodes_offset}
use Rattle.flat.specs.Record.{Read, flat_of, measured, rows, tree, definition_at, equation_at, module_of, ordered, rules}
use Rattle.flat.specs.Rules.{All, Every, Ordered, Rising, WellFormed}
use Rattle.marks.proofs.Indices.{and_left, and_right}
use Rattle.flat.proofs.Nodes.{tree-below}
use Rattle.flat.specs.Readable.{Readable}
use Rattle.flat.proofs.Answers.{rules-have}
use Rattle.flat.proofs.Reading.{public-below, prover-below, prover-rises, definition-below, equation-below}
use Rattle.flat.proofs.Reading.{tests-readable, accepted-measured, accepted-rules, accepted-module}

pub rows_all : {A : Type 0} (Q : A → Type 0) (f : ℕ → A) (n at : ℕ) → ((k : ℕ) → at ≤ k → k < at + n → Q (f k)) → All Q (rows n at f)
unfolding rows
rows_all Q f zero at h = tt
rows_all Q f (suc n) at h = (h at (omega arith) (omega arith), rows_all Q f n (suc at) (λ k l g. h k (omega arith) (omega arith)))

above : (f : ℕ → ℕ) (v n at : ℕ) → ((k : ℕ) → at ≤ k → k + 1 < at + n → f k < f (k + 1)) → (0 < n → v < f at) → All (λ w. v < w) (rows n at f)
unfolding rows
above f v zero at h g = tt
above f v (suc n) at h g =
    let w : v < f at = g (omega arith) in (
      w,
      above f v n (suc at) (λ k l p. h k (omega arith) (omega arith))
          (λ p. let e : at + 1 ≡ suc at = omega arith in let u : f at < f (suc at) = rw e at (h at (omega arith) (omega arith)) in omega arith),
    )

rise : (f : ℕ → ℕ) (n at : ℕ) → ((k : ℕ) → at ≤ k → k + 1 < at + n → f k < f (k + 1)) → Rising (rows n at f)
unfolding rows
rise f zero at h = tt
rise f (suc n) at h = (
  above f (f at) n (suc at) (λ k l p. h k (omega arith) (omega arith))
      (λ p. let e : at + 1 ≡ suc at = omega arith in rw e at (h at (omega arith) (omega arith))),
  rise f n (suc at) (λ k l p. h k (omega arith) (omega arith)),
)

pub every-tree : (p : ℕ → Bool) (t : Flat) → every_id p t ≡ true → Every (λ v. p v ≡ true) t
unfolding every_id
every-tree p (Flat.infixed o x y) h = (every-tree p x (and_left (every_id p x) (every_id p y) h), every-tree p y (and_right (every_id p x) (every_id p y) h))
every-tree p (Flat.negate x) h = every-tree p x h
every-tree p (Flat.constant c) h = tt
every-tree p (Flat.variable v) h = h

pub every_map : {P Q : ℕ → Type 0} → ((v : ℕ) → P v → Q v) → (t : Flat) → Every P t → Every Q t
every_map f (Flat.infixed o x y) h = (every_map f x h.0, every_map f y h.1)
every_map f (Flat.negate x) h = every_map f x h
every_map f (Flat.constant c) h = tt
every_map f (Flat.variable v) h = f v h

in_order : (ds : List Definition) → ordered ds ≡ true → Ordered ds
unfolding ordered
in_order [] h = tt
in_order (d ∷ ds) h =
    let p : ℕ → Bool = λ v. not (defines (d ∷ ds) v) in
    let r = and_right (not (defines ds d.id)) (every_id p d.right && ordered ds) h in (
      not-true (defines ds d.id) (and_left (not (defines ds d.id)) (every_id p d.right && ordered ds) h),
      every_map (λ v e. not-true (defines (d ∷ ds) v) e) d.right (every-tree p d.right (and_left (every_id p d.right) (ordered ds) r)),
      in_order ds (and_right (every_id p d.right) (ordered ds) r),
    )

-- a readable record's module: ids below the next id, prover ids that rise
module _ {b : List ℕ} (r : Readable b) where
  deep : (k : ℕ) → k < nodes b → Every (λ v. v < next b) (tree b (nodes_offset b) (nodes b) k)
  deep = tree-below b (nodes_offset b) (nodes b) (next b) r.nodes-fit (nodes b) (omega arith)

  pub readable-publics : All (λ v. v < next b) (module_of b).publics
  unfolding module_of
  readable-publics = rows_all (λ v. v < next b) _ (publics b) 0 (λ k l g. public-below r k (omega arith))

  pub readable-provers : All (λ v. v < next b) (module_of b).provers
  unfolding module_of
  readable-provers = rows_all (λ v. v < next b) _ (provers b) 0 (λ k l g. prover-below r k (omega arith))

  pub readable-rising : Rising (module_of b).provers
  unfolding module_of
  readable-rising = rise _ (provers b) 0
      (λ k l g. let e : provers_offset b + (k + 1) ≡ provers_offset b + k + 1 = omega arith in rw e (prover-rises r k (omega arith)))

  pub readable-definitions : All (λ d. (d.id < next b) × Every (λ v. v < next b) d.right) (module_of b).definitions
  unfolding module_of definition_at
  readable-definitions =
      rows_all (λ d. (d.id < next b) × Every (λ v. v < next b) d.right) _ (definitions b) 0
      (λ k l g. let w = definition-below r k (omega arith) in (w.0, deep _ w.1))

  pub readable-equations : All (λ e. Every (λ v. v < next b) e.left × Every (λ v. v < next b) e.right) (module_of b).equations
  unfolding module_of equation_at
  readable-equations =
      rows_all (λ e. Every (λ v. v < next b) e.left × Every (λ v. v < next b) e.right) _ (equations b) 0
      (λ k l g. let w = equation-below r k (omega arith) in (deep _ w.0, deep _ w.1))

-- the last of the rules
rules-ordered : (b : List ℕ) → rules b ≡ true → ordered (module_of b).definitions ≡ true
unfolding module_of
rules-ordered b r = (rules-have b r).ordered

well-formed : (b : List ℕ) → measured b ≡ true → rules b ≡ true → WellFormed (module_of b)
unfolding module_of
well-formed b m h =
    let r = tests-readable b m h in
    record {
      publics-below = readable-publics r;
      provers-below = readable-provers r;
      provers-rise = readable-rising r;
      definitions-below = readable-definitions r;
      equations-below = readable-equations r;
      ordered = in_order _ (rules-ordered b h);
    }

-- what the reader accepts is well formed
pub accepted-well-formed : (b : List ℕ) (f : FlatModule) → flat_of b ≡ Read.module-of f → WellFormed f
accepted-well-formed b f h = rw (accepted-module b f h) at (well-formed b (accepted-measured b f h) (accepted-rules b f h))
