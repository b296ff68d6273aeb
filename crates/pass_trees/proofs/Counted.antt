-- `counted` is what the rules call so: "a definition is counted if its variable is no prover variable and is reached from an equation through counted
-- definitions". What equations and counted definitions use is counted (`counted-closed`), and nothing else is (`counted-least`).
use Rattle.std.proofs.Common.{◌≡◌, ℕ, Bool, true, false, not, List, [], ◌∷◌, sym, refl, ◌∙◌, arith}
use borrow.Author.Tests.{not-true}
use Rattle.flat.specs.Trees.{Flat, Definition, Equation, FlatModule, defines}
use Rattle.flat.specs.Meaning.{update}
use Rattle.flat.specs.Rules.{All, Every}
use Rattle.pass_trees.specs.declared.Usage.{Usage}
use Rattle.pass_trees.specs.declared.Usage.TheVariants.{Never, Witness, Constraint}
use Rattle.pass_trees.specs.Passes.{member, those, most, is_never, mark_used}
use Rattle.pass_trees.specs.Passes.{used_in, override, classify_def, classified, usage, classify_defs, counted}
use Rattle.pass_trees.specs.Meaning.{Given}
use Rattle.pass_trees.specs.Statements.{CountedIsLeast, IfDefinedCounted, CountedIsClosed}
use Rattle.pass_trees.proofs.Lists.{bool-not, update_all, all_map, every_map}
use Rattle.pass_trees.proofs.Classified.{those-all, constraint-left, no-prover, inputs-given}

-- a map that says Constraint only in the set
abbrev Within : (ℕ → Type 0) → (ℕ → Usage) → Type 0
Within R g = (v : ℕ) → g v ≡ Constraint → R v

most-constraint : {A : Type 0} (u w : Usage) → (u ≡ Constraint → A) → (w ≡ Constraint → A) → most u w ≡ Constraint → A
unfolding most
most-constraint Never w f g h = g h
most-constraint Witness Never f g h = f h
most-constraint Witness Witness f g h = f h
most-constraint Witness Constraint f g h = g h
most-constraint Constraint w f g h = f h

override-constraint : (b : Bool) (u : Usage) → override b u ≡ Constraint → (u ≡ Constraint) × (b ≡ false)
unfolding override
override-constraint b Never h = absurd (let z : ◌≡◌ {A = ℕ} 0 1 = cc in omega arith)
override-constraint true Witness h = absurd (let z : ◌≡◌ {A = ℕ} 0 1 = cc in omega arith)
override-constraint true Constraint h = absurd (let z : ◌≡◌ {A = ℕ} 0 1 = cc in omega arith)
override-constraint false Witness h = absurd (let z : ◌≡◌ {A = ℕ} 0 1 = cc in omega arith)
override-constraint false Constraint h = (refl, refl)

module _ (R : ℕ → Type 0) where
  mark-within : (u : Usage) (e : Flat) (g : ℕ → Usage) → (u ≡ Constraint → Every R e) → Within R g → Within R (mark_used u e g)
  unfolding mark_used
  mark-within u (Flat.infixed o a b) g h k = mark-within u b (mark_used u a g) (λ e. (h e).1) (mark-within u a g (λ e. (h e).0) k)
  mark-within u (Flat.negate a) g h k = mark-within u a g h k
  mark-within u (Flat.constant c) g h k = k
  mark-within u (Flat.variable w) g h k = update_all (λ v x. x ≡ Constraint → R v) g w (most (g w) u) (most-constraint (g w) u (k w) h) k

  used-within : (es : List Equation) (g : ℕ → Usage) → All (λ e. Every R e.left × Every R e.right) es → Within R g → Within R (used_in es g)
  unfolding used_in
  used-within [] g h k = k
  used-within (e ∷ es) g h k =
      used-within es _ h.1 (mark-within Constraint e.right _ (λ _. h.0.1) (mark-within Constraint e.left g (λ _. h.0.0) k))

  classified-within : (ps : List ℕ) (ds : List Definition) (g : ℕ → Usage) → All (λ d. R d.id → member d.id ps ≡ false → Every R d.right) ds
      → Within R g → Within R (classified ps ds g)
  unfolding classified classify_def
  classified-within ps [] g h k = k
  classified-within ps (d ∷ ds) g h k =
      let before : ℕ → Usage = classified ps ds g in
      let ih : Within R before = classified-within ps ds g h.1 k in
      let u : Usage = override (member d.id ps) (before d.id) in
      mark-within u d.right (update before d.id u)
      (λ e. let o = override-constraint (member d.id ps) (before d.id) e in h.0 (ih d.id o.0) o.1)
      (update_all (λ v x. x ≡ Constraint → R v) before d.id u (λ e. ih d.id (override-constraint (member d.id ps) (before d.id) e).0) ih)

pub counted-least : CountedIsLeast
unfolding counted classify_defs usage
counted-least f w R c =
    all_map
    (λ d h.
    let n : member d.id (classify_defs f).provers ≡ false = not-true _ h.0 in
    let t = no-prover f w d.id h.1.1.0 n in (
      classified-within R f.provers f.definitions (used_in f.equations (λ _. Never)) c.definitions
          (used-within R f.equations (λ _. Never) c.equations (λ v e. absurd (let z : ◌≡◌ {A = ℕ} 0 1 = cc in omega arith)))
          d.id (constraint-left (usage f d.id) h.1.0 t.1),
      t.0,
    ))
    (counted f)
    (those-all _ _ (those (λ v. not (is_never (usage f v))) f.definitions)
    (those-all _ (λ v. not (is_never (usage f v))) f.definitions w.definitions-below))

-- a variable that some definition defines, and that is no prover variable, has a counted one
known-counted : (f : FlatModule) (v : ℕ) → (defines (counted f) v ≡ false → Given f v) → IfDefinedCounted f v
known-counted f v r d n = go (defines (counted f) v) refl
  where
    go : (b : Bool) → defines (counted f) v ≡ b → b ≡ true
    go true e = refl
    go false e = bool-not (sym ((r e).1 d) ∙ n)

pub counted-closed : CountedIsClosed
counted-closed f w = (
  all_map (λ e h. (every_map (known-counted f) e.left h.0, every_map (known-counted f) e.right h.1)) f.equations (inputs-given f w).equations,
  all_map (λ d h. every_map (known-counted f) d.right h) (counted f) (inputs-given f w).definitions,
)
