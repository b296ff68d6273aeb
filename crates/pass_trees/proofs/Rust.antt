-- Copy propagation is the Rust's, wherever that ends. Its substitutions have what ours have, and some variables for themselves, which no walk that ends meets.
use Rattle.std.proofs.Common.{◌≡◌, ℕ, zero, suc, Bool, true, false, cond, eqb, ◌⊎◌, List, [], ◌∷◌}
use Rattle.std.proofs.Common.{length, sym, refl, ap, ◌∙◌, subst, ap₂, inl, inr, ne_eqb, eqb-true}
use mathlib.Core.Option.{Option, none, some}
use native.Mathlib.Decide.{ℕ_discrete}
use Rattle.flat.specs.Trees.{Flat, Definition, Equation, defines}
use Rattle.flat.specs.Rules.{All, Every, Ordered}
use Rattle.flat.specs.Meaning.{update}
use Rattle.constraint.specs.declared.Term.{Term}
use Rattle.constraint.specs.Meaning.{InTerm}
use Rattle.pass_trees.specs.Passes.{member, classify_defs, Substitutions, follow, walk, to_expr, copy_propagate_expr, substituting}
use Rattle.pass_trees.specs.Passes.{copy_propagate_def, after_def, copy_propagate_defs, after_defs, copy_propagate_equations, copy_propagate}
use Rattle.pass_trees.specs.Statements.{Resolved, WalksEnd, inserted, rust_after_def, rust_defs, rust_after_defs, rust_copy_propagate, Ended}
use Rattle.pass_trees.specs.Statements.{RustEndsFrom, RustAgrees, NoneItself, RustEndsUnlessItself, RustEndsOnLent, ItselfNeverEnds}
use Rattle.pass_trees.proofs.Lists.{bool-not, update_same, update_other, every_map, term-map, defines-cons}
use Rattle.pass_trees.proofs.Copied.{Entries, none-entries, substituting-entries, copy-in, unflat}
use Rattle.pass_trees.proofs.Classified.{defines-here}
use Rattle.pass_trees.proofs.Working.{ordered-those}
use Rattle.pass_trees.proofs.Ending.{not_some, same_some, copy-resolved, copy-propagation-ends}
use Rattle.pass_trees.proofs.Loops.{walk-resolved}

-- a walk that comes to a variable that stands for itself stays there, and something stands for it
stays : (s : Substitutions) (v : ℕ) → s v ≡ some (Term.Variable v) → (k : ℕ) → walk k s (Term.Variable v) ≡ Term.Variable v
unfolding walk follow
stays s v e zero = refl
stays s v e (suc k) = ap (λ (o : Option Term). follow o (Term.Variable v) (walk k s)) e ∙ stays s v e k

pub itself-never-ends : ItselfNeverEnds
itself-never-ends s v e k h =
    let r : Resolved s (Term.Variable v) = subst (Resolved s) (stays s v e k) h in
    not_some (Term.Variable v) (sym r ∙ e)

-- the Rust's substitutions r beside ours s
abbrev Alike : Substitutions → Substitutions → Type 0
Alike r s = (v : ℕ) → (r v ≡ s v) ⊎ ((r v ≡ some (Term.Variable v)) × (s v ≡ none))

module _ (r s : Substitutions) (alike : Alike r s) (m : ℕ) (ended : (t : Term) → Resolved s (walk m s t)) where
  free : (v : ℕ) → r v ≡ none → s v ≡ none
  free v h = go (alike v)
    where
      go : (r v ≡ s v) ⊎ ((r v ≡ some (Term.Variable v)) × (s v ≡ none)) → s v ≡ none
      go (inl e) = sym e ∙ h
      go (inr e) = e.1

  -- our walk goes on where a substitution is
  walk-on : (j : ℕ) (v : ℕ) (t : Term) → s v ≡ some t → Resolved s (walk j s (Term.Variable v)) → (i : ℕ) × (walk j s (Term.Variable v) ≡ walk i s t)
  unfolding walk follow
  walk-on zero v t e h = not_some t (sym h ∙ e)
  walk-on (suc i) v t e h = (i, ap (λ (o : Option Term). follow o (Term.Variable v) (walk i s)) e)

  -- a walk of the Rust that ends, ends where ours does
  same_end : (k : ℕ) (t : Term) → Resolved r (walk k r t) → (j : ℕ) → Resolved s (walk j s t) → walk j s t ≡ walk k r t
  unfolding walk follow
  same_end zero (Term.Constant c) h j g = walk-resolved j s (Term.Constant c) tt
  same_end zero (Term.Variable v) h j g = walk-resolved j s (Term.Variable v) (free v h)
  same_end (suc k) (Term.Constant c) h j g = walk-resolved j s (Term.Constant c) tt
  same_end (suc k) (Term.Variable v) h j g = go (same_end k) (r v) refl h
    where
      Ends : Term → Type 0
      Ends t = Resolved r (walk k r t) → (j : ℕ) → Resolved s (walk j s t) → walk j s t ≡ walk k r t

      on : (t : Term) → r v ≡ some t → ((u : Term) → Ends u) → Resolved r (walk k r t) → (r v ≡ s v) ⊎ ((r v ≡ some (Term.Variable v)) × (s v ≡ none))
          → walk j s (Term.Variable v) ≡ walk k r t
      on t e ih h (inl q) =
          let w = walk-on j v t (sym q ∙ e) g in
          w.1 ∙ ih t h w.0 (subst (Resolved s) w.1 g)
      on t e ih h (inr q) =
          let z : t ≡ Term.Variable v = same_some t (Term.Variable v) (sym e ∙ q.0) in
          absurd (itself-never-ends r v q.0 k (subst (λ (u : Term). Resolved r (walk k r u)) z h))

      go : ((u : Term) → Ends u) → (o : Option Term) → r v ≡ o → Resolved r (follow o (Term.Variable v) (walk k r))
          → walk j s (Term.Variable v) ≡ follow o (Term.Variable v) (walk k r)
      go ih none e h = walk-resolved j s (Term.Variable v) (free v e)
      go ih (some t) e h = on t e ih h (alike v)

  copies-alike : (k : ℕ) (e : Flat) → Ended k r e → copy_propagate_expr k r e ≡ copy_propagate_expr m s e
  unfolding copy_propagate_expr
  copies-alike k (Flat.infixed o a b) h = ap₂ (Flat.infixed o) (copies-alike k a h.0) (copies-alike k b h.1)
  copies-alike k (Flat.negate a) h = ap Flat.negate (copies-alike k a h)
  copies-alike k (Flat.constant c) h = refl
  copies-alike k (Flat.variable v) h = ap to_expr (sym (same_end k (Term.Variable v) h m (ended (Term.Variable v))))

  equations-alike : (k : ℕ) (es : List Equation) → All (λ e. Ended k r e.left × Ended k r e.right) es
      → copy_propagate_equations k r es ≡ copy_propagate_equations m s es
  unfolding copy_propagate_equations
  equations-alike k [] h = refl
  equations-alike k (e ∷ es) h = cc (copies-alike k e.left h.0.0, copies-alike k e.right h.0.1, equations-alike k es h.1)

  -- both make the same entry, or the Rust's is the variable itself, for which nothing stands
  both-update : (v : ℕ) (o : Option Term) → Alike (update r v o) (update s v o)
  both-update v o w = go (ℕ_discrete w v)
    where
      go : Dec (w ≡ v) → (update r v o w ≡ update s v o w) ⊎ ((update r v o w ≡ some (Term.Variable w)) × (update s v o w ≡ none))
      go (yes e) = inl (ap (update r v o) e ∙ update_same r v o ∙ sym (ap (update s v o) e ∙ update_same s v o))
      go (no n) = other (alike w)
        where
          other : (r w ≡ s w) ⊎ ((r w ≡ some (Term.Variable w)) × (s w ≡ none))
              → (update r v o w ≡ update s v o w) ⊎ ((update r v o w ≡ some (Term.Variable w)) × (update s v o w ≡ none))
          other (inl e) = inl (update_other r v o w n ∙ e ∙ sym (update_other s v o w n))
          other (inr e) = inr (update_other r v o w n ∙ e.0, update_other s v o w n ∙ e.1)

  itself : (v : ℕ) → s v ≡ none → Alike (update r v (some (Term.Variable v))) s
  itself v h w = go (ℕ_discrete w v)
    where
      o : Option Term
      o = some (Term.Variable v)

      other : (w ≡ v → ⊥) → (r w ≡ s w) ⊎ ((r w ≡ some (Term.Variable w)) × (s w ≡ none))
          → (update r v o w ≡ s w) ⊎ ((update r v o w ≡ some (Term.Variable w)) × (s w ≡ none))
      other n (inl e) = inl (update_other r v o w n ∙ e)
      other n (inr e) = inr (update_other r v o w n ∙ e.0, e.1)

      go : Dec (w ≡ v) → (update r v o w ≡ s w) ⊎ ((update r v o w ≡ some (Term.Variable w)) × (s w ≡ none))
      go (yes e) = inr (ap (update r v o) e ∙ update_same r v o ∙ ap (λ (x : ℕ). some (Term.Variable x)) (sym e), ap s e ∙ h)
      go (no n) = other n (alike w)

  inserted-alike : (b : Bool) (v : ℕ) (e : Flat) → ((t : Term) → e ≡ to_expr t → Resolved s t) → Alike (inserted b v e r) (substituting b v e s)
  unfolding inserted substituting to_expr
  inserted-alike true v e h = alike
  inserted-alike false v (Flat.infixed o a b) h = alike
  inserted-alike false v (Flat.negate a) h = alike
  inserted-alike false v (Flat.constant c) h = both-update v (some (Term.Constant c))
  inserted-alike false v (Flat.variable w) h = go (eqb w v) refl
    where
      go : (b : Bool) → eqb w v ≡ b → Alike (update r v (some (Term.Variable w))) (cond b s (update s v (some (Term.Variable w))))
      go true e =
          let i : w ≡ v = eqb-true w v e in
          subst (λ (x : ℕ). Alike (update r v (some (Term.Variable x))) s) (sym i) (itself v (ap s (sym i) ∙ h (Term.Variable w) refl))
      go false e = both-update v (some (Term.Variable w))

-- the lists, definition by definition
after-alike : (ps : List ℕ) (k m : ℕ) (d : Definition) (r s : Substitutions) → Alike r s → ((t : Term) → Resolved s (walk m s t)) → Ended k r d.right
    → Alike (rust_after_def ps k r d) (after_def ps m s d)
unfolding rust_after_def after_def
after-alike ps k m d r s a w h =
    subst
    (λ (e : Flat). Alike (inserted (member d.id ps) d.id e r) (substituting (member d.id ps) d.id (copy_propagate_expr m s d.right) s))
    (sym (copies-alike r s a m w k d.right h))
    (inserted-alike r s a m w (member d.id ps) d.id (copy_propagate_expr m s d.right) (copy-resolved s m w d.right))

lists-alike : (ps : List ℕ) (k m : ℕ) (ds : List Definition) (es : List Equation) (r s : Substitutions)
    → Alike r s → WalksEnd ps m s ds → RustEndsFrom ps k r ds es
    → (rust_defs ps k r ds ≡ copy_propagate_defs ps m s ds)
    × (copy_propagate_equations k (rust_after_defs ps k r ds) es ≡ copy_propagate_equations m (after_defs ps m s ds) es)
unfolding rust_defs rust_after_defs copy_propagate_defs copy_propagate_def after_defs
lists-alike ps k m [] es r s a w h = (refl, equations-alike r s a m w k es h)
lists-alike ps k m (d ∷ ds) es r s a w h =
    let rest = lists-alike ps k m ds es (rust_after_def ps k r d) (after_def ps m s d) (after-alike ps k m d r s a w.0 h.0) w.1 h.1 in
    (cc (copies-alike r s a m w.0 k d.right h.0, rest.0), rest.1)

pub rust-agrees : RustAgrees
unfolding rust_copy_propagate copy_propagate
rust-agrees k f h =
    let p = lists-alike f.provers k (length f.definitions) f.definitions f.equations (λ _. none) (λ _. none) (λ v. inl refl)
    (copy-propagation-ends f.provers f.definitions) h in
    λ i. record { next = f.next; publics = f.publics; provers = f.provers; definitions = p.0 i; equations = p.1 i }

-- where no copy is the definition's own variable the substitutions are the same
every-always : (Q : ℕ → Type 0) → ((v : ℕ) → Q v) → (e : Flat) → Every Q e
every-always Q h (Flat.infixed o a b) = (every-always Q h a, every-always Q h b)
every-always Q h (Flat.negate a) = every-always Q h a
every-always Q h (Flat.constant c) = tt
every-always Q h (Flat.variable v) = h v

same-insertion : (b : Bool) (v : ℕ) (e : Flat) (s : Substitutions) → (b ≡ false → e ≡ Flat.variable v → ⊥) → substituting b v e s ≡ inserted b v e s
unfolding substituting inserted
same-insertion true v e s h = refl
same-insertion false v (Flat.infixed o a b) s h = refl
same-insertion false v (Flat.negate a) s h = refl
same-insertion false v (Flat.constant c) s h = refl
same-insertion false v (Flat.variable w) s h =
    ap (λ (b : Bool). cond b s (update s v (some (Term.Variable w)))) (ne_eqb w v (λ e. h refl (ap Flat.variable e)))

same_after : (ps : List ℕ) (k : ℕ) (s : Substitutions) (d : Definition)
    → (member d.id ps ≡ false → copy_propagate_expr k s d.right ≡ Flat.variable d.id → ⊥) → after_def ps k s d ≡ rust_after_def ps k s d
unfolding after_def rust_after_def
same_after ps k s d h = same-insertion (member d.id ps) d.id (copy_propagate_expr k s d.right) s h

ends-from : (ps : List ℕ) (k : ℕ) (ds : List Definition) (es : List Equation) (s : Substitutions) → WalksEnd ps k s ds → NoneItself ps k s ds
    → RustEndsFrom ps k s ds es
ends-from ps k [] [] s w h = tt
ends-from ps k [] (e ∷ es) s w h =
    ((every-always _ (λ v. w (Term.Variable v)) e.left, every-always _ (λ v. w (Term.Variable v)) e.right), ends-from ps k [] es s w h)
ends-from ps k (d ∷ ds) es s w h = (
  every-always _ (λ v. w.0 (Term.Variable v)) d.right,
  subst (λ (t : Substitutions). RustEndsFrom ps k t ds es) (same_after ps k s d h.0) (ends-from ps k ds es (after_def ps k s d) w.1 h.1),
)

pub rust-ends-unless-itself : RustEndsUnlessItself
rust-ends-unless-itself f h =
    ends-from f.provers (length f.definitions) f.definitions f.equations (λ _. none) (copy-propagation-ends f.provers f.definitions) h

-- where no right side uses an id defined there or later, neither does its copy
none-itself : (ps : List ℕ) (k : ℕ) (ds : List Definition) (s : Substitutions) → Ordered ds
    → Entries (λ v t. InTerm (λ w. defines ds w ≡ false) t) s → NoneItself ps k s ds
unfolding after_def
none-itself ps k [] s o h = tt
none-itself ps k (d ∷ ds) s o h =
    let later : Every (λ w. defines (d ∷ ds) w ≡ false) (copy_propagate_expr k s d.right) =
    copy-in (λ w. defines (d ∷ ds) w ≡ false) s (λ v t e _. h v t e) k d.right o.1 in (
      (λ _ e. let n : defines (d ∷ ds) d.id ≡ false = subst (Every (λ w. defines (d ∷ ds) w ≡ false)) e later in
          bool-not (sym (defines-here d ds d.id refl) ∙ n)),
      none-itself ps k ds _ o.2
          (substituting-entries _ (member d.id ps) d.id (copy_propagate_expr k s d.right) s
          (λ t _ e. unflat (λ w. defines ds w ≡ false) t
          (subst (Every (λ w. defines ds w ≡ false)) e (every_map (λ w i. (defines-cons d ds w i).1) (copy_propagate_expr k s d.right) later)))
          (λ v t e. term-map (λ w i. (defines-cons d ds w i).1) t (h v t e))),
    )

pub rust-ends-on-lent : RustEndsOnLent
unfolding classify_defs
rust-ends-on-lent f w =
    rust-ends-unless-itself (classify_defs f) (none-itself (classify_defs f).provers (length (classify_defs f).definitions) (classify_defs f).definitions
    (λ _. none) (ordered-those _ f.definitions w.ordered) (none-entries _))
