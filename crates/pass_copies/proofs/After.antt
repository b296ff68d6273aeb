-- The array of substitutions after definitions of a record: its length, what it says, and a list of definitions by its first. Assumes nothing.
use mathlib.Core.Path.{◌≡◌, refl, sym, ap, ◌∙◌}
use mathlib.Core.List.{List, [], ◌∷◌, ◌++◌}
use mathlib.Core.Bool.{Bool, true, false, not}
use Prim.Native.Nat.{ℕ, ◌<◌}
use native.Mathlib.Omega.{arith}
use lib.ListN.{length}
use Rattle.flat.specs.Trees.{Definition}
use Rattle.flat.specs.Rules.{All}
use Rattle.flat.specs.Layout.{definitions}
use Rattle.flat.specs.Record.{definition_at, module_of}
use Rattle.flat.specs.Readable.{Readable}
use Rattle.flat.proofs.Wellformed.{rows_all}
use Rattle.flat.proofs.Reading.{definition-below}
use Rattle.pass_trees.specs.Passes.{Substitutions, member, keep_if, those, is_never, usage, copy_propagate_expr, substituting, after_def, after_defs}
use Rattle.pass_trees.proofs.Loops.{those-append}
use Rattle.pass_classify.specs.Arrays.{provers_of, used_of, counted_of}
use Rattle.pass_copies.specs.Substituted.{subst_of, put_definition, put_definitions}
use Rattle.pass_copies.specs.declared.Substitute.{Substitute}
use Rattle.pass_copies.proofs.Stored.{put-length, root-says}

-- ---- the length

pub definition-length : (steps : ℕ) (m : List Substitute) (d : Definition) → length (put_definition steps m d) ≡ length m
unfolding put_definition
definition-length steps m d = put-length m d.id _

pub definitions-length : (steps : ℕ) (m : List Substitute) (ds : List Definition) → length (put_definitions steps m ds) ≡ length m
unfolding put_definitions
definitions-length steps m [] = refl
definitions-length steps m (d ∷ ds) = definitions-length steps (put_definition steps m d) ds ∙ definition-length steps m d

-- ---- a list by its first

pub put-append : (steps : ℕ) (xs ys : List Definition) (m : List Substitute) →
    put_definitions steps m (xs ++ ys) ≡ put_definitions steps (put_definitions steps m xs) ys
unfolding put_definitions
put-append steps [] ys m = refl
put-append steps (d ∷ xs) ys m = put-append steps xs ys (put_definition steps m d)

counted-first : (b : List ℕ) (d : Definition) (ds : List Definition) → counted_of b (d ∷ ds) ≡ counted_of b (d ∷ []) ++ counted_of b ds
unfolding counted_of used_of
counted-first b d ds =
    ap (those (λ v. not (member v (provers_of b)))) (those-append (λ v. not (is_never (usage (module_of b) v))) (d ∷ []) ds)
    ∙ those-append (λ v. not (member v (provers_of b))) (those (λ v. not (is_never (usage (module_of b) v))) (d ∷ [])) _

pub put_first : (b : List ℕ) (steps : ℕ) (m : List Substitute) (d : Definition) (ds : List Definition) →
    put_definitions steps m (counted_of b (d ∷ ds)) ≡ put_definitions steps (put_definitions steps m (counted_of b (d ∷ []))) (counted_of b ds)
put_first b steps m d ds = ap (put_definitions steps m) (counted-first b d ds) ∙ put-append steps (counted_of b (d ∷ [])) (counted_of b ds) m

pub put-none : (b : List ℕ) (steps : ℕ) (m : List Substitute) → put_definitions steps m (counted_of b []) ≡ m
unfolding counted_of used_of those put_definitions
put-none b steps m = refl

-- one: not used, the prover's, or counted
module _ (b : List ℕ) (steps : ℕ) (m : List Substitute) (d : Definition) where
  pub put-unused : is_never (usage (module_of b) d.id) ≡ true → m ≡ put_definitions steps m (counted_of b (d ∷ []))
  unfolding counted_of used_of those keep_if put_definitions
  put-unused h = rw h

  pub put-prover : is_never (usage (module_of b) d.id) ≡ false → member d.id (provers_of b) ≡ true → m ≡ put_definitions steps m (counted_of b (d ∷ []))
  unfolding counted_of used_of those keep_if put_definitions
  put-prover h p = rw (h, those, p)

  pub put-counted : is_never (usage (module_of b) d.id) ≡ false → member d.id (provers_of b) ≡ false →
      put_definition steps m d ≡ put_definitions steps m (counted_of b (d ∷ []))
  unfolding counted_of used_of those keep_if put_definitions
  put-counted h p = rw (h, those, p)

-- ---- what it says

-- a definition of an id that stands in the array, as those of a record do
abbrev pub Storable : Definition → Type 0
Storable d = d.id < 65536

pub record-storable : {b : List ℕ} → Readable b → All Storable (module_of b).definitions
unfolding module_of definition_at
record-storable {b} r = rows_all Storable _ (definitions b) 0 (λ k l g. omega (arith, (definition-below r k (omega arith)).0, r.next_small))

-- THE ARRAY SAYS the substitutions after the definitions
module _ (b : List ℕ) (steps : ℕ) where
  definition-says : (m : List Substitute) (d : Definition) → length m ≡ 65536 → Storable d →
      subst_of (put_definition steps m d) ≡ substituting false d.id (copy_propagate_expr steps (subst_of m) d.right) (subst_of m)
  unfolding put_definition
  definition-says m d l s = root-says m d.id (omega (arith, l)) _

  pub definitions-say : (m : List Substitute) (ds : List Definition) → length m ≡ 65536 → All Storable ds →
      subst_of (put_definitions steps m (counted_of b ds)) ≡ after_defs (provers_of b) steps (subst_of m) (used_of b ds)
  unfolding counted_of used_of those keep_if put_definitions after_defs after_def substituting
  definitions-say m [] l h = refl
  definitions-say m (d ∷ ds) l h =
      go (is_never (usage (module_of b) d.id)) (member d.id (provers_of b)) refl
      (definitions-say m ds l h.1)
      (definitions-say (put_definition steps m d) ds (definition-length steps m d ∙ l) h.1)
    where
      counts : List Definition → List Definition
      counts = those (λ v. not (member v (provers_of b)))

      first : Bool → Substitutions
      first p = subst_of (put_definitions steps m (keep_if (not p) d (counts (used_of b ds))))

      rest : Bool → Substitutions
      rest p = after_defs (provers_of b) steps (substituting p d.id (copy_propagate_expr steps (subst_of m) d.right) (subst_of m)) (used_of b ds)

      -- t: never used; p: the prover's
      go : (t p : Bool) → member d.id (provers_of b) ≡ p →
          subst_of (put_definitions steps m (counts (used_of b ds))) ≡ after_defs (provers_of b) steps (subst_of m) (used_of b ds) →
          subst_of (put_definitions steps (put_definition steps m d) (counts (used_of b ds))) ≡ after_defs (provers_of b) steps
          (subst_of (put_definition steps m d)) (used_of b ds) →
          subst_of (put_definitions steps m (counts (keep_if (not t) d (used_of b ds)))) ≡ after_defs (provers_of b) steps (subst_of m)
          (keep_if (not t) d (used_of b ds))
      go true p e f g = f
      go false true e f g = ap first e ∙ f ∙ sym (ap rest e)
      go false false e f g = ap first e ∙ g ∙ ap (λ (s : Substitutions). after_defs (provers_of b) steps s (used_of b ds)) (definition-says m d l h.0)
          ∙ sym (ap rest e)

  -- the array after one more
  pub after-says : (m : List Substitute) (d : Definition) {m1 : List Substitute} → length m ≡ 65536 → Storable d →
      m1 ≡ put_definitions steps m (counted_of b (d ∷ [])) → subst_of m1 ≡ after_defs (provers_of b) steps (subst_of m) (used_of b (d ∷ []))
  after-says m d long h q = ap subst_of q ∙ definitions-say m (d ∷ []) long (h, tt)
