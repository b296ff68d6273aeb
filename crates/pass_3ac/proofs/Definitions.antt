-- Definitions: one by whether it is used and whether its id is the prover's, a list by its first. Assumes nothing.
use mathlib.Core.Path.{◌≡◌, refl, sym, ap, ap₂, ◌∙◌}
use mathlib.Core.List.{List, [], ◌∷◌}
use mathlib.Core.Bool.{Bool, true, false}
use Prim.Native.Nat.{ℕ, ◌+◌}
use native.Mathlib.Omega.{arith}
use lib.ListN.{length}
use Rattle.std.specs.Prelude.{Some}
use Rattle.flat.specs.Trees.{Flat, Definition, tree_nodes, definitions_nodes}
use Rattle.flat.specs.Record.{module_of}
use Rattle.constraint.specs.declared.Term.{Term}
use Rattle.pass_trees.specs.declared.Usage.{Usage}
use Rattle.pass_trees.specs.Passes.{member, keep_if, those, is_never, usage, Substitutions, copy_propagate_def}
use Rattle.pass_trees.specs.Passes.{copy_propagate_defs, Cuts, cuts_of, joined, placed, flatten_def_to_3ac, flatten_defs}
use Rattle.pass_trees.proofs.Loops.{copies-append, defs-append}
use Rattle.pass_classify.proofs.Whole.{used-first, says-used, says-prover}
use Rattle.pass_classify.specs.Arrays.{usage_of, marked, Classified}
use Rattle.pass_copies.specs.declared.Substitute.{Substitute}
use Rattle.pass_copies.specs.Substituted.{option_of, subst_of, put_definition, put_definitions}
use Rattle.pass_copies.proofs.After.{put-none, put_first, put-unused, put-prover, put-counted, Storable, after-says}
use Rattle.pass_3ac.specs.Cutting.{Cut}
use Rattle.pass_3ac.specs.Cutting.{Place}
use Rattle.pass_classify.specs.Arrays.{provers_of, used_of, counted_of}
use Rattle.pass_3ac.specs.Cutting.{tree_cut, put_equalities, place_from, defs_cut, defs_after, DefsPut, Room}
use Rattle.pass_3ac.proofs.Trees.{cut-few, cut-ids}
use Rattle.pass_3ac.proofs.Ways.{Leaves}
use Rattle.pass_3ac.proofs.Joining.{place-next, puts_none, puts-tree, puts-join, joined-none, Few, few-none, few-join, few-less, room-puts}

-- ---- one definition

module _ (b : List ℕ) (k : ℕ) (s : Substitutions) (id : ℕ) (e : Flat) (place n : ℕ) where
  abbrev the : Definition
  the = record { id = id; right = e; place = place }

  used-not : is_never (usage (module_of b) id) ≡ true → used_of b (the ∷ []) ≡ []
  unfolding used_of those keep_if
  used-not h = rw h

  used-so : is_never (usage (module_of b) id) ≡ false → used_of b (the ∷ []) ≡ the ∷ []
  unfolding used_of those keep_if
  used-so h = rw h

  -- not used
  pub cut-unused : is_never (usage (module_of b) id) ≡ true → defs_cut b k s (the ∷ []) n ≡ record { next = n; equalities = [] }
  unfolding defs_cut copy_propagate_defs flatten_defs
  cut-unused h = rw (used-not h)

  -- the prover's
  pub cut-prover : is_never (usage (module_of b) id) ≡ false → member id (provers_of b) ≡ true
      → defs_cut b k s (the ∷ []) n ≡ record { next = n; equalities = [] }
  unfolding defs_cut copy_propagate_defs copy_propagate_def flatten_defs flatten_def_to_3ac joined
  cut-prover h p = rw (used-so h, p)

  -- counted
  pub cut-counted : is_never (usage (module_of b) id) ≡ false → member id (provers_of b) ≡ false
      → defs_cut b k s (the ∷ []) n ≡ cuts_of (tree_cut place (Some (Term.Variable id)) k s e n)
  unfolding defs_cut copy_propagate_defs copy_propagate_def flatten_defs flatten_def_to_3ac placed cuts_of tree_cut option_of
  cut-counted h p = rw (used-so h, p) (joined-none _)

  few-tree : Few (cuts_of (tree_cut place (Some (Term.Variable id)) k s e n)) (tree_nodes e) n
  unfolding cuts_of
  few-tree = record { equalities = cut-few place k s e n _; ids = cut-ids place k s e n _ }

  few-one : (u p : Bool) → is_never (usage (module_of b) id) ≡ u → member id (provers_of b) ≡ p → Few (defs_cut b k s (the ∷ []) n) (tree_nodes e) n
  few-one true p h q = rw (cut-unused h) (few-less _ (few-none n) (omega arith))
  few-one false true h q = rw (cut-prover h q) (few-less _ (few-none n) (omega arith))
  few-one false false h q = rw (cut-counted h q) few-tree

  pub few-def : Few (defs_cut b k s (the ∷ []) n) (tree_nodes e) n
  few-def = few-one _ _ refl refl

-- ---- lists

module _ (b : List ℕ) (k : ℕ) where
  pub defs-none : (s : Substitutions) (n : ℕ) → defs_cut b k s [] n ≡ record { next = n; equalities = [] }
  unfolding defs_cut used_of those copy_propagate_defs flatten_defs
  defs-none s n = refl

  pub defs-first : (s : Substitutions) (d : Definition) (ds : List Definition) (n : ℕ)
      → defs_cut b k s (d ∷ ds) n ≡ joined (defs_cut b k s (d ∷ []) n).equalities (defs_cut b k (defs_after b k s (d ∷ [])) ds (defs_cut b k s (d ∷ []) n).next)
  unfolding defs_cut defs_after
  defs-first s d ds n = rw (used-first b d ds, copies-append (provers_of b) k (used_of b (d ∷ [])) (used_of b ds) s) (defs-append (provers_of b) _ _ n)

  pub few-defs : (s : Substitutions) (ds : List Definition) (n : ℕ) → Few (defs_cut b k s ds n) (definitions_nodes ds) n
  unfolding definitions_nodes
  few-defs s [] n = rw (defs-none s n) (few-none n)
  few-defs s (d ∷ ds) n = rw (defs-first s d ds n) (few-join _ _ (few-def b k s d.id d.right d.place n) (few-defs (defs_after b k s (d ∷ [])) ds _))

-- ---- what is left of cut definitions: the body, the answer, the substitutions

-- nothing from there on
pub leave_none : (b : List ℕ) (k : ℕ) (m : List Substitute) (c : List ℕ) (at n : ℕ) → DefsPut b k [] m m c c at n (record { next = n; at = at })
leave_none b k m c at n =
    let p = puts_none c at n in (
      p.0 ∙ ap (λ (x : Cuts). put_equalities c at x.equalities) (sym (defs-none b k (subst_of m) n)),
      p.1
          ∙ ap (place_from at) (sym (defs-none b k (subst_of m) n)),
      sym (put-none b k m),
    )

-- one, and then the others
pub leave-join : (b : List ℕ) (k : ℕ) (d : Definition) (ds : List Definition) (m m1 m2 : List Substitute) (c : List ℕ) {c1 c2 : List ℕ}
    (at n : ℕ) {r1 r2 : Place} →
    length m ≡ 65536 → Storable d → DefsPut b k (d ∷ []) m m1 c c1 at n r1 → DefsPut b k ds m1 m2 c1 c2 r1.at r1.next r2 →
    DefsPut b k (d ∷ ds) m m2 c c2 at n r2
unfolding defs_after
leave-join b k d ds m m1 m2 c at n {r1 = r1} long s l1 l2 =
    let C : Cuts = defs_cut b k (subst_of m) (d ∷ []) n in
    let D : Cuts = defs_cut b k (subst_of m1) ds r1.next in
    let a : subst_of m1 ≡ defs_after b k (subst_of m) (d ∷ []) = after-says b k m d long s l1.2 in
    let w : defs_cut b k (subst_of m) (d ∷ ds) n ≡ joined C.equalities D = defs-first b k (subst_of m) d ds n
    ∙ ap₂ (λ (x : Substitutions) (y : ℕ). joined C.equalities (defs_cut b k x ds y)) (sym a) (sym (place-next at C l1.1)) in
    let p = puts-join c at C D (l1.0, l1.1) (l2.0, l2.1) in
    (rw w p.0, rw w p.1, l2.2 ∙ ap (λ (x : List Substitute). put_definitions k x (counted_of b ds)) l1.2 ∙ sym (put_first b k m d ds))

-- the room that they leave
pub room-defs : (b : List ℕ) (k : ℕ) (ds : List Definition) (m m' : List Substitute) {c c' : List ℕ} {at n : ℕ} {r : Place} (p : ℕ) →
    DefsPut b k ds m m' c c' at n r → Room (definitions_nodes ds + p) at n c → Room p r.at r.next c'
room-defs b k ds m m' {n = n} p l h = room-puts (defs_cut b k (subst_of m) ds n) (definitions_nodes ds) p (few-defs b k (subst_of m) ds n) (l.0, l.1) h

-- ---- the ways through one definition

module _ {b : List ℕ} {us : List Usage} {ps : List Bool} (c : Classified b us ps) (k : ℕ) (m : List Substitute) (body : List ℕ)
    (at n id : ℕ) (e : Flat) (place : ℕ) where
  abbrev Leaving : List Substitute → List ℕ → Place → Type 0
  Leaving m' body' r = DefsPut b k (record { id = id; right = e; place = place } ∷ []) m m' body body' at n r

  skipped : defs_cut b k (subst_of m) (record { id = id; right = e; place = place } ∷ []) n ≡ record { next = n; equalities = [] } →
      m ≡ put_definitions k m (counted_of b (record { id = id; right = e; place = place } ∷ [])) → Leaving m body (record { next = n; at = at })
  skipped q a = let p = puts_none body at n in (rw q p.0, rw q p.1, a)

  pub way-unused : is_never (usage_of us id) ≡ true → Leaving m body (record { next = n; at = at })
  way-unused h =
      let u = says-used c id h in
      skipped (cut-unused b k (subst_of m) id e place n u) (put-unused b k m (record { id = id; right = e; place = place }) u)

  pub way-prover : is_never (usage_of us id) ≡ false → marked ps id ≡ true → Leaving m body (record { next = n; at = at })
  way-prover h g =
      let u = says-used c id h in
      let p = says-prover c id g in
      skipped (cut-prover b k (subst_of m) id e place n u p) (put-prover b k m (record { id = id; right = e; place = place }) u p)

  pub way-counted : (m' : List Substitute) {body' : List ℕ} {r : Cut} → is_never (usage_of us id) ≡ false → marked ps id ≡ false →
      Leaves body body' at (tree_cut place (Some (Term.Variable id)) k (subst_of m) e n) r →
      m' ≡ put_definition k m (record { id = id; right = e; place = place }) →
      Leaving m' body' r.place
  way-counted m' h g l a =
      let u = says-used c id h in
      let p = says-prover c id g in
      let w = puts-tree body at (tree_cut place (Some (Term.Variable id)) k (subst_of m) e n) l in
      let q = cut-counted b k (subst_of m) id e place n u p in
      (rw q w.0, rw q w.1, a ∙ put-counted b k m (record { id = id; right = e; place = place }) u p)
