-- The body and the nodes of a constraint record, made piece by piece: what the pieces are by the definition of the passes, and that they fit.
-- Assumes nothing.
use Prim.Native.Nat.{ℕ, zero, suc, ◌+◌, ◌*◌, ◌≤◌}
use mathlib.Core.Path.{◌≡◌, refl, sym, ap, ap₂, ◌∙◌}
use mathlib.Core.List.{List, [], ◌∷◌, ◌++◌, append_assoc}
use mathlib.Core.Bool.{Bool, true, false, not}
use mathlib.Core.Option.{none}
use native.Mathlib.Omega.{arith}
use lib.ListN.{length, length-append}
use Rattle.words.specs.Words.{set_words}
use Rattle.words.proofs.Laws.{set_words-append, length-set_words}
use Rattle.flat.specs.Trees.{Definition, tree_nodes, definitions_nodes, equations_nodes, module_nodes}
use Rattle.flat.specs.Layout.{public_at, next, publics, definitions}
use Rattle.flat.specs.Layout.{publics as count_publics}
use Rattle.flat.specs.Record.{rows, module_of}
use Rattle.flat.specs.Readable.{Readable}
use Rattle.records.specs.FlatRecord.{IDS, NODES, PUBLICS}
use Rattle.flat.proofs.Rows.{length-rows}
use Rattle.constraint.specs.Trees.{ConstraintModule}
use Rattle.constraint.specs.Record.{EQUALITY-WORDS, KEPT-WORDS, equalities_words, definitions_words, definitions_trees}
use Rattle.constraint.proofs.Lengths.{length-equalities, equalities-append}
use Rattle.pass_trees.specs.Passes.{keep_if, ids_from, member, those, is_never, usage, classify_defs, counted, Substitutions, copy_propagate_def, after_def}
use Rattle.pass_trees.specs.Passes.{copy_propagate_defs, copy_propagate, eliminate_dead_equalities, Cuts, joined, flatten_lists, flatten_module_to_3ac, passes}
use Rattle.pass_classify.specs.Arrays.{marked, Classified, provers_of, used_of, counted_of}
use Rattle.pass_classify.proofs.Whole.{classified-provers}
use Rattle.pass_3ac.specs.Cutting.{Place}
use Rattle.pass_3ac.specs.Cutting.{put_equalities, after, place_from, defs_cut, defs_after, equations_cut, Room}
use Rattle.pass_3ac.proofs.Joining.{Puts, Few, place_at, place-next}
use Rattle.pass_3ac.proofs.Definitions.{few-defs}
use Rattle.pass_3ac.proofs.Equations.{few-equations}
use Rattle.pass_3ac.proofs.Trees.{copied-nodes}
use Rattle.pass_copies.specs.declared.Substitute.{Substitute}
use Rattle.pass_trees.specs.declared.Usage.{Usage}
use Rattle.pass_copies.specs.Substituted.{subst_of, no_substitutions, put_definitions}
use Rattle.pass_copies.proofs.Stored.{none_is, none-length}
use Rattle.pass_copies.proofs.After.{record-storable, definitions-say}
use Rattle.pass_keep.specs.Keeping.{Kept, kept_of, put_kept, put_nodes, kept_from, NodeRoom, WordRoom}
use Rattle.pass_entry.specs.Sizes.{BODY-BYTES, LIST-BYTES}
use Rattle.pass_entry.specs.Body.{body_words, Numbers, put_body, put_list}

-- ---- the passes by their parts

module _ (b : List ℕ) (k : ℕ) where
  abbrev pub none_yet : Substitutions
  none_yet = λ _. none

  abbrev pub cut_definitions : Cuts
  cut_definitions = defs_cut b k none_yet (module_of b).definitions (module_of b).next

  abbrev pub cut_equations : Cuts
  cut_equations = equations_cut k (defs_after b k none_yet (module_of b).definitions) (module_of b).equations cut_definitions.next

  abbrev pub kept_definitions : List Definition
  kept_definitions = kept_of b k none_yet (module_of b).definitions

  abbrev pub parts : ConstraintModule
  parts = record {
    next = cut_equations.next;
    publics = (module_of b).publics;
    provers = provers_of b;
    equalities = cut_definitions.equalities ++ cut_equations.equalities;
    kept = kept_definitions;
  }

  pub by_parts : k ≡ length (classify_defs (module_of b)).definitions → passes (module_of b) ≡ parts
  unfolding passes flatten_module_to_3ac eliminate_dead_equalities copy_propagate classify_defs flatten_lists joined defs_cut defs_after
      equations_cut provers_of used_of kept_of
  by_parts e = rw e

-- ---- one list behind another

behind : (xs ys d : List ℕ) (i j : ℕ) {d1 d2 : List ℕ} → d1 ≡ set_words d i xs → j ≡ i + length xs → d2 ≡ set_words d1 j ys → d2 ≡ set_words d i (xs ++ ys)
behind xs ys d i j e f g = g ∙ ap₂ (λ (x : List ℕ) (y : ℕ). set_words x y ys) e f ∙ sym (set_words-append xs ys d i)

kept-few : {A : Type 0} (c : Bool) (a : A) (l : List A) {n : ℕ} → length l ≤ n → length (keep_if c a l) ≤ suc n
unfolding keep_if
kept-few true a l h = omega arith
kept-few false a l h = omega arith

pub ids-few : (t : ℕ → Bool) (a n : ℕ) → length (ids_from t a n) ≤ n
unfolding ids_from
ids-few t a zero = omega arith
ids-few t a (suc n) = kept-few (t a) a (ids_from t (suc a) n) (ids-few t (suc a) n)

-- ---- the pieces, in the order of the code

-- what was written before the equalities
pub record Lists (b : List ℕ) (provers : List Bool) (body body2 : List ℕ) (start : ℕ) : Type 0 where
  pub written : body2 ≡ set_words body 0 ((module_of b).publics ++ ids_from (marked provers) 0 (next b))
  pub place : start ≡ publics b + length (ids_from (marked provers) 0 (next b))

pub lists-made : (b : List ℕ) (provers : List Bool) (body : List ℕ) {body1 body2 : List ℕ} {n start : ℕ} → n ≡ publics b →
    body1 ≡ set_words body 0 (module_of b).publics →
    (body2 ≡ set_words body1 n (ids_from (marked provers) 0 (next b))) × (start ≡ n + length (ids_from (marked provers) 0 (next b))) →
    Lists b provers body body2 start
unfolding module_of
lists-made b provers body {body1 = body1} e g h =
    record {
      written =
          behind (rows (publics b) 0 (public_at b)) (ids_from (marked provers) 0 (next b)) body 0 (publics b) g
          (omega (arith, length-rows (public_at b) (publics b) 0))
          (h.0 ∙ ap (λ (x : ℕ). set_words body1 x (ids_from (marked provers) 0 (next b))) e);
      place = h.1 ∙ ap (λ (x : ℕ). x + length (ids_from (marked provers) 0 (next b))) e;
    }

-- ---- kept definitions are no more, and have no more nodes, than the record's

pub those-nodes : (t : ℕ → Bool) (ds : List Definition) → definitions_nodes (those t ds) ≤ definitions_nodes ds
unfolding those keep_if definitions_nodes
those-nodes t [] = omega arith
those-nodes t (d ∷ ds) = go (t d.id) (those-nodes t ds)
  where
    go : (c : Bool) → definitions_nodes (those t ds) ≤ definitions_nodes ds
        → definitions_nodes (keep_if c d (those t ds)) ≤ tree_nodes d.right + definitions_nodes ds
    go true h = omega arith
    go false h = omega arith

those-few : (t : ℕ → Bool) (ds : List Definition) → length (those t ds) ≤ length ds
unfolding those
those-few t [] = omega arith
those-few t (d ∷ ds) = kept-few (t d.id) d (those t ds) (those-few t ds)

copies-nodes : (ps : List ℕ) (k : ℕ) (s : Substitutions) (ds : List Definition) → definitions_nodes (copy_propagate_defs ps k s ds) ≡ definitions_nodes ds
unfolding copy_propagate_defs copy_propagate_def definitions_nodes
copies-nodes ps k s [] = refl
copies-nodes ps k s (d ∷ ds) = omega (arith, copied-nodes k s d.right, copies-nodes ps k (after_def ps k s d) ds)

copies-long : (ps : List ℕ) (k : ℕ) (s : Substitutions) (ds : List Definition) → length (copy_propagate_defs ps k s ds) ≡ length ds
unfolding copy_propagate_defs
copies-long ps k s [] = refl
copies-long ps k s (d ∷ ds) = ap suc (copies-long ps k (after_def ps k s d) ds)

module _ (b : List ℕ) (k : ℕ) where
  pub kept-nodes-few : definitions_nodes (kept_definitions b k) ≤ definitions_nodes (module_of b).definitions
  unfolding kept_of used_of
  kept-nodes-few =
      let u = used_of b (module_of b).definitions in
      omega (
        arith,
        those-nodes (λ v. member v (provers_of b)) (copy_propagate_defs (provers_of b) k (none_yet b k) u),
        copies-nodes (provers_of b) k (none_yet b k) u,
        those-nodes (λ v. not (is_never (usage (module_of b) v))) (module_of b).definitions,
      )

  pub kept-count-few : length (kept_definitions b k) ≤ length (module_of b).definitions
  unfolding kept_of used_of
  kept-count-few =
      let u = used_of b (module_of b).definitions in
      omega (
        arith,
        those-few (λ v. member v (provers_of b)) (copy_propagate_defs (provers_of b) k (none_yet b k) u),
        copies-long (provers_of b) k (none_yet b k) u,
        those-few (λ v. not (is_never (usage (module_of b) v))) (module_of b).definitions,
      )

pub definitions-count : (b : List ℕ) → length (module_of b).definitions ≡ definitions b
unfolding module_of
definitions-count b = length-rows _ (definitions b) 0

-- what flatten_defs leaves, in the order of its promises
abbrev pub DefsLeave : List ℕ → ℕ → List Substitute → List Substitute → List ℕ → List ℕ → ℕ → ℕ → Place → Type 0
DefsLeave b k m m' c c' at n r =
    (c' ≡ put_equalities c at (defs_cut b k (subst_of m) (module_of b).definitions n).equalities)
    × ((r ≡ place_from at (defs_cut b k (subst_of m) (module_of b).definitions n)) × (m' ≡ put_definitions k m (counted (module_of b))))

-- what keep_defs leaves of the body, of the list and as its answer
abbrev pub KeptLeave : List ℕ → ℕ → ℕ → List Substitute → List Substitute → List ℕ → List ℕ → List ℕ → List ℕ → Kept → Type 0
KeptLeave b k at m m' body body' list list' o =
    (body' ≡ put_kept body at 0 (kept_of b k (subst_of m) (module_of b).definitions))
    × ((list' ≡ put_nodes list 0 (kept_of b k (subst_of m) (module_of b).definitions))
    × ((o ≡ kept_from at 0 (kept_of b k (subst_of m) (module_of b).definitions)) × (m' ≡ put_definitions k m (counted (module_of b)))))

-- ---- the rooms that the calls ask for

module _ {b : List ℕ} {us : List Usage} {ps : List Bool} (r : Readable b) (c : Classified b us ps) (few : module_nodes (module_of b) ≤ 16384)
    {body body2 : List ℕ} (long : length body ≡ BODY-BYTES) {start : ℕ} (l : Lists b ps body body2 start) (k : ℕ) where
  first-long : length body2 ≡ BODY-BYTES
  first-long = ap length l.written ∙ length-set_words ((module_of b).publics ++ ids_from (marked ps) 0 (next b)) body 0 ∙ long

  start_small : start ≤ PUBLICS + IDS
  start_small = omega (arith, l.place, ids-few (marked ps) 0 (next b), r.publics-few, r.next_small)

  nodes-few : definitions_nodes (module_of b).definitions + equations_nodes (module_of b).equations ≤ 16384
  unfolding module_nodes
  nodes-few = few

  pub room-definitions : (n : ℕ) → n ≡ next b → Room (definitions_nodes (module_of b).definitions) start n body2
  room-definitions n e = record { words = omega (arith, first-long, start_small, nodes-few); ids = omega (arith, nodes-few, r.next_small) }

  -- after the definitions, which left the body body3 and the place p
  module _ (n : ℕ) (en : n ≡ next b) (m0 m1 : List Substitute) (z : m0 ≡ no_substitutions) (body3 : List ℕ) (p : Place)
      (d : DefsLeave b k m0 m1 body2 body3 start n p) where
    none-say : subst_of m0 ≡ none_yet b k
    none-say = ap subst_of z ∙ none_is

    -- with the first id and no substitutions
    definitions-are : defs_cut b k (subst_of m0) (module_of b).definitions n ≡ cut_definitions b k
    unfolding module_of
    definitions-are = ap₂ (λ (x : Substitutions) (y : ℕ). defs_cut b k x (module_of b).definitions y) none-say en

    first-words : length m0 ≡ 65536
    first-words = ap length z ∙ none-length

    substitutions-are : subst_of m1 ≡ defs_after b k (none_yet b k) (module_of b).definitions
    unfolding defs_after counted counted_of used_of provers_of classify_defs
    substitutions-are =
        ap subst_of d.1.1
        ∙ definitions-say b k m0 (module_of b).definitions first-words (record-storable r)
        ∙ ap (λ (x : Substitutions). defs_after b k x (module_of b).definitions) none-say

    second-written : body3 ≡ set_words body2 start (equalities_words (cut_definitions b k).equalities)
    unfolding put_equalities
    second-written = d.0 ∙ ap (λ (x : Cuts). set_words body2 start (equalities_words x.equalities)) definitions-are

    second-place : p.at ≡ start + EQUALITY-WORDS * length (cut_definitions b k).equalities
    unfolding after
    second-place = place_at start _ d.1.0 ∙ ap (λ (x : Cuts). start + EQUALITY-WORDS * length x.equalities) definitions-are

    second-next : p.next ≡ (cut_definitions b k).next
    second-next = place-next start _ d.1.0 ∙ ap (λ (x : Cuts). x.next) definitions-are

    second-few : Few (cut_definitions b k) (definitions_nodes (module_of b).definitions) (next b)
    unfolding module_of
    second-few = few-defs b k (none_yet b k) (module_of b).definitions (next b)

    second-long : length body3 ≡ BODY-BYTES
    second-long = ap length second-written ∙ length-set_words (equalities_words (cut_definitions b k).equalities) body2 start ∙ first-long

    pub room-of-equations : Room (equations_nodes (module_of b).equations) p.at p.next body3
    room-of-equations =
        record {
          words = omega (arith, second-long, second-place, second-few.equalities, start_small, nodes-few);
          ids = omega (arith, second-next, second-few.ids, nodes-few, r.next_small);
        }

    -- after the equations
    module _ (body4 : List ℕ) (q : Place) (e : Puts body3 body4 p.at (equations_cut k (subst_of m1) (module_of b).equations p.next) q) where
      equations-are : equations_cut k (subst_of m1) (module_of b).equations p.next ≡ cut_equations b k
      equations-are = ap₂ (λ (x : Substitutions) (y : ℕ). equations_cut k x (module_of b).equations y) substitutions-are second-next

      third-written : body4 ≡ set_words body3 p.at (equalities_words (cut_equations b k).equalities)
      unfolding put_equalities
      third-written = e.0 ∙ ap (λ (x : Cuts). set_words body3 p.at (equalities_words x.equalities)) equations-are

      third-place : q.at ≡ p.at + EQUALITY-WORDS * length (cut_equations b k).equalities
      unfolding after
      third-place = place_at p.at _ e.1 ∙ ap (λ (x : Cuts). p.at + EQUALITY-WORDS * length x.equalities) equations-are

      third-next : q.next ≡ (cut_equations b k).next
      third-next = place-next p.at _ e.1 ∙ ap (λ (x : Cuts). x.next) equations-are

      third-few : Few (cut_equations b k) (equations_nodes (module_of b).equations) (cut_definitions b k).next
      third-few = few-equations k (defs_after b k (none_yet b k) (module_of b).definitions) (module_of b).equations (cut_definitions b k).next

      third-long : length body4 ≡ BODY-BYTES
      third-long = ap length third-written ∙ length-set_words (equalities_words (cut_equations b k).equalities) body3 p.at ∙ second-long

      third-small : q.at ≤ PUBLICS + IDS + EQUALITY-WORDS * NODES
      third-small = omega (arith, third-place, second-place, second-few.equalities, third-few.equalities, start_small, nodes-few)

      pub room-of-kept : WordRoom (definitions b) q.at body4
      room-of-kept = record { long = omega (arith, third-long, third-small, r.definitions-few) }

      pub room-of-nodes : {list : List ℕ} → length list ≡ LIST-BYTES → NodeRoom (definitions_nodes (module_of b).definitions) 0 list
      room-of-nodes g = record { long = omega (arith, nodes-few); few = omega (arith, nodes-few) }

      -- after the kept definitions, worked out again from no substitutions
      module _ (body5 list list1 : List ℕ) (m2 m3 : List Substitute) (y : m2 ≡ no_substitutions) (o : Kept)
          (w : KeptLeave b k q.at m2 m3 body4 body5 list list1 o) where
        kept-are : kept_of b k (subst_of m2) (module_of b).definitions ≡ kept_definitions b k
        kept-are = ap (λ (x : Substitutions). kept_of b k x (module_of b).definitions) (ap subst_of y ∙ none_is)

        fourth-written : body5 ≡ set_words body4 q.at (definitions_words 0 (kept_definitions b k))
        unfolding put_kept
        fourth-written = w.0 ∙ ap (λ (x : List Definition). set_words body4 q.at (definitions_words 0 x)) kept-are

        list_written : list1 ≡ set_words list 0 (definitions_trees 0 (kept_definitions b k))
        unfolding put_nodes
        list_written = w.1.0 ∙ ap (λ (x : List Definition). set_words list 0 (definitions_trees 0 x)) kept-are

        fourth-place : o.at ≡ q.at + KEPT-WORDS * length (kept_definitions b k)
        unfolding kept_from
        fourth-place = ap (λ (x : Kept). x.at) w.1.1.0 ∙ ap (λ (x : List Definition). q.at + KEPT-WORDS * length x) kept-are

        list-place : o.nodes ≡ definitions_nodes (kept_definitions b k)
        unfolding kept_from
        list-place = omega (arith, ap (λ (x : Kept). x.nodes) w.1.1.0 ∙ ap (λ (x : List Definition). 0 + definitions_nodes x) kept-are)

        provers-are : provers_of b ≡ ids_from (marked ps) 0 (next b)
        unfolding provers_of
        provers-are = classified-provers c

        publics-long : length (module_of b).publics ≡ publics b
        unfolding module_of
        publics-long = length-rows (public_at b) (publics b) 0

        lists-written : body2 ≡ set_words body 0 ((module_of b).publics ++ provers_of b)
        lists-written = l.written ∙ ap (λ (x : List ℕ). set_words body 0 ((module_of b).publics ++ x)) (sym provers-are)

        start_is : start ≡ length (module_of b).publics + length (provers_of b)
        start_is = omega (arith, l.place, publics-long, ap length provers-are)

        body-written : body5 ≡ set_words body 0 (body_words (parts b k))
        unfolding body_words
        body-written =
            let P : List ℕ = (module_of b).publics in
            let Q : List ℕ = provers_of b in
            let E : List ℕ = equalities_words (cut_definitions b k).equalities in
            let F : List ℕ = equalities_words (cut_equations b k).equalities in
            let K : List ℕ = definitions_words 0 (kept_definitions b k) in
            let s1 = behind (P ++ Q) E body 0 start lists-written (omega (arith, start_is, length-append P Q)) second-written in
            let s2 = behind ((P ++ Q) ++ E) F body 0 p.at s1 (omega
            (arith, second-place, start_is, length-append P Q, length-append (P ++ Q) E, length-equalities (cut_definitions b k).equalities)) third-written in
            let s3 = behind (((P ++ Q) ++ E) ++ F) K body 0 q.at s2 (omega (
              arith,
              third-place,
              second-place,
              start_is,
              length-append P Q,
              length-append (P ++ Q) E,
              length-append ((P ++ Q) ++ E) F,
              length-equalities (cut_definitions b k).equalities,
              length-equalities (cut_equations b k).equalities,
            )) fourth-written in
            let z1 : (((P ++ Q) ++ E) ++ F) ++ K ≡ P ++ (Q ++ ((E ++ F) ++ K)) = simp append_assoc in
            s3 ∙ ap (set_words body 0)
            (z1 ∙ ap (λ (x : List ℕ). P ++ (Q ++ (x ++ K))) (sym (equalities-append (cut_definitions b k).equalities (cut_equations b k).equalities)))

        both_long : length ((cut_definitions b k).equalities ++ (cut_equations b k).equalities)
            ≡ length (cut_definitions b k).equalities + length (cut_equations b k).equalities
        both_long = length-append (cut_definitions b k).equalities (cut_equations b k).equalities

        -- THE RECORD IS BUILT: the numbers, the body and the list
        pub numbers : (publics : ℕ) → publics ≡ count_publics b → Numbers (parts b k) q.next publics start q.at o.at o.nodes
        numbers publics e = record {
          next-is = third-next;
          publics-is = e ∙ sym publics-long;
          start_is = start_is;
          equalities-is = omega (arith, third-place, second-place, both_long);
          kept-is = fourth-place;
          nodes-is = list-place;
        }

        pub built : (body5 ≡ put_body body (parts b k)) × (list1 ≡ put_list list (parts b k))
        unfolding put_body put_list
        built = (body-written, list_written)
