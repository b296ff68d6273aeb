-- One definition: it is not used, or its id is not the prover's, or it is kept. Assumes nothing.
use mathlib.Core.Path.{◌≡◌, refl, sym, ap, ap₂, ◌∙◌}
use mathlib.Core.List.{List, [], ◌∷◌, ◌++◌, append-nil}
use mathlib.Core.Bool.{Bool, true, false}
use Prim.Native.Nat.{ℕ, ◌+◌, ◌*◌, ◌≤◌}
use native.Mathlib.Omega.{arith}
use lib.ListN.{length}
use Rattle.words.specs.Words.{set_words}
use Rattle.flat.specs.Trees.{Flat, Definition, tree_nodes, definitions_nodes}
use Rattle.flat.specs.Record.{module_of}
use Rattle.constraint.specs.Record.{KEPT-WORDS, root_from, next_from, definition_words, definitions_words, definitions_trees, nodes_from}
use Rattle.pass_trees.specs.Passes.{member, keep_if, those, is_never, usage, Substitutions, copy_propagate_expr, copy_propagate_def, copy_propagate_defs}
use Rattle.pass_classify.proofs.Whole.{says-used, says-prover}
use Rattle.pass_copies.specs.declared.Substitute.{Substitute}
use Rattle.pass_trees.specs.declared.Usage.{Usage}
use Rattle.pass_classify.specs.Arrays.{usage_of, marked, Classified}
use Rattle.pass_copies.specs.Substituted.{subst_of, put_definition, put_definitions}
use Rattle.pass_copies.proofs.After.{put-unused, put-prover, put-counted}
use Rattle.pass_classify.specs.Arrays.{provers_of, used_of, counted_of}
use Rattle.pass_keep.specs.Keeping.{Kept, kept_of, put_tree, put_kept, put_nodes, kept_from, Keeps}
use Rattle.pass_keep.proofs.Nodes.{copied-nodes}

-- what is kept of it
module _ (b : List ℕ) (steps : ℕ) (s : Substitutions) (d : Definition) where
  used-none : is_never (usage (module_of b) d.id) ≡ true → used_of b (d ∷ []) ≡ []
  unfolding used_of those keep_if
  used-none e = rw e

  used-one : is_never (usage (module_of b) d.id) ≡ false → used_of b (d ∷ []) ≡ d ∷ []
  unfolding used_of those keep_if
  used-one e = rw e

  unused-kept : is_never (usage (module_of b) d.id) ≡ true → kept_of b steps s (d ∷ []) ≡ []
  unfolding kept_of copy_propagate_defs those
  unused-kept e = ap (λ (ds : List Definition). those (λ v. member v (provers_of b)) (copy_propagate_defs (provers_of b) steps s ds)) (used-none e)

  module _ (e : is_never (usage (module_of b) d.id) ≡ false) where
    kept-is : kept_of b steps s (d ∷ []) ≡ keep_if (member d.id (provers_of b)) (copy_propagate_def steps s d) []
    unfolding kept_of copy_propagate_defs copy_propagate_def those
    kept-is = ap (λ (ds : List Definition). those (λ v. member v (provers_of b)) (copy_propagate_defs (provers_of b) steps s ds)) (used-one e)

    other-kept : member d.id (provers_of b) ≡ false → kept_of b steps s (d ∷ []) ≡ []
    unfolding keep_if
    other-kept m = kept-is ∙ rw m

    prover-kept : member d.id (provers_of b) ≡ true → kept_of b steps s (d ∷ []) ≡ copy_propagate_def steps s d ∷ []
    unfolding keep_if
    prover-kept m = kept-is ∙ rw m

  -- at most one, with as many nodes as its right side
  small : (t : Bool)
      → (length (keep_if t (copy_propagate_def steps s d) []) ≤ 1) × (definitions_nodes (keep_if t (copy_propagate_def steps s d) []) ≤ tree_nodes d.right)
  unfolding keep_if definitions_nodes copy_propagate_def
  small true = (omega arith, omega (arith, copied-nodes steps s d.right))
  small false = (omega arith, omega arith)

  pub kept_small : (length (kept_of b steps s (d ∷ [])) ≤ 1) × (definitions_nodes (kept_of b steps s (d ∷ [])) ≤ tree_nodes d.right)
  unfolding definitions_nodes
  kept_small = go (is_never (usage (module_of b) d.id)) refl
    where
      go : (t : Bool) → is_never (usage (module_of b) d.id) ≡ t
          → (length (kept_of b steps s (d ∷ [])) ≤ 1) × (definitions_nodes (kept_of b steps s (d ∷ [])) ≤ tree_nodes d.right)
      go true e = rw (unused-kept e) (omega arith, omega arith)
      go false e = rw (kept-is e) (small (member d.id (provers_of b)))

-- ---- the ways through keep_def

after_plus : (base : ℕ) (e : Flat) (after : ℕ) → after ≡ next_from base e → after ≡ base + (tree_nodes e + 0)
unfolding next_from root_from
after_plus base e after q = omega arith

module _ (b : List ℕ) (steps : ℕ) (ds : List Definition) (at base : ℕ) (m : List Substitute) (body list : List ℕ) where
  -- nothing is kept
  pub keeps-none : (m' : List Substitute) → kept_of b steps (subst_of m) ds ≡ [] → m' ≡ put_definitions steps m (counted_of b ds) →
      Keeps b steps ds at base m body list m' body list (record { at = at; nodes = base })
  unfolding put_kept put_nodes kept_from definitions_words definitions_trees definitions_nodes set_words
  keeps-none m' e f =
      let p : at ≡ at + KEPT-WORDS * 0 = omega arith in
      let q : base ≡ base + 0 = omega arith in
      record {
        body_is = sym (ap (put_kept body at base) e);
        list-is = sym (ap (put_nodes list base) e);
        answer-is = ap₂ (λ (x y : ℕ). record { at = x; nodes = y }) p q ∙ sym (ap (kept_from at base) e);
        subs-are = f;
      }

  -- one definition is kept
  pub keeps-one : (m' : List Substitute) {body' list' : List ℕ} {root after : ℕ} (d : Definition) → kept_of b steps (subst_of m) ds ≡ d ∷ [] →
      list' ≡ put_tree list base d.right → root ≡ root_from base d.right → after ≡ next_from base d.right →
      body' ≡ set_words body at (definition_words d.id root d.place) →
      m' ≡ put_definitions steps m (counted_of b ds) → Keeps b steps ds at base m body list m' body' list' (record { at = at + KEPT-WORDS; nodes = after })
  unfolding put_kept put_nodes put_tree kept_from definitions_words definitions_trees definitions_nodes next_from root_from
  keeps-one m' {root = root} {after = after} d e p x q r f =
      let one : ℕ → List ℕ = λ n. definition_words d.id n d.place in
      let w : one root ≡ one (root_from base d.right) ++ [] = ap one x ∙ sym (append-nil (one (root_from base d.right))) in
      let n : nodes_from base d.right ≡ nodes_from base d.right ++ [] = sym (append-nil (nodes_from base d.right)) in
      let y : at + KEPT-WORDS ≡ at + KEPT-WORDS * 1 = omega arith in
      let z : after ≡ base + (tree_nodes d.right + 0) = after_plus base d.right after q in
      record {
        body_is = r ∙ ap (set_words body at) w ∙ sym (ap (put_kept body at base) e);
        list-is = p ∙ ap (set_words list (4 * base)) n ∙ sym (ap (put_nodes list base) e);
        answer-is = ap₂ (λ (i j : ℕ). record { at = i; nodes = j }) y z ∙ sym (ap (kept_from at base) e);
        subs-are = f;
      }

module _ {b : List ℕ} {u : List Usage} {p : List Bool} (c : Classified b u p) (steps id : ℕ) (right : Flat) (place at base : ℕ) (m : List Substitute)
    (body list : List ℕ) where
  abbrev definition : Definition
  definition = record { id = id; right = right; place = place }

  abbrev Way : List Substitute → List ℕ → List ℕ → Kept → Type 0
  Way = Keeps b steps (definition ∷ []) at base m body list

  pub way-unused : is_never (usage_of u id) ≡ true → Way m body list (record { at = at; nodes = base })
  way-unused e =
      let n = says-used c id e in
      keeps-none b steps (definition ∷ []) at base m body list m (unused-kept b steps (subst_of m) definition n) (put-unused b steps m definition n)

  module _ (e : is_never (usage_of u id) ≡ false) where
    pub way-other : (m' : List Substitute) → marked p id ≡ false → m' ≡ put_definition steps m definition →
        Way m' body list (record { at = at; nodes = base })
    way-other m' f w =
        let n = says-used c id e in
        let o = says-prover c id f in
        keeps-none b steps (definition ∷ []) at base m body list m' (other-kept b steps (subst_of m) definition n o) (w ∙ put-counted b steps m definition n o)

    pub way-kept : {body' list' : List ℕ} {root after : ℕ} → marked p id ≡ true → list' ≡ put_tree list base (copy_propagate_expr steps (subst_of m) right) →
        root ≡ root_from base (copy_propagate_expr steps (subst_of m) right) → after ≡ next_from base (copy_propagate_expr steps (subst_of m) right) →
        body' ≡ set_words body at (definition_words id root place) → Way m body' list' (record { at = at + KEPT-WORDS; nodes = after })
    unfolding copy_propagate_def
    way-kept f x r y z =
        let n = says-used c id e in
        let o = says-prover c id f in
        keeps-one b steps (definition ∷ []) at base m body list m (copy_propagate_def steps (subst_of m) definition)
        (prover-kept b steps (subst_of m) definition n o) x r y z (put-prover b steps m definition n o)
