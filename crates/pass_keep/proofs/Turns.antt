-- The loop over the definitions: what is left to keep from a state on is what was to be kept from the first. Assumes nothing.
use mathlib.Core.Path.{◌≡◌, refl, sym, ap, ap₂, ◌∙◌}
use mathlib.Core.List.{List, [], ◌∷◌, ◌++◌}
use mathlib.Core.Option.{none}
use Prim.Native.Nat.{ℕ, ◌+◌, ◌-◌, ◌*◌, ◌≤◌, ◌<◌}
use native.Mathlib.Omega.{arith}
use lib.ListN.{length, length-append}
use Rattle.words.specs.Words.{set_words}
use Rattle.words.proofs.Laws.{length-set_words, set_words-append}
use Rattle.flat.specs.Trees.{Definition, tree_nodes, definitions_nodes}
use Rattle.flat.specs.Layout.{definitions, nodes as count_nodes, definitions_offset, definition_entry}
use Rattle.flat.specs.Record.{module_of}
use Rattle.pass_copies.specs.declared.Substitute.{Substitute}
use Rattle.flat.specs.declared.entries.DefinitionEntry.{DefinitionEntry}
use Rattle.constraint.specs.Record.{KEPT-WORDS, definitions_words, definitions_trees}
use Rattle.constraint.proofs.Lengths.{length-definitions, length-definitions-trees, count-append, definitions-append, definitions-trees-append}
use Rattle.pass_trees.specs.Passes.{member, those, classify_defs, copy_propagate, eliminate_dead_equalities}
use Rattle.pass_trees.specs.Passes.{flatten_module_to_3ac, passes, Substitutions, copy_propagate_defs, after_defs}
use Rattle.pass_trees.proofs.Loops.{those-append, copies-append}
use Rattle.pass_classify.proofs.Whole.{used-first}
use Rattle.pass_classify.proofs.Lists.{definitions_from, definitions-none, definitions-whole, definitions-more}
use Rattle.pass_classify.specs.Readable.{tree_of}
use Rattle.pass_copies.specs.Substituted.{subst_of, put_definitions}
use Rattle.pass_copies.proofs.After.{put-none, put_first, after-says}
use Rattle.pass_classify.specs.Arrays.{provers_of, used_of, counted_of}
use Rattle.pass_keep.specs.Keeping.{Kept, kept_of, put_kept, put_nodes, kept_from, Keeps, NodeRoom, WordRoom}
use Rattle.pass_keep.proofs.Definitions.{keeps-none, kept_small}

-- ---- a list with one definition more

module _ (b : List ℕ) (steps : ℕ) where
  -- the substitutions after definitions
  abbrev after : Substitutions → List Definition → Substitutions
  after s ds = after_defs (provers_of b) steps s (used_of b ds)

  kept_cons : (s : Substitutions) (d : Definition) (ds : List Definition) →
      kept_of b steps s (d ∷ ds) ≡ kept_of b steps s (d ∷ []) ++ kept_of b steps (after s (d ∷ [])) ds
  unfolding kept_of
  kept_cons s d ds =
      ap (λ (l : List Definition). those (λ v. member v (provers_of b)) (copy_propagate_defs (provers_of b) steps s l)) (used-first b d ds)
      ∙ ap (those (λ v. member v (provers_of b))) (copies-append (provers_of b) steps (used_of b (d ∷ [])) (used_of b ds) s)
      ∙ those-append (λ v. member v (provers_of b)) (copy_propagate_defs (provers_of b) steps s (used_of b (d ∷ []))) _

-- ---- places after a first part

module _ (xs ys : List Definition) where
  put-kept-append : (body : List ℕ) (at base : ℕ)
      → put_kept body at base (xs ++ ys) ≡ put_kept (put_kept body at base xs) (at + KEPT-WORDS * length xs) (base + definitions_nodes xs) ys
  unfolding put_kept
  put-kept-append body at base =
      let e : at + length (definitions_words base xs) ≡ at + KEPT-WORDS * length xs = omega (arith, length-definitions xs base) in
      ap (set_words body at) (definitions-append xs ys base)
      ∙ set_words-append (definitions_words base xs) (definitions_words (base + definitions_nodes xs) ys) body at
      ∙ ap (λ (i : ℕ). set_words (set_words body at (definitions_words base xs)) i (definitions_words (base + definitions_nodes xs) ys)) e

  put-nodes-append : (list : List ℕ) (base : ℕ) → put_nodes list base (xs ++ ys) ≡ put_nodes (put_nodes list base xs) (base + definitions_nodes xs) ys
  unfolding put_nodes
  put-nodes-append list base =
      let e : 4 * base + length (definitions_trees base xs) ≡ 4 * (base + definitions_nodes xs) = omega (arith, length-definitions-trees xs base) in
      ap (set_words list (4 * base)) (definitions-trees-append xs ys base)
      ∙ set_words-append (definitions_trees base xs) (definitions_trees (base + definitions_nodes xs) ys) list (4 * base)
      ∙ ap (λ (i : ℕ). set_words (set_words list (4 * base) (definitions_trees base xs)) i (definitions_trees (base + definitions_nodes xs) ys)) e

  kept-from-append : (at base : ℕ) → kept_from at base (xs ++ ys) ≡ kept_from (at + KEPT-WORDS * length xs) (base + definitions_nodes xs) ys
  unfolding kept_from
  kept-from-append at base =
      let p : at + KEPT-WORDS * length (xs ++ ys) ≡ at + KEPT-WORDS * length xs + KEPT-WORDS * length ys = omega (arith, length-append xs ys) in
      let q : base + definitions_nodes (xs ++ ys) ≡ base + definitions_nodes xs + definitions_nodes ys = omega (arith, count-append xs ys) in
      ap₂ (λ (i j : ℕ). record { at = i; nodes = j }) p q

put-kept-length : (body : List ℕ) (at base : ℕ) (ds : List Definition) → length (put_kept body at base ds) ≡ length body
unfolding put_kept
put-kept-length body at base ds = length-set_words (definitions_words base ds) body at

put-nodes-length : (list : List ℕ) (base : ℕ) (ds : List Definition) → length (put_nodes list base ds) ≡ length list
unfolding put_nodes
put-nodes-length list base ds = length-set_words (definitions_trees base ds) list (4 * base)

kept-nil : (b : List ℕ) (steps : ℕ) (s : Substitutions) → kept_of b steps s [] ≡ []
unfolding kept_of used_of those copy_propagate_defs
kept-nil b steps s = refl

-- ---- the loop

module _ (b : List ℕ) (steps n at base₀ : ℕ) (m₀ : List Substitute) (body₀ list₀ : List ℕ) where
  abbrev kept : List Definition
  kept = kept_of b steps (subst_of m₀) (module_of b).definitions

  -- what is left from a state on, with room for it
  pub record Going (to base k : ℕ) (m : List Substitute) (body list : List ℕ) : Type 0 where
    pub words : put_kept body to base (kept_of b steps (subst_of m) (definitions_from b k)) ≡ put_kept body₀ at base₀ kept
    pub nodes : put_nodes list base (kept_of b steps (subst_of m) (definitions_from b k)) ≡ put_nodes list₀ base₀ kept
    pub answer : kept_from to base (kept_of b steps (subst_of m) (definitions_from b k)) ≡ kept_from at base₀ kept
    pub after : put_definitions steps m (counted_of b (definitions_from b k)) ≡ put_definitions steps m₀ (counted_of b (module_of b).definitions)
    pub body-long : length body ≡ length body₀
    pub list-long : length list ≡ length list₀
    pub word_room : WordRoom (n - k) to body
    pub node-room : NodeRoom (definitions_nodes (definitions_from b k)) base list
    pub within : k ≤ n

  pub going_start : WordRoom n at body₀ → NodeRoom (definitions_nodes (module_of b).definitions) base₀ list₀
      → Going at base₀ 0 m₀ body₀ list₀
  going_start w r =
      let e : definitions_from b 0 ≡ (module_of b).definitions = sym (definitions-whole b) in
      record {
        words = ap (λ (ds : List Definition). put_kept body₀ at base₀ (kept_of b steps (subst_of m₀) ds)) e;
        nodes = ap (λ (ds : List Definition). put_nodes list₀ base₀ (kept_of b steps (subst_of m₀) ds)) e;
        answer = ap (λ (ds : List Definition). kept_from at base₀ (kept_of b steps (subst_of m₀) ds)) e;
        after = ap (λ (ds : List Definition). put_definitions steps m₀ (counted_of b ds)) e;
        body-long = refl;
        list-long = refl;
        word_room = record { long = omega (arith, w.long) };
        node-room = rw e r;
        within = omega arith;
      }

  module _ {to base k : ℕ} {m : List Substitute} {body list : List ℕ} (g : Going to base k m body list) where
    pub going_end : n ≡ definitions b → n ≤ k → Keeps b steps (module_of b).definitions at base₀ m₀ body₀ list₀ m body list (record { at = to; nodes = base })
    going_end e l =
        let z : definitions_from b k ≡ [] = definitions-none b k (omega arith) in
        let q : kept_of b steps (subst_of m) (definitions_from b k) ≡ [] = ap (kept_of b steps (subst_of m)) z ∙ kept-nil b steps (subst_of m) in
        let f : m ≡ put_definitions steps m (counted_of b (definitions_from b k)) =
        sym (ap (λ (ds : List Definition). put_definitions steps m (counted_of b ds)) z ∙ put-none b steps m) in
        let p = keeps-none b steps (definitions_from b k) to base m body list m q f in
        record {
          body_is = p.body_is ∙ g.words;
          list-is = p.list-is ∙ g.nodes;
          answer-is = p.answer-is ∙ g.answer;
          subs-are = f ∙ g.after;
        }

    -- the definition at index k
    module _ {entry : DefinitionEntry} (count : n ≡ definitions b) (h : k < n) (read : entry ≡ definition_entry b (definitions_offset b) k)
        (inside : (entry.id < 65536) × (entry.node < count_nodes b)) where
      abbrev first : Definition
      first = record { id = entry.id; right = tree_of b entry.node; place = entry.place }

      from_is : definitions_from b k ≡ first ∷ definitions_from b (k + 1)
      from_is = definitions-more b (omega (arith, count)) read inside

      size : definitions_nodes (definitions_from b k) ≡ tree_nodes first.right + definitions_nodes (definitions_from b (k + 1))
      unfolding definitions_nodes
      size = ap definitions_nodes from_is

      pub first-room : WordRoom 1 to body × NodeRoom (tree_nodes first.right) base list
      first-room = (
        record { long = omega (arith, g.word_room.long) },
        record { long = omega (arith, size, g.node-room.long); few = omega (arith, size, g.node-room.few) },
      )

      pub going-turn : {m' : List Substitute} {body' list' : List ℕ} {a : Kept} → length m ≡ 65536
          → Keeps b steps (first ∷ []) to base m body list m' body' list' a
          → Going a.at a.nodes (k + 1) m' body' list'
      unfolding kept_from
      going-turn {m'} {body'} {list'} {a} long w =
          let says = after-says b steps m first long inside.0 w.subs-are in
          let K₁ : List Definition = kept_of b steps (subst_of m) (first ∷ []) in
          let K₂ : List Definition = kept_of b steps (subst_of m') (definitions_from b (k + 1)) in
          let both : kept_of b steps (subst_of m) (definitions_from b k) ≡ K₁ ++ K₂ = ap (kept_of b steps (subst_of m)) from_is
          ∙ kept_cons b steps (subst_of m) first (definitions_from b (k + 1))
          ∙ ap (λ (s : Substitutions). K₁ ++ kept_of b steps s (definitions_from b (k + 1))) (sym says) in
          let at-is : a.at ≡ to + KEPT-WORDS * length K₁ = ap (λ (x : Kept). x.at) w.answer-is in
          let nodes-is : a.nodes ≡ base + definitions_nodes K₁ = ap (λ (x : Kept). x.nodes) w.answer-is in
          let few = kept_small b steps (subst_of m) first in
          let bl : length body' ≡ length body = ap length w.body_is ∙ put-kept-length body to base K₁ in
          let ll : length list' ≡ length list = ap length w.list-is ∙ put-nodes-length list base K₁ in
          let pw : put_kept body' a.at a.nodes K₂ ≡ put_kept (put_kept body to base K₁) (to + KEPT-WORDS * length K₁) (base + definitions_nodes K₁) K₂ =
          rw (w.body_is, at-is, nodes-is) in
          let pn : put_nodes list' a.nodes K₂ ≡ put_nodes (put_nodes list base K₁) (base + definitions_nodes K₁) K₂ = rw (w.list-is, nodes-is) in
          let pa : kept_from a.at a.nodes K₂ ≡ kept_from (to + KEPT-WORDS * length K₁) (base + definitions_nodes K₁) K₂ =
          ap₂ (λ (i j : ℕ). kept_from i j K₂) at-is nodes-is in
          record {
            words = pw ∙ sym (ap (put_kept body to base) both ∙ put-kept-append K₁ K₂ body to base) ∙ g.words;
            nodes = pn ∙ sym (ap (put_nodes list base) both ∙ put-nodes-append K₁ K₂ list base) ∙ g.nodes;
            answer = pa ∙ sym (ap (kept_from to base) both ∙ kept-from-append K₁ K₂ to base) ∙ g.answer;
            after = ap (λ (x : List Substitute). put_definitions steps x (counted_of b (definitions_from b (k + 1)))) w.subs-are
                ∙ sym (ap (λ (ds : List Definition). put_definitions steps m (counted_of b ds)) from_is
                ∙ put_first b steps m first (definitions_from b (k + 1))) ∙ g.after;
            body-long = bl ∙ g.body-long;
            list-long = ll ∙ g.list-long;
            word_room = record { long = omega (arith, few.0, g.word_room.long) };
            node-room = record { long = omega (arith, few.1, size, g.node-room.long); few = omega (arith, few.1, size, g.node-room.few) };
            within = omega arith;
          }

-- ---- the whole record

-- with as many steps as classify_defs leaves definitions, and no substitutions at first, they are the kept definitions of the passes
pub kept_whole : (b : List ℕ) → kept_of b (length (classify_defs (module_of b)).definitions) (λ _. none) (module_of b).definitions ≡ (passes (module_of b)).kept
unfolding kept_of provers_of used_of classify_defs copy_propagate eliminate_dead_equalities flatten_module_to_3ac passes
kept_whole b = refl
