-- What the code that keeps definitions answers, by the definitions of the passes and of the constraint record.
use Rattle.std.specs.Prelude.{◌≡◌, List, ℕ, ◌+◌, ◌*◌, ◌≤◌, length}
use Rattle.words.specs.Words.{set_words}
use Rattle.flat.specs.Trees.{Flat, Definition, definitions_nodes}
use Rattle.flat.specs.Record.{module_of}
use Rattle.constraint.specs.Record.{KEPT-WORDS, nodes_from, definitions_words, definitions_trees}
use Rattle.pass_trees.specs.Passes.{member, those, Substitutions, copy_propagate_defs}
use Rattle.pass_classify.specs.Arrays.{provers_of, used_of, counted_of}
use Rattle.pass_copies.specs.declared.Substitute.{Substitute}
use Rattle.pass_copies.specs.Substituted.{subst_of, put_definitions}
use Rattle.records.specs.FlatRecord.{IDS}

-- definitions of that record, those that are used, with the substitutions made one after the other: "kept definitions are those of prover
-- variables only, uncut"
unfoldable pub kept_of : List ℕ → ℕ → Substitutions → List Definition → List Definition
kept_of b steps s ds = those (λ v. member v (provers_of b)) (copy_propagate_defs (provers_of b) steps s (used_of b ds))

-- those of the record with the bytes b, with the substitutions that an array has
abbrev pub record_kept : List ℕ → ℕ → List Substitute → List Definition
record_kept b steps subs = kept_of b steps (subst_of subs) (module_of b).definitions

-- the list with the nodes of a tree from index `base` on, "children first, left to right": four words each
unfoldable pub put_tree : List ℕ → ℕ → Flat → List ℕ
put_tree list base e = set_words list (4 * base) (nodes_from base e)

-- the body with kept definitions (id, node, place) from word `at` on, the list with their nodes from index `base` on, and the places after both
unfoldable pub put_kept : List ℕ → ℕ → ℕ → List Definition → List ℕ
put_kept body at base ds = set_words body at (definitions_words base ds)

unfoldable pub put_nodes : List ℕ → ℕ → List Definition → List ℕ
put_nodes list base ds = set_words list (4 * base) (definitions_trees base ds)

-- the word after the last kept definition, and the index after the last node
pub record Kept : Type 0 where
  pub at : ℕ
  pub nodes : ℕ

unfoldable pub kept_from : ℕ → ℕ → List Definition → Kept
kept_from at base ds = record { at = at + KEPT-WORDS * length ds; nodes = base + definitions_nodes ds }

-- what keeping definitions leaves, of substitutions, a body and a list: their later contents, and the code's answer
pub record Keeps (b : List ℕ) (steps : ℕ) (ds : List Definition) (at base : ℕ) (subs : List Substitute) (body list : List ℕ)
    (subs' : List Substitute) (body' list' : List ℕ) (r : Kept) : Type 0 where
  pub body_is : body' ≡ put_kept body at base (kept_of b steps (subst_of subs) ds)
  pub list-is : list' ≡ put_nodes list base (kept_of b steps (subst_of subs) ds)
  pub answer-is : r ≡ kept_from at base (kept_of b steps (subst_of subs) ds)
  pub subs-are : subs' ≡ put_definitions steps subs (counted_of b ds)

-- room for n nodes from index `base` on, and for so many definitions from word `at` on
pub record NodeRoom (n base : ℕ) (list : List ℕ) : Type 0 where
  pub long : 16 * (base + n) ≤ length list
  pub few : base + n ≤ IDS

pub record WordRoom (count at : ℕ) (body : List ℕ) : Type 0 where
  pub long : 4 * (at + KEPT-WORDS * count) ≤ length body
