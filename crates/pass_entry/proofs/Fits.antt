-- The record that was built: it fits in the two lists, and stands at their front. Assumes nothing.
use Prim.Native.Nat.{ℕ, ◌+◌, ◌*◌, ◌≤◌}
use mathlib.Core.Path.{◌≡◌, refl, sym, ap, ◌∙◌}
use mathlib.Core.List.{List}
use native.Mathlib.Omega.{arith}
use lib.ListN.{length, take, drop, length-append}
use lib.Seq.{take_at}
use Rattle.words.specs.Words.{set_words, bytes_of}
use Rattle.words.proofs.Laws.{set_words-bytes, length-bytes_of}
use Rattle.flat.specs.Trees.{definitions_nodes, equations_nodes, module_nodes}
use Rattle.flat.specs.Layout.{next, publics}
use Rattle.flat.specs.Record.{module_of}
use Rattle.flat.specs.Readable.{Readable}
use Rattle.flat.proofs.Rows.{length-rows}
use Rattle.constraint.specs.Trees.{ConstraintModule}
use Rattle.constraint.specs.Record.{EQUALITY-WORDS, KEPT-WORDS, definitions_trees}
use Rattle.constraint.proofs.Lengths.{length-equalities, length-definitions, length-definitions-trees}
use Rattle.pass_trees.specs.Passes.{classify_defs, passes}
use Rattle.pass_classify.specs.Arrays.{provers_of}
use Rattle.pass_3ac.specs.Cutting.{defs_after}
use Rattle.pass_3ac.proofs.Joining.{Few}
use Rattle.pass_3ac.proofs.Definitions.{few-defs}
use Rattle.pass_3ac.proofs.Equations.{few-equations}
use Rattle.pass_entry.specs.declared.built.Built.{Built}
use Rattle.pass_entry.specs.Sizes.{BODY-WORDS, BODY-BYTES, LIST-BYTES, Ordered, Bounded}
use Rattle.pass_entry.specs.Body.{body_words, Numbers, BuiltOf, put_body, put_list, Made}
use Rattle.pass_entry.proofs.Building.{none_yet, cut_definitions, cut_equations, parts, by_parts}
use Rattle.pass_entry.proofs.Building.{ids-few, kept-nodes-few, kept-count-few, definitions-count}

-- words from the front on, as bytes
taken : (ws d : List ℕ) {d1 : List ℕ} (n : ℕ) → d1 ≡ set_words d 0 ws → n ≡ 4 * length ws → n ≤ length d → take n d1 ≡ bytes_of ws
taken ws d n e f l =
    ap (take n) (e ∙ set_words-bytes ws d 0 (omega arith))
    ∙ take_at (bytes_of ws) (drop (4 * (0 + length ws)) d) n (length-bytes_of ws ∙ sym f)

-- a module small enough for the lists
pub record Small (c : ConstraintModule) (publics : ℕ) : Type 0 where
  pub public-ids : length c.publics ≡ publics
  pub words : length c.publics + length c.provers + EQUALITY-WORDS * length c.equalities + KEPT-WORDS * length c.kept ≤ BODY-WORDS
  pub nodes : definitions_nodes c.kept ≤ 16384

-- ---- the passes of a readable record make one

module _ {b : List ℕ} (r : Readable b) (few : module_nodes (module_of b) ≤ 16384) (k : ℕ) where
  nodes-few : definitions_nodes (module_of b).definitions + equations_nodes (module_of b).equations ≤ 16384
  unfolding module_nodes
  nodes-few = few

  publics-long : length (module_of b).publics ≡ publics b
  unfolding module_of
  publics-long = length-rows _ (publics b) 0

  provers-few : length (provers_of b) ≤ next b
  unfolding provers_of classify_defs module_of
  provers-few = ids-few _ 0 (next b)

  first-few : Few (cut_definitions b k) (definitions_nodes (module_of b).definitions) (next b)
  unfolding module_of
  first-few = few-defs b k (none_yet b k) (module_of b).definitions (next b)

  second-few : Few (cut_equations b k) (equations_nodes (module_of b).equations) (cut_definitions b k).next
  second-few = few-equations k (defs_after b k (none_yet b k) (module_of b).definitions) (module_of b).equations (cut_definitions b k).next

  pub parts-small : Small (parts b k) (publics b)
  parts-small = record {
    public-ids = publics-long;
    words = omega (
      arith,
      publics-long,
      provers-few,
      length-append (cut_definitions b k).equalities (cut_equations b k).equalities,
      first-few.equalities,
      second-few.equalities,
      nodes-few,
      kept-count-few b k,
      definitions-count b,
      r.publics-few,
      r.next_small,
      r.definitions-few,
    );
    nodes = omega (arith, kept-nodes-few b k, nodes-few);
  }

pub passes-small : {b : List ℕ} → Readable b → module_nodes (module_of b) ≤ 16384 → Small (passes (module_of b)) (publics b)
passes-small {b} r few = rw (by_parts b (length (classify_defs (module_of b)).definitions) refl) (parts-small r few _)

-- the numbers of a small module
module _ {c : ConstraintModule} {public : ℕ} (s : Small c public) {next publics start equalities kept nodes : ℕ}
    (n : Numbers c next publics start equalities kept nodes) where
  pub ordered-of : Ordered publics start equalities kept
  ordered-of = (omega (arith, n.publics-is, n.start_is), (omega (arith, n.equalities-is), omega (arith, n.kept-is)))

  pub bounded-of : Bounded kept nodes
  bounded-of = (omega (arith, n.kept-is, n.equalities-is, n.start_is, s.words), omega (arith, n.nodes-is, s.nodes))

-- ---- it stands in the lists

module _ {c : ConstraintModule} (body list : List ℕ) {body' list' : List ℕ} (x : Built) (n : BuiltOf c x)
    (p : body' ≡ put_body body c) (q : list' ≡ put_list list c) (body-long : length body ≡ BODY-BYTES) (list-long : length list ≡ LIST-BYTES) where
  words_long : length (body_words c) ≡ x.kept
  unfolding body_words
  words_long = simp length-append (omega (arith, length-equalities c.equalities, length-definitions c.kept 0, n.start_is, n.equalities-is, n.kept-is))

  pub made_of : Made c x body' list'
  unfolding put_body put_list
  made_of = record {
    numbers = n;
    body_is = taken (body_words c) body (4 * x.kept) p (omega (arith, words_long)) (omega (arith, x.bounded.0));
    list-is =
        taken (definitions_trees 0 c.kept) list (16 * x.nodes) q (omega (arith, n.nodes-is, length-definitions-trees c.kept 0))
        (omega (arith, x.bounded.1));
  }
