-- The port's own lists, in which a constraint record is made before its length is known: the body without the header and the nodes, and the nodes.
use Rattle.std.specs.Prelude.{ℕ, ◌+◌, ◌*◌, ◌≡◌, List, ◌++◌, ◌&&◌, length, take, Result, Ok, Err}
use Rattle.words.specs.Words.{bytes_of, set_words}
use Rattle.constraint.specs.Trees.{ConstraintModule}
use Rattle.flat.specs.Trees.{FlatModule, definitions_nodes}
use Rattle.flat.specs.Record.{pick}
use Rattle.pass_trees.specs.Passes.{Outcome, cut, refused, passes, counted, cuttable_defs, cuttable_equations}
use Rattle.constraint.specs.Record.{EQUALITY-WORDS, KEPT-WORDS, equalities_words, definitions_words, definitions_trees}
use Rattle.pass_entry.specs.declared.built.Built.{Built}
use Rattle.records.specs.declared.refusals.Refusal.{Refusal}
use Rattle.records.specs.Refusals.{refusal_number}
use Rattle.records.specs.FlatRecord.{HEADER, IDS, NODES, PUBLICS}

-- no constraint record of a flat record is longer: a node gives an equality, or it is kept with its definition, in fewer words (`passes-short`)
abbrev pub OUTPUT-BYTES : ℕ
OUTPUT-BYTES = 4 * (HEADER + PUBLICS + IDS + EQUALITY-WORDS * NODES)

-- the words of a constraint record between its header and its nodes
unfoldable pub body_words : ConstraintModule → List ℕ
body_words c = c.publics ++ (c.provers ++ (equalities_words c.equalities ++ definitions_words 0 c.kept))

-- the numbers that say where its lists stand in the body: the next id, the words up to the provers, up to the equalities, up to the kept definitions
-- and in all, the nodes
pub record Numbers (c : ConstraintModule) (next publics start equalities kept nodes : ℕ) : Type 0 where
  pub next-is : next ≡ c.next
  pub publics-is : publics ≡ length c.publics
  pub start_is : start ≡ length c.publics + length c.provers
  pub equalities-is : equalities ≡ start + EQUALITY-WORDS * length c.equalities
  pub kept-is : kept ≡ equalities + KEPT-WORDS * length c.kept
  pub nodes-is : nodes ≡ definitions_nodes c.kept

abbrev pub BuiltOf : ConstraintModule → Built → Type 0
BuiltOf c x = Numbers c x.next x.publics x.start x.equalities x.kept x.nodes

-- the two lists with a constraint module at their front
unfoldable pub put_body : List ℕ → ConstraintModule → List ℕ
put_body body c = set_words body 0 (body_words c)

unfoldable pub put_list : List ℕ → ConstraintModule → List ℕ
put_list list c = set_words list 0 (definitions_trees 0 c.kept)

-- what the passes leave of a flat module: the numbers where it is cut, else the refusal's; and the lists, which stay untouched at 22
unfoldable pub Passed : Outcome → Result Built Refusal → Type 0
Passed (cut c) (Ok x) = BuiltOf c x
Passed (cut c) (Err r) = ⊥
Passed (refused n) (Ok x) = ⊥
Passed (refused n) (Err r) = refusal_number r ≡ n

unfoldable pub body_after : List ℕ → FlatModule → List ℕ
body_after body f = pick (cuttable_defs (counted f) && cuttable_equations f.equations) (put_body body (passes f)) body

unfoldable pub list_after : List ℕ → FlatModule → List ℕ
list_after list f = pick (cuttable_defs (counted f) && cuttable_equations f.equations) (put_list list (passes f)) list

-- two lists that hold a constraint module, and the numbers that say so
pub record Made (c : ConstraintModule) (built : Built) (body list : List ℕ) : Type 0 where
  pub numbers : BuiltOf c built
  pub body_is : take (4 * built.kept) body ≡ bytes_of (body_words c)
  pub list-is : take (16 * built.nodes) list ≡ bytes_of (definitions_trees 0 c.kept)
