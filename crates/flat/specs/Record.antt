-- What a lent flat record is: its module, or 20 or 21. For a reader with docs/RECORDS.md, "Flat record" and "Refusals", beside it.
-- `b` is the list of its bytes, laid out as Layout.antt says. Each rule is a test for all indices below a count; 21 is one number for all its rules, so their
-- order says nothing.
use Rattle.std.specs.Prelude.{ℕ, zero, suc, ◌+◌, ◌-◌, ◌*◌, List, [], ◌∷◌, Bool, true, false, not, ◌&&◌, length, leb, ltb, eqb, Result, Ok, Err}
use Rattle.std.proofs.Common.{to_z}
use Rattle.std.specs.Int.{w32}
use Rattle.words.specs.Words.{word_at}
unfoldable pub use Rattle.field.specs.Operators.{operator_of}
unfoldable pub use Rattle.marks.specs.Indices.{every, total, rows, pick, same}
use Rattle.flat.specs.Trees.{Flat, Definition, Equation, FlatModule, defines, every_id}
use Rattle.flat.specs.declared.Node.{Node}
use Rattle.flat.specs.declared.Node.TheVariants.{Infix, Negate, Constant, Variable}
use Rattle.flat.specs.declared.Layout.{Layout}
use Rattle.flat.specs.Layout.{layout_of, next, publics, provers, definitions, equations, nodes, size}
use Rattle.flat.specs.Layout.{provers_offset, definitions_offset, equations_offset, nodes_offset}
use Rattle.flat.specs.Layout.{public_at, prover_at, definition_entry, equation_entry, node_at}
use Rattle.records.specs.declared.refusals.Refusal.{Refusal}
use Rattle.records.specs.FlatRecord.{HEADER, IDS, LISTED, NODES, PUBLICS}
use Rattle.records.specs.Kinds.{CONSTANT, INFIX, NEGATE, VARIABLE}
use Rattle.records.specs.Operators.{MODULO}

-- ---- 20, FlatLength

-- "64 publics, 4,096 of each other list, 16,384 nodes"
unfoldable pub has_few : Layout → Bool
has_few l = leb l.publics PUBLICS && (leb l.provers LISTED && (leb l.definitions LISTED && (leb l.equations LISTED && leb l.nodes NODES)))

-- not 20, FlatLength: those, and the length is exactly the lists'
unfoldable pub measured : List ℕ → Bool
measured b = leb (4 * HEADER) (length b) && (has_few (layout_of b) && eqb (length b) (4 * size b))

-- ---- nodes

-- "4 infix(a, b, operator c), 5 negate(a), 7 constant a, 8 variable"; constants are signed. What is no node of a flat record reads as a variable
unfoldable pub node_for : ℕ → ℕ → ℕ → ℕ → Node
node_for kind x y z =
    pick (eqb kind INFIX) (Infix (operator_of z) x y)
    (pick (eqb kind NEGATE) (Negate x)
    (pick (eqb kind CONSTANT) (Constant (to_z w32 x))
    (Variable x)))

unfoldable pub node_of : List ℕ → ℕ → ℕ → Node
node_of b at k = node_at b at k node_for

-- the tree of node k of the first n nodes, where `below` gives the trees of its children
unfoldable pub grown : (ℕ → Flat) → Node → Flat
grown below (Infix o x y) = Flat.infixed o (below x) (below y)
grown below (Negate x) = Flat.negate (below x)
grown below (Constant c) = Flat.constant c
grown below (Variable v) = Flat.variable v

unfoldable pub tree : List ℕ → ℕ → ℕ → ℕ → Flat
tree b at zero k = Flat.variable 0
tree b at (suc n) k = elim (eqb k n) [ true ↦ grown (tree b at n) (node_of b at n) | false ↦ tree b at n k ]

-- ---- the module

unfoldable pub definition_at : List ℕ → ℕ → ℕ → ℕ → ℕ → Definition
definition_at b at trees_at count j =
    let d = definition_entry b at j in
    record { id = d.id; right = tree b trees_at count d.node; place = d.place }

unfoldable pub equation_at : List ℕ → ℕ → ℕ → ℕ → ℕ → Equation
equation_at b at trees_at count j =
    let e = equation_entry b at j in
    record { left = tree b trees_at count e.left; right = tree b trees_at count e.right; place = e.place }

unfoldable pub module_of : List ℕ → FlatModule
module_of b = record {
  next = next b;
  publics = rows (publics b) 0 (public_at b);
  provers = rows (provers b) 0 (prover_at b (provers_offset b));
  definitions = rows (definitions b) 0 (definition_at b (definitions_offset b) (nodes_offset b) (nodes b));
  equations = rows (equations b) 0 (equation_at b (equations_offset b) (nodes_offset b) (nodes b));
}

-- ---- the rules

-- n ids from word `at` on lie below a limit
unfoldable pub all_below : List ℕ → ℕ → ℕ → ℕ → Bool
all_below b at n limit = every n (λ k. ltb (word_at b (at + k)) limit)

-- "its prover ids rise": n words from `at` on, each below the next
unfoldable pub rising : List ℕ → ℕ → ℕ → Bool
rising b at n = every (n - 1) (λ k. ltb (word_at b (at + k)) (word_at b (at + k + 1)))

-- definitions: each id below the next id, each node one of the nodes
unfoldable pub definitions_fit : List ℕ → ℕ → ℕ → ℕ → ℕ → Bool
definitions_fit b at n limit count = every n (λ k. ltb (definition_entry b at k).id limit && ltb (definition_entry b at k).node count)

-- equations: each side one of the nodes
unfoldable pub equations_fit : List ℕ → ℕ → ℕ → ℕ → Bool
equations_fit b at n count = every n (λ k. ltb (equation_entry b at k).left count && ltb (equation_entry b at k).right count)

-- a node: "its nodes follow their children", "its ids lie below its next id", "unused words are 0", operators 0 to 8
unfoldable pub node_fits : ℕ → ℕ → ℕ → ℕ → ℕ → ℕ → Bool
node_fits limit k kind x y z =
    pick (eqb kind INFIX) (ltb x k && (ltb y k && leb z MODULO))
    (pick (eqb kind NEGATE) (ltb x k && (eqb y 0 && eqb z 0))
    (pick (eqb kind CONSTANT) (eqb y 0 && eqb z 0)
    (pick (eqb kind VARIABLE) (ltb x limit && (eqb y 0 && eqb z 0))
    false)))

unfoldable pub nodes_fit : List ℕ → ℕ → ℕ → ℕ → Bool
nodes_fit b at n limit = every n (λ k. node_at b at k (node_fits limit k))

-- how often node k is used: by a node's children, by all nodes, by the definitions, by the equations
unfoldable pub used_by : ℕ → ℕ → ℕ → ℕ → ℕ → ℕ
used_by k kind x y z = pick (eqb kind INFIX) (same x k + same y k) (pick (eqb kind NEGATE) (same x k) 0)

unfoldable pub by_nodes : List ℕ → ℕ → ℕ → ℕ → ℕ
by_nodes b at n k = total n (λ j. node_at b at j (used_by k))

unfoldable pub by_definitions : List ℕ → ℕ → ℕ → ℕ → ℕ
by_definitions b at n k = total n (λ j. same (definition_entry b at j).node k)

unfoldable pub by_equations : List ℕ → ℕ → ℕ → ℕ → ℕ
by_equations b at n k = total n (λ j. same (equation_entry b at j).left k + same (equation_entry b at j).right k)

-- "each used exactly once": by the definitions, the equations and the nodes together (each list by its place and count)
unfoldable pub used_once : List ℕ → ℕ → ℕ → ℕ → ℕ → ℕ → ℕ → Bool
used_once b definitions_offset definitions equations_offset equations nodes_offset nodes =
    every nodes (λ k. eqb (by_definitions b definitions_offset definitions k + by_equations b equations_offset equations k + by_nodes b nodes_offset nodes k) 1)

-- the rules of definitions, equations and nodes but for the order
unfoldable pub trees_hold : List ℕ → ℕ → ℕ → ℕ → ℕ → ℕ → ℕ → ℕ → Bool
trees_hold b next definitions_offset definitions equations_offset equations nodes_offset nodes =
    definitions_fit b definitions_offset definitions next nodes
    && (equations_fit b equations_offset equations nodes
    && (nodes_fit b nodes_offset nodes next
    && used_once b definitions_offset definitions equations_offset equations nodes_offset nodes))

-- "defines each id at most once, and no right side uses an id defined there or later"
unfoldable pub ordered : List Definition → Bool
ordered [] = true
ordered (d ∷ ds) = not (defines ds d.id) && (every_id (λ v. not (defines (d ∷ ds) v)) d.right && ordered ds)

-- "its ids lie below its next id", "to 65,536", "its prover ids rise"
unfoldable pub ids_hold : List ℕ → Layout → Bool
ids_hold b l =
    leb l.next IDS && (all_below b HEADER l.publics l.next && (all_below b l.provers_at l.provers l.next && rising b l.provers_at l.provers))

-- not 21, FlatRule
unfoldable pub rules : List ℕ → Bool
rules b =
    ids_hold b (layout_of b)
    && (trees_hold b (next b) (definitions_offset b) (definitions b) (equations_offset b) (equations b) (nodes_offset b) (nodes b)
    && ordered (rows (definitions b) 0 (definition_at b (definitions_offset b) (nodes_offset b) (nodes b))))

-- ---- the answer

pub data Read : Type 0 where
  module-of : FlatModule → Read
  refused : Refusal → Read

-- "20 length or count; 21 node, id or order rule"
unfoldable pub flat_of : List ℕ → Read
flat_of b = pick (measured b) (pick (rules b) (Read.module-of (module_of b)) (Read.refused Refusal.FlatRule)) (Read.refused Refusal.FlatLength)

-- the code's answer for it
unfoldable pub checked : Read → Result (Unit {0}) Refusal
checked (Read.module-of f) = Ok tt
checked (Read.refused r) = Err r
