-- How many words each part of a record has, and lists of parts in two pieces. Assumes nothing.
use mathlib.Core.Path.{◌≡◌, refl, sym}
use mathlib.Core.List.{List, [], ◌∷◌, ◌++◌, append_assoc}
use Prim.Native.Nat.{ℕ, ◌+◌, ◌-◌, ◌*◌, ◌<◌}
use native.Mathlib.Omega.{arith}
use lib.ListN.{length, length-append}
use Rattle.flat.specs.Trees.{Flat, Definition, Equation, tree_nodes, definitions_nodes, equations_nodes}
use Rattle.flat.specs.Layout.{DEFINITION-WORDS, EQUATION-WORDS, node_words, definition_words}
use Rattle.flat.specs.Writer.{next_from, root_from, nodes_from, definitions_words, definitions_trees, equations_words, equations_trees}
use Rattle.flat.proofs.EntryLaws.{length-definition, length-equation}

-- a tree has a root
pub tree-positive : (e : Flat) → 0 < tree_nodes e
unfolding tree_nodes
tree-positive (Flat.infixed o a b) = omega arith
tree-positive (Flat.negate a) = omega arith
tree-positive (Flat.constant c) = omega arith
tree-positive (Flat.variable v) = omega arith

-- where a tree ends
pub next-is : (base : ℕ) (e : Flat) → next_from base e ≡ base + tree_nodes e
unfolding next_from
next-is base e = refl

pub root_is : (base : ℕ) (e : Flat) → root_from base e ≡ base + tree_nodes e - 1
unfolding root_from next_from
root_is base e = refl

pub length-nodes : (e : Flat) (base : ℕ) → length (nodes_from base e) ≡ 4 * tree_nodes e
unfolding nodes_from node_words tree_nodes
length-nodes (Flat.infixed o a b) base = simp length-append (omega (arith, length-nodes a base, length-nodes b (next_from base a)))
length-nodes (Flat.negate a) base = simp length-append (omega (arith, length-nodes a base))
length-nodes (Flat.constant c) base = refl
length-nodes (Flat.variable v) base = refl

pub length-definitions : (ds : List Definition) (base : ℕ) → length (definitions_words base ds) ≡ DEFINITION-WORDS * length ds
unfolding definitions_words
length-definitions [] base = refl
length-definitions (d ∷ ds) base =
    simp length-append (omega (arith, length-definition d.id (root_from base d.right) d.place, length-definitions ds (next_from base d.right)))

pub length-definitions-trees : (ds : List Definition) (base : ℕ) → length (definitions_trees base ds) ≡ 4 * definitions_nodes ds
unfolding definitions_trees definitions_nodes
length-definitions-trees [] base = refl
length-definitions-trees (d ∷ ds) base =
    simp length-append (omega (arith, length-nodes d.right base, length-definitions-trees ds (next_from base d.right)))

-- lists in two pieces, the second from the index that the first ends at
next-plus : (base : ℕ) (d : Definition) (n : ℕ) → next_from base d.right + n ≡ base + (tree_nodes d.right + n)
unfolding next_from
next-plus base d n = omega arith

pub count-append : (xs ys : List Definition) → definitions_nodes (xs ++ ys) ≡ definitions_nodes xs + definitions_nodes ys
unfolding definitions_nodes
count-append [] ys = omega arith
count-append (d ∷ xs) ys = omega (arith, count-append xs ys)

pub definitions-append : (xs ys : List Definition) (base : ℕ) →
    definitions_words base (xs ++ ys) ≡ definitions_words base xs ++ definitions_words (base + definitions_nodes xs) ys
unfolding definitions_words definitions_nodes
definitions-append [] ys base = let e : base + 0 ≡ base = omega arith in rw e
definitions-append (d ∷ xs) ys base =
    rw (definitions-append xs ys (next_from base d.right), next-plus base d (definitions_nodes xs))
    (sym (append_assoc (definition_words d.id (root_from base d.right) d.place) (definitions_words (next_from base d.right) xs) _))

pub definitions-trees-append : (xs ys : List Definition) (base : ℕ)
    → definitions_trees base (xs ++ ys) ≡ definitions_trees base xs ++ definitions_trees (base + definitions_nodes xs) ys
unfolding definitions_trees definitions_nodes
definitions-trees-append [] ys base = let e : base + 0 ≡ base = omega arith in rw e
definitions-trees-append (d ∷ xs) ys base =
    rw (definitions-trees-append xs ys (next_from base d.right), next-plus base d (definitions_nodes xs))
    (sym (append_assoc (nodes_from base d.right) (definitions_trees (next_from base d.right) xs) _))

-- equations
pub length-equations : (es : List Equation) (base : ℕ) → length (equations_words base es) ≡ EQUATION-WORDS * length es
unfolding equations_words
length-equations [] base = refl
length-equations (e ∷ es) base =
    let middle = next_from base e.left in
    let one = length-equation (root_from base e.left) (root_from middle e.right) e.place in
    simp length-append (omega (arith, one, length-equations es (next_from middle e.right)))

pub length-equations-trees : (es : List Equation) (base : ℕ) → length (equations_trees base es) ≡ 4 * equations_nodes es
unfolding equations_trees equations_nodes
length-equations-trees [] base = refl
length-equations-trees (e ∷ es) base =
    let middle = next_from base e.left in
    simp length-append (omega (arith, length-nodes e.left base, length-nodes e.right middle, length-equations-trees es (next_from middle e.right)))
