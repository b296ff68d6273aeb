-- The trees of a record whose nodes are each used once have as many nodes as the record: each node's tree is counted by its one use.
-- Assumes nothing.
use Prim.Native.Nat.{ℕ, zero, suc, ◌+◌, ◌*◌, ◌≤◌, ◌<◌}
use mathlib.Core.Path.{◌≡◌, refl, sym, ap, ap₂, ◌∙◌}
use mathlib.Core.List.{List}
use mathlib.Core.Bool.{Bool, true}
use mathlib.Core.Logic.{⊎_elim}
use native.Mathlib.Nat.{add-mul, one-mul, zero-mul}
use native.Mathlib.Omega.{arith}
use lib.Dec.{eqb}
use borrow.Author.Tests.{eq-eqb, ne_eqb, eqb-true}
use Rattle.words.specs.Words.{word_at}
use Rattle.flat.specs.Trees.{Definition, Equation, FlatModule, tree_nodes, definitions_nodes, equations_nodes, module_nodes}
use Rattle.flat.specs.Layout.{next, definitions, equations, nodes}
use Rattle.flat.specs.Layout.{definitions_offset, equations_offset, nodes_offset, node_at, definition_entry, equation_entry}
use Rattle.flat.specs.Record.{pick, total, rows, same, used_by, node_of, nodes_fit, tree, by_nodes}
use Rattle.flat.specs.Record.{by_definitions, by_equations, used_once, definition_at, equation_at, module_of, rules, Read, flat_of}
use Rattle.flat.specs.Readable.{Readable}
use Rattle.std.proofs.lemmas.Bool.{cases_eq}
use Rattle.marks.proofs.Indices.{every-at}
use Rattle.flat.proofs.Nodes.{by_kind, for-4, for-5, for-7, for-8, at-infix, at-negate, at_constant, at-variable, settled}
use Rattle.flat.proofs.Answers.{rules-have, hold-uses}
use Rattle.flat.proofs.Reading.{accepted-rules, accepted-readable, definition-below, equation-below}

-- ---- sums

pub total-same : (n : ℕ) (f g : ℕ → ℕ) → ((k : ℕ) → k < n → f k ≡ g k) → total n f ≡ total n g
unfolding total
total-same zero f g h = refl
total-same (suc n) f g h = ap₂ (λ (x y : ℕ). x + y) (total-same n f g (λ k l. h k (omega arith))) (h n (omega arith))

total-zero : (n : ℕ) → total n (λ _. 0) ≡ 0
unfolding total
total-zero zero = refl
total-zero (suc n) = omega (arith, total-zero n)

total-sum : (n : ℕ) (f g : ℕ → ℕ) → total n (λ k. f k + g k) ≡ total n f + total n g
unfolding total
total-sum zero f g = refl
total-sum (suc n) f g = omega (arith, total-sum n f g)

total-suc : (n : ℕ) (f : ℕ → ℕ) → total n (λ k. suc (f k)) ≡ n + total n f
unfolding total
total-suc zero f = refl
total-suc (suc n) f = omega (arith, total-suc n f)

-- a sum times a number
total-times : (n : ℕ) (f : ℕ → ℕ) (x : ℕ) → total n f * x ≡ total n (λ k. f k * x)
unfolding total
total-times zero f x = zero-mul x
total-times (suc n) f x = add-mul (total n f) (f n) x ∙ ap (λ (y : ℕ). y + f n * x) (total-times n f x)

-- sums in either order
total-exchange : (n m : ℕ) (f : ℕ → ℕ → ℕ) → total n (λ k. total m (λ j. f j k)) ≡ total m (λ j. total n (λ k. f j k))
unfolding total
total-exchange zero m f = sym (total-zero m)
total-exchange (suc n) m f =
    ap (λ (x : ℕ). x + total m (λ j. f j n)) (total-exchange n m f) ∙ sym (total-sum m (λ j. total n (λ k. f j k)) (λ j. f j n))

-- the first of a sum
pub total-front : (n : ℕ) (f : ℕ → ℕ) → total (suc n) f ≡ f 0 + total n (λ k. f (suc k))
unfolding total
total-front zero f = omega arith
total-front (suc n) f =
    ap (λ (x : ℕ). x + f (suc n)) (total-front n f)
    ∙ (let z : f 0 + total n (λ k. f (suc k)) + f (suc n) ≡ f 0 + (total n (λ k. f (suc k)) + f (suc n)) = omega arith in z)

-- the one k that is x
same_here : (x k w : ℕ) → x ≡ k → same x k * w ≡ w
unfolding same pick
same_here x k w e = rw (eq-eqb x k e) (one-mul w)

same-else : (x k w : ℕ) → (x ≡ k → ⊥) → same x k * w ≡ 0
unfolding same pick
same-else x k w e = rw (ne_eqb x k e) (zero-mul w)

nowhere : (n x : ℕ) (w : ℕ → ℕ) → n ≤ x → total n (λ k. same x k * w k) ≡ 0
nowhere n x w h = total-same n _ _ (λ k l. same-else x k (w k) (λ e. omega arith)) ∙ total-zero n

once : (n x : ℕ) (w : ℕ → ℕ) → x < n → total n (λ k. same x k * w k) ≡ w x
unfolding total
once zero x w h = absurd (omega arith)
once (suc n) x w h =
    ⊎_elim
    (λ (e : x ≡ n). omega (arith, nowhere n x w (omega arith), same_here x n (w n) e, ap w e))
    (λ (f : x ≡ n → ⊥). omega (arith, once n x w (omega arith), same-else x n (w n) f))
    (cases_eq x n)

-- ---- the nodes of trees

module _ (b : List ℕ) (at n limit : ℕ) (h : nodes_fit b at n limit ≡ true) where
  weight : ℕ → ℕ
  weight k = tree_nodes (tree b at (k + 1) k)

  weight_is : (k : ℕ) → weight k ≡ tree_nodes (tree b at (k + 1) k)
  unfolding weight
  weight_is k = refl

  -- a node's tree has one node more than those of the nodes that it uses
  grows : (j : ℕ) → j < n → weight j ≡ suc (total n (λ k. node_at b at j (used_by k) * weight k))
  unfolding node_at used_by tree_nodes pick node_of weight
  grows j l = by_kind kind x y z four five seven eight
    where
      kind : ℕ
      kind = word_at b (at + 4 * j)

      x : ℕ
      x = word_at b (at + 4 * j + 1)

      y : ℕ
      y = word_at b (at + 4 * j + 2)

      z : ℕ
      z = word_at b (at + 4 * j + 3)

      four : kind ≡ 4 → weight j ≡ suc (total n (λ k. used_by k kind x y z * weight k))
      four e =
          let t = at-infix b at n limit h j l (for-4 kind x y z e) in
          ap tree_nodes t.2
          ∙ ap suc
          (sym
          (total-same n _ _ (λ k m. ap (λ (c : Bool). pick c (same x k + same y k) (pick (eqb kind 5) (same x k) 0) * weight k) (eq-eqb kind 4 e)
          ∙ add-mul (same x k) (same y k) (weight k))
          ∙ total-sum n (λ k. same x k * weight k) (λ k. same y k * weight k)
          ∙ ap₂ (λ (p q : ℕ). p + q) (once n x weight (omega (arith, t.0))) (once n y weight (omega (arith, t.1)))))

      five : kind ≡ 5 → weight j ≡ suc (total n (λ k. used_by k kind x y z * weight k))
      five e =
          let t = at-negate b at n limit h j l (for-5 kind x y z e) in
          ap tree_nodes t.1
          ∙ ap suc
          (sym
          (total-same n _ _
          (λ k m. ap (λ (c : Bool). pick c (same x k + same y k) (pick (eqb kind 5) (same x k) 0) * weight k) (ne_eqb kind 4 (λ q. omega arith))
          ∙ ap (λ (c : Bool). pick c (same x k) 0 * weight k) (eq-eqb kind 5 e))
          ∙ once n x weight (omega (arith, t.0))))

      leaf : (kind ≡ 4 → ⊥) → (kind ≡ 5 → ⊥) → total n (λ k. used_by k kind x y z * weight k) ≡ 0
      leaf n4 n5 =
          total-same n _ _ (λ k m. ap (λ (c : Bool). pick c (same x k + same y k) (pick (eqb kind 5) (same x k) 0) * weight k) (ne_eqb kind 4 n4)
          ∙ ap (λ (c : Bool). pick c (same x k) 0 * weight k) (ne_eqb kind 5 n5)
          ∙ zero-mul (weight k))
          ∙ total-zero n

      seven : kind ≡ 7 → weight j ≡ suc (total n (λ k. used_by k kind x y z * weight k))
      seven e =
          ap tree_nodes (at_constant b at n limit h j l (for-7 kind x y z e)) ∙ ap suc (sym (leaf (λ q. omega arith) (λ q. omega arith)))

      eight : (kind ≡ 4 → ⊥) → (kind ≡ 5 → ⊥) → (kind ≡ 7 → ⊥) → weight j ≡ suc (total n (λ k. used_by k kind x y z * weight k))
      eight n4 n5 n7 =
          ap tree_nodes (at-variable b at n limit h j l (for-8 kind x y z n4 n5 n7)).1 ∙ ap suc (sym (leaf n4 n5))

  -- what the nodes use, summed in either order
  used-by-nodes : total n (λ k. by_nodes b at n k * weight k) ≡ total n (λ j. total n (λ k. node_at b at j (used_by k) * weight k))
  unfolding by_nodes
  used-by-nodes =
      total-same n _ _ (λ k l. total-times n (λ j. node_at b at j (used_by k)) (weight k))
      ∙ total-exchange n n (λ j k. node_at b at j (used_by k) * weight k)

  -- a list of m uses
  used-by : (m : ℕ) (root : ℕ → ℕ) → ((j : ℕ) → j < m → root j < n) → total n (λ k. total m (λ j. same (root j) k) * weight k) ≡ total m (λ j. weight (root j))
  used-by m root below =
      total-same n _ _ (λ k l. total-times m (λ j. same (root j) k) (weight k))
      ∙ total-exchange n m (λ j k. same (root j) k * weight k)
      ∙ total-same m _ _ (λ j l. once n (root j) weight (below j l))

  -- the trees of the definitions and of the equations' sides together have n nodes
  module _ (d ds e es : ℕ) (o : used_once b d ds e es at n ≡ true) (dh : (j : ℕ) → j < ds → (definition_entry b d j).node < n)
      (eh : (j : ℕ) → j < es → ((equation_entry b e j).left < n) × ((equation_entry b e j).right < n)) where
    one-use : (k : ℕ) → k < n → by_definitions b d ds k + by_equations b e es k + by_nodes b at n k ≡ 1
    unfolding used_once
    one-use k l = eqb-true _ 1 (every-at n k (λ i. eqb (by_definitions b d ds i + by_equations b e es i + by_nodes b at n i) 1) o l)

    weighed : total n weight
        ≡ total n (λ k. by_definitions b d ds k * weight k) + total n (λ k. by_equations b e es k * weight k) + total n (λ k. by_nodes b at n k * weight k)
    weighed =
        total-same n _ _
        (λ k l.
        sym (one-mul (weight k))
        ∙ ap (λ (x : ℕ). x * weight k) (sym (one-use k l))
        ∙ add-mul (by_definitions b d ds k + by_equations b e es k) (by_nodes b at n k) (weight k)
        ∙ ap (λ (x : ℕ). x + by_nodes b at n k * weight k) (add-mul (by_definitions b d ds k) (by_equations b e es k) (weight k)))
        ∙ total-sum n (λ k. by_definitions b d ds k * weight k + by_equations b e es k * weight k) (λ k. by_nodes b at n k * weight k)
        ∙ ap (λ (x : ℕ). x + total n (λ k. by_nodes b at n k * weight k))
        (total-sum n (λ k. by_definitions b d ds k * weight k) (λ k. by_equations b e es k * weight k))

    grown : total n weight ≡ n + total n (λ k. by_nodes b at n k * weight k)
    grown =
        total-same n _ _ grows
        ∙ total-suc n (λ j. total n (λ k. node_at b at j (used_by k) * weight k))
        ∙ ap (λ (x : ℕ). n + x) (sym used-by-nodes)

    -- the two sides of the equations
    used-by-sides : total n (λ k. by_equations b e es k * weight k) ≡ total es (λ j. weight (equation_entry b e j).left + weight (equation_entry b e j).right)
    unfolding by_equations
    used-by-sides =
        let left : ℕ → ℕ = λ j. (equation_entry b e j).left in
        let right : ℕ → ℕ = λ j. (equation_entry b e j).right in
        total-same n _ _ (λ k l. ap (λ (x : ℕ). x * weight k) (total-sum es (λ j. same (left j) k) (λ j. same (right j) k)) ∙ add-mul _ _ (weight k))
        ∙ total-sum n (λ k. total es (λ j. same (left j) k) * weight k) (λ k. total es (λ j. same (right j) k) * weight k)
        ∙ ap₂ (λ (x y : ℕ). x + y) (used-by es left (λ j l. (eh j l).0)) (used-by es right (λ j l. (eh j l).1))
        ∙ sym (total-sum es (λ j. weight (left j)) (λ j. weight (right j)))

    roots-weigh :
        total ds (λ j. weight (definition_entry b d j).node) + total es (λ j. weight (equation_entry b e j).left + weight (equation_entry b e j).right) ≡ n
    unfolding by_definitions
    roots-weigh = omega (arith, weighed, grown, used-by ds (λ j. (definition_entry b d j).node) dh, used-by-sides)

-- ---- lists

total-from : (n i : ℕ) (g : ℕ → ℕ) → total (suc n) (λ j. g (i + j)) ≡ g i + total n (λ j. g (suc i + j))
total-from n i g =
    total-front n (λ j. g (i + j))
    ∙ ap₂ (λ (x y : ℕ). x + y)
    (let z : i + 0 ≡ i = omega arith in ap g z)
    (total-same n _ _ (λ k l. let z : i + suc k ≡ suc i + k = omega arith in ap g z))

definitions-total : (n i : ℕ) (f : ℕ → Definition) → definitions_nodes (rows n i f) ≡ total n (λ j. tree_nodes (f (i + j)).right)
unfolding definitions_nodes rows total
definitions-total zero i f = refl
definitions-total (suc n) i f =
    ap (λ (x : ℕ). tree_nodes (f i).right + x) (definitions-total n (suc i) f) ∙ sym (total-from n i (λ j. tree_nodes (f j).right))

equations-total : (n i : ℕ) (f : ℕ → Equation) → equations_nodes (rows n i f) ≡ total n (λ j. tree_nodes (f (i + j)).left + tree_nodes (f (i + j)).right)
unfolding equations_nodes rows total
equations-total zero i f = refl
equations-total (suc n) i f =
    ap (λ (x : ℕ). tree_nodes (f i).left + tree_nodes (f i).right + x) (equations-total n (suc i) f)
    ∙ sym (total-from n i (λ j. tree_nodes (f j).left + tree_nodes (f j).right))

-- THE TREES OF AN ACCEPTED RECORD have as many nodes as the record
module _ (b : List ℕ) (r : rules b ≡ true) where
  once-each : used_once b (definitions_offset b) (definitions b) (equations_offset b) (equations b) (nodes_offset b) (nodes b) ≡ true
  once-each = hold-uses b _ _ _ _ _ _ _ (rules-have b r).trees

  pub module-nodes : Readable b → module_nodes (module_of b) ≡ nodes b
  unfolding module_nodes module_of definition_at equation_at
  module-nodes q =
      let root : ℕ → ℕ = λ i. (definition_entry b (definitions_offset b) i).node in
      let left : ℕ → ℕ = λ i. (equation_entry b (equations_offset b) i).left in
      let right : ℕ → ℕ = λ i. (equation_entry b (equations_offset b) i).right in
      let trees : ℕ → ℕ = λ k. tree_nodes (tree b (nodes_offset b) (nodes b) k) in
      ap₂ (λ (x y : ℕ). x + y)
      (definitions-total (definitions b) 0 (definition_at b (definitions_offset b) (nodes_offset b) (nodes b))
      ∙ total-same (definitions b) _ _
      (λ j l. let z : 0 + j ≡ j = omega arith in ap (λ (i : ℕ). trees (root i)) z ∙ at-root (root j) (definition-below q j l).1))
      (equations-total (equations b) 0 (equation_at b (equations_offset b) (nodes_offset b) (nodes b))
      ∙ total-same (equations b) _ _
      (λ j l.
      let z : 0 + j ≡ j = omega arith in
      let sides = equation-below q j l in
      ap (λ (i : ℕ). trees (left i) + trees (right i)) z ∙ ap₂ (λ (x y : ℕ). x + y) (at-root (left j) sides.0) (at-root (right j) sides.1)))
      ∙ roots-weigh b (nodes_offset b) (nodes b) (next b) q.nodes-fit (definitions_offset b) (definitions b) (equations_offset b) (equations b) once-each
      (λ j l. (definition-below q j l).1) (equation-below q)
    where
      at-root : (k : ℕ) → k < nodes b → tree_nodes (tree b (nodes_offset b) (nodes b) k) ≡ weight b (nodes_offset b) (nodes b) (next b) q.nodes-fit k
      at-root k l = ap tree_nodes (settled b (nodes_offset b) (nodes b) k l) ∙ sym (weight_is b (nodes_offset b) (nodes b) (next b) q.nodes-fit k)

pub accepted-nodes : (b : List ℕ) (f : FlatModule) → flat_of b ≡ Read.module-of f → module_nodes (module_of b) ≡ nodes b
accepted-nodes b f h = module-nodes b (accepted-rules b f h) (accepted-readable b f h)
