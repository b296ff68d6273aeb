-- Equations: one by its sides' roots, a list by its first. Assumes nothing.
use mathlib.Core.Path.{◌≡◌, refl, sym, ap, ap₂, ◌∙◌}
use mathlib.Core.List.{List, [], ◌∷◌}
use mathlib.Core.Bool.{Bool, true, false}
use Prim.Native.Nat.{ℕ, ◌+◌, ◌*◌, ◌≤◌, ◌<◌}
use native.Mathlib.Omega.{arith}
use lib.ListN.{length, length-append}
use Rattle.std.specs.Prelude.{Option as Maybe, None, Some}
use Rattle.flat.specs.Trees.{Flat, Equation, tree_nodes, equations_nodes}
use Rattle.constraint.specs.declared.Term.{Term}
use Rattle.constraint.specs.Record.{EQUALITY-WORDS}
use Rattle.pass_trees.specs.Passes.{keep_if, Substitutions, copy_propagate_expr, copy_propagate_equations, dead, alive, Cut as Cutting}
use Rattle.pass_trees.specs.Passes.{copied, Cuts, cuts_of, joined, all_at, placed, Sides as SidesOf, into, both, sides, flatten_sides, flatten_equations}
use Rattle.pass_trees.proofs.Loops.{copied-equations-append, alive-append, equations-append}
use Rattle.pass_trees.proofs.Placed.{placed-append}
use Rattle.pass_copies.specs.Substituted.{option_of, copied_of, dead_roots}
use Rattle.pass_copies.proofs.Shapes.{dead-by-roots}
use Rattle.pass_3ac.specs.Cutting.{Cut}
use Rattle.pass_3ac.specs.Cutting.{Place}
use Rattle.pass_3ac.specs.declared.Sides.{Sides}
use Rattle.pass_3ac.specs.declared.Sides.TheVariants.{Left, Right, Neither}
use Rattle.pass_3ac.specs.Cutting.{placed_cut, tree_cut, after, sides_of, equations_cut, Room}
use Rattle.pass_3ac.proofs.Trees.{term-cut, cut-new-few, cut-few, cut-ids}
use Rattle.pass_3ac.proofs.Placing.{length-put}
use Rattle.pass_3ac.proofs.Ways.{Leaves, its-term, its-next, its-at}
use Rattle.pass_3ac.proofs.Joining.{Puts, place-next, puts_none, puts-tree, puts-join, joined-none, Few, few-none, few-join, few-less, room-puts}

-- ---- which side is the left term

-- what an equation is cut into, by which side is the left term
sides_by : Sides → Flat → Flat → SidesOf
sides_by (Left t) x y = into t y
sides_by (Right t) x y = into t x
sides_by Neither x y = both x y

sides-by : (x y : Flat) → sides x y ≡ sides_by (sides_of (copied_of x) (copied_of y)) x y
unfolding sides sides_by sides_of copied_of
sides-by (Flat.variable v) (Flat.variable w) = refl
sides-by (Flat.variable v) (Flat.constant d) = refl
sides-by (Flat.variable v) (Flat.negate b) = refl
sides-by (Flat.variable v) (Flat.infixed o b d) = refl
sides-by (Flat.constant c) (Flat.variable w) = refl
sides-by (Flat.constant c) (Flat.constant d) = refl
sides-by (Flat.constant c) (Flat.negate b) = refl
sides-by (Flat.constant c) (Flat.infixed o b d) = refl
sides-by (Flat.negate a) (Flat.variable w) = refl
sides-by (Flat.negate a) (Flat.constant d) = refl
sides-by (Flat.negate a) (Flat.negate b) = refl
sides-by (Flat.negate a) (Flat.infixed o b d) = refl
sides-by (Flat.infixed o a c) (Flat.variable w) = refl
sides-by (Flat.infixed o a c) (Flat.constant d) = refl
sides-by (Flat.infixed o a c) (Flat.negate b) = refl
sides-by (Flat.infixed o a c) (Flat.infixed q b d) = refl

-- ---- one equation

module _ (k : ℕ) (s : Substitutions) (l r : Flat) (place n : ℕ) where
  abbrev the : Equation
  the = record { left = l; right = r; place = place }

  abbrev x : Flat
  x = copy_propagate_expr k s l

  abbrev y : Flat
  y = copy_propagate_expr k s r

  cut-dead : dead x y ≡ true → equations_cut k s (the ∷ []) n ≡ record { next = n; equalities = [] }
  unfolding equations_cut copy_propagate_equations alive keep_if flatten_equations
  cut-dead h = rw h

  cut-alive : dead x y ≡ false → equations_cut k s (the ∷ []) n ≡ placed place (flatten_sides (sides x y) n)
  unfolding equations_cut copy_propagate_equations alive keep_if flatten_equations
  cut-alive h = rw h (joined-none _)

  cut_by : (q : Sides) → sides_of (copied_of x) (copied_of y) ≡ q → dead x y ≡ false
      → equations_cut k s (the ∷ []) n ≡ placed place (flatten_sides (sides_by q x y) n)
  cut_by q e h = cut-alive h ∙ ap (λ (z : SidesOf). placed place (flatten_sides z n)) (sides-by x y ∙ ap (λ (z : Sides). sides_by z x y) e)

  cut_left : (t : Term) → placed place (flatten_sides (sides_by (Left t) x y) n) ≡ cuts_of (tree_cut place (Some t) k s r n)
  unfolding sides_by flatten_sides placed cuts_of tree_cut option_of
  cut_left t = refl

  cut_right : (t : Term) → placed place (flatten_sides (sides_by (Right t) x y) n) ≡ cuts_of (tree_cut place (Some t) k s l n)
  unfolding sides_by flatten_sides placed cuts_of tree_cut option_of
  cut_right t = refl

  cut-neither : placed place (flatten_sides (sides_by Neither x y) n) ≡ placed place (flatten_sides (both x y) n)
  unfolding sides_by
  cut-neither = refl

  cut-both : (a b : Cutting) → a ≡ tree_cut place None k s l n → b ≡ tree_cut place None k s r a.next
      → placed place (flatten_sides (both x y) n)
      ≡ joined (cuts_of a).equalities (joined (cuts_of b).equalities (cuts_of (placed_cut place (copied (option_of (Some a.term)) b.term b.next))))
  unfolding flatten_sides placed joined tree_cut option_of cuts_of
  cut-both a b p q = rw (q, p, placed-append, placed-append, term-cut)

  -- how much it takes
  few-given : (t : Term) (e : Flat) → Few (cuts_of (tree_cut place (Some t) k s e n)) (tree_nodes e) n
  unfolding cuts_of
  few-given t e = record { equalities = cut-few place k s e n _; ids = cut-ids place k s e n _ }

  few-both : Few (placed place (flatten_sides (both x y) n)) (tree_nodes l + tree_nodes r) n
  unfolding joined cuts_of copied option_of all_at
  few-both =
      let a : Cutting = tree_cut place None k s l n in
      let b : Cutting = tree_cut place None k s r a.next in
      let e : length a.equalities < tree_nodes l = cut-new-few place k s l n in
      let f : length b.equalities < tree_nodes r = cut-new-few place k s r a.next in
      let g : a.next ≤ n + tree_nodes l = cut-ids place k s l n None in
      let h : b.next ≤ a.next + tree_nodes r = cut-ids place k s r a.next None in
      rw (cut-both a b refl refl) (record { equalities = simp length-append (omega arith); ids = omega arith })

  few-by : (q : Sides) (d : Bool) → sides_of (copied_of x) (copied_of y) ≡ q → dead x y ≡ d
      → Few (equations_cut k s (the ∷ []) n) (tree_nodes l + tree_nodes r) n
  few-by q true e h = rw (cut-dead h) (few-less _ (few-none n) (omega arith))
  few-by (Left t) false e h = rw (cut_by (Left t) e h ∙ cut_left t) (few-less _ (few-given t r) (omega arith))
  few-by (Right t) false e h = rw (cut_by (Right t) e h ∙ cut_right t) (few-less _ (few-given t l) (omega arith))
  few-by Neither false e h = rw (cut_by Neither e h ∙ cut-neither) few-both

  pub few-equation : Few (equations_cut k s (the ∷ []) n) (tree_nodes l + tree_nodes r) n
  few-equation = few-by _ _ refl refl

  -- the ways, by the roots that the code has read: a and c, whether it found them dead, and the side that it took
  module _ {a c : Maybe Term} {d : Bool} (p : a ≡ copied_of x) (q : c ≡ copied_of y) (e : d ≡ dead_roots a c) where
    dead-is : dead x y ≡ d
    dead-is = dead-by-roots x y ∙ sym (e ∙ ap₂ dead_roots p q)

    pub way-dead : d ≡ true → (b : List ℕ) (at : ℕ) → Puts b b at (equations_cut k s (the ∷ []) n) (record { next = n; at = at })
    way-dead h b at = rw (cut-dead (dead-is ∙ h)) (puts_none b at n)

    module _ (h : d ≡ false) {z : Sides} (f : z ≡ sides_of a c) where
      side-is : sides_of (copied_of x) (copied_of y) ≡ z
      side-is = sym (f ∙ ap₂ sides_of p q)

      pub way-left : (b : List ℕ) {b' : List ℕ} (at : ℕ) {t : Term} {u : Place} → z ≡ Left t → Puts b b' at (cuts_of (tree_cut place (Some t) k s r n)) u
          → Puts b b' at (equations_cut k s (the ∷ []) n) u
      way-left b at {t} g w = rw (cut_by (Left t) (side-is ∙ g) (dead-is ∙ h) ∙ cut_left t) w

      pub way-right : (b : List ℕ) {b' : List ℕ} (at : ℕ) {t : Term} {u : Place} → z ≡ Right t → Puts b b' at (cuts_of (tree_cut place (Some t) k s l n)) u
          → Puts b b' at (equations_cut k s (the ∷ []) n) u
      way-right b at {t} g w = rw (cut_by (Right t) (side-is ∙ g) (dead-is ∙ h) ∙ cut_right t) w

      pub way-neither : (b : List ℕ) {b' : List ℕ} (at : ℕ) {u : Place} → z ≡ Neither → Puts b b' at (placed place (flatten_sides (both x y) n)) u
          → Puts b b' at (equations_cut k s (the ∷ []) n) u
      way-neither b at g w = rw (cut_by Neither (side-is ∙ g) (dead-is ∙ h) ∙ cut-neither) w

-- ---- both sides cut

module _ (place : ℕ) (k : ℕ) (s : Substitutions) (l r : Flat) (b : List ℕ) {c : List ℕ} (at n : ℕ) {r1 : Cut}
    (l1 : Leaves b c at (tree_cut place None k s l n) r1) where
  pub room-both : {d : List ℕ} {r2 : Cut} → Leaves c d r1.place.at (tree_cut place None k s r r1.place.next) r2 → Room (tree_nodes l + tree_nodes r) at n b
      → 4 * (r2.place.at + EQUALITY-WORDS) ≤ length d
  unfolding after
  room-both {d} {r2} l2 h =
      let a : Cutting = tree_cut place None k s l n in
      let y : Cutting = tree_cut place None k s r r1.place.next in
      let i : r1.place.at ≡ at + EQUALITY-WORDS * length a.equalities = its-at at a l1.1 in
      let j : r2.place.at ≡ r1.place.at + EQUALITY-WORDS * length y.equalities = its-at r1.place.at y l2.1 in
      let e : length a.equalities < tree_nodes l = cut-new-few place k s l n in
      let f : length y.equalities < tree_nodes r = cut-new-few place k s r r1.place.next in
      let g : length d ≡ length b = ap length l2.0 ∙ length-put c r1.place.at y.equalities ∙ ap length l1.0 ∙ length-put b at a.equalities in
      omega (arith, h.words)

  pub way-both : {d f : List ℕ} {r2 r3 : Cut} → Leaves c d r1.place.at (tree_cut place None k s r r1.place.next) r2
      → Leaves d f r2.place.at (placed_cut place (copied (option_of (Some r1.term)) r2.term r2.place.next)) r3
      → Puts b f at (placed place (flatten_sides (both (copy_propagate_expr k s l) (copy_propagate_expr k s r)) n)) r3.place
  way-both {d} {f} {r2} {r3} l2 l3 =
      let a : Cutting = tree_cut place None k s l n in
      let y : Cutting = tree_cut place None k s r r1.place.next in
      let z : Cutting = placed_cut place (copied (option_of (Some r1.term)) r2.term r2.place.next) in
      let e : placed place (flatten_sides (both (copy_propagate_expr k s l) (copy_propagate_expr k s r)) n)
      ≡ joined (cuts_of a).equalities (joined (cuts_of y).equalities (cuts_of z)) =
      cut-both k s l r place n a y refl (ap (tree_cut place None k s r) (its-next at a l1.1))
      ∙ rw (its-term at a l1.1, its-term r1.place.at y l2.1, its-next r1.place.at y l2.1) in
      rw e (puts-join b at (cuts_of a) (joined (cuts_of y).equalities (cuts_of z)) (puts-tree b at a l1)
      (puts-join c r1.place.at (cuts_of y) (cuts_of z) (puts-tree c r1.place.at y l2) (puts-tree d r2.place.at z l3)))

-- ---- lists

module _ (k : ℕ) (s : Substitutions) where
  pub equations-cut-none : (n : ℕ) → equations_cut k s [] n ≡ record { next = n; equalities = [] }
  unfolding equations_cut copy_propagate_equations alive flatten_equations
  equations-cut-none n = refl

  pub equations-first : (e : Equation) (es : List Equation) (n : ℕ)
      → equations_cut k s (e ∷ es) n ≡ joined (equations_cut k s (e ∷ []) n).equalities (equations_cut k s es (equations_cut k s (e ∷ []) n).next)
  unfolding equations_cut
  equations-first e es n =
      ap (λ (z : List Equation). flatten_equations z n) (ap alive (copied-equations-append k s (e ∷ []) es) ∙ alive-append _ _) ∙ equations-append _ _ n

  pub few-equations : (es : List Equation) (n : ℕ) → Few (equations_cut k s es n) (equations_nodes es) n
  unfolding equations_nodes
  few-equations [] n = rw (equations-cut-none n) (few-none n)
  few-equations (e ∷ es) n = rw (equations-first e es n) (few-join _ _ (few-equation k s e.left e.right e.place n) (few-equations es _))

  -- nothing from there on; one, and then the others
  pub put-equations-none : (c : List ℕ) (at n : ℕ) → Puts c c at (equations_cut k s [] n) (record { next = n; at = at })
  put-equations-none c at n = rw (equations-cut-none n) (puts_none c at n)

  pub put-equations-join : (e : Equation) (es : List Equation) (c : List ℕ) {c1 c2 : List ℕ} (at n : ℕ) {r1 r2 : Place}
      → Puts c c1 at (equations_cut k s (e ∷ []) n) r1 → Puts c1 c2 r1.at (equations_cut k s es r1.next) r2 → Puts c c2 at (equations_cut k s (e ∷ es) n) r2
  put-equations-join e es c at n {r1 = r1} l1 l2 =
      let C : Cuts = equations_cut k s (e ∷ []) n in
      let D : Cuts = equations_cut k s es r1.next in
      let w : equations_cut k s (e ∷ es) n ≡ joined C.equalities D =
      equations-first e es n ∙ ap (λ (y : ℕ). joined C.equalities (equations_cut k s es y)) (sym (place-next at C l1.1)) in
      rw w (puts-join c at C D l1 l2)

  -- the room that they leave
  pub room-equations : (es : List Equation) {c c' : List ℕ} {at n : ℕ} {r : Place} (p : ℕ) → Puts c c' at (equations_cut k s es n) r
      → Room (equations_nodes es + p) at n c → Room p r.at r.next c'
  room-equations es {n = n} p l h = room-puts (equations_cut k s es n) (equations_nodes es) p (few-equations es n) l h
