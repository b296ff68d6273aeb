-- The ways through the cut of a tree: from what the calls say, in the order of the code, to the whole. Assumes nothing.
use mathlib.Core.Path.{◌≡◌, refl, sym, ap, ap₂, ◌∙◌}
use mathlib.Core.List.{List, [], ◌∷◌, ◌++◌}
use mathlib.Core.Option.{Option}
use Prim.Native.Nat.{ℕ, ◌+◌, ◌*◌, ◌≤◌, ◌<◌}
use native.Mathlib.Numerals.{add-one}
use native.Mathlib.Omega.{arith}
use lib.IntN.{ℤ}
use lib.ListN.{length}
use Rattle.words.specs.Words.{set_words}
use Rattle.field.specs.declared.InfixOp.{InfixOp}
use Rattle.std.specs.Prelude.{Option as Maybe, None}
use Rattle.pass_copies.specs.Substituted.{option_of}
use Rattle.flat.specs.Trees.{Flat, tree_nodes}
use Rattle.constraint.specs.declared.Term.{Term}
use Rattle.constraint.specs.declared.Equality.{Equality as Written}
use Rattle.constraint.specs.Trees.{Side, Equality, written_of}
use Rattle.constraint.specs.Record.{EQUALITY-WORDS, written_words}
use Rattle.pass_trees.specs.Passes.{Substitutions, walk, infix_op, Cut as Cutting, or_variable, copied}
use Rattle.pass_3ac.specs.Cutting.{Cut}
use Rattle.pass_3ac.specs.Cutting.{placed_cut, tree_cut, put_equalities, after, cut_from, DRAWN, Room}
use Rattle.pass_3ac.proofs.Trees.{cut-infix, cut-negate, cut-constant, cut-variable, cut-few, cut-ids, nodes-some, push_at}
use Rattle.pass_3ac.proofs.Placing.{put-append, after-append, length-put, put_one, after_one}

-- what a cut from word `at` on leaves: the body b' where it was b, and the answer r
abbrev pub Leaves : List ℕ → List ℕ → ℕ → Cutting → Cut → Type 0
Leaves b b' at c r = (b' ≡ put_equalities b at c.equalities) × (r ≡ cut_from at c)

-- the fields of an answer
module _ (at : ℕ) (c : Cutting) {r : Cut} (e : r ≡ cut_from at c) where
  pub its-term : r.term ≡ c.term
  unfolding cut_from
  its-term = ap (λ (x : Cut). x.term) e

  pub its-next : r.place.next ≡ c.next
  unfolding cut_from
  its-next = ap (λ (x : Cut). x.place.next) e

  pub its-at : r.place.at ≡ after at c.equalities
  unfolding cut_from
  its-at = ap (λ (x : Cut). x.place.at) e

-- an equality after those of the parts
pushed : (b : List ℕ) (at n place : ℕ) (out : Option Term) (es : List Equality) (side : Side) {c d : List ℕ} {m : ℕ} {q : Written} {l : Term}
    → l ≡ or_variable out n → q ≡ written_of l side → c ≡ put_equalities b at es → m ≡ after at es → d ≡ set_words c m (written_words q place)
    → Leaves b d at (push_at place out es n side) (record { term = q.left; place = record { next = n + 1; at = m + EQUALITY-WORDS } })
unfolding cut_from
pushed b at n place out es side {c} {d} {m} {q} {l} p e f g h =
    let k : q.left ≡ or_variable out n = ap (λ (x : Written). x.left) e ∙ unfold written_of in p in
    let w : d ≡ put_equalities c m (record { left = or_variable out n; right = side; place = place } ∷ []) =
    h ∙ ap (λ (x : Written). set_words c m (written_words x place)) (e ∙ ap (λ (t : Term). written_of t side) p) ∙ put_one c m place (or_variable out n) side in
    let u : m + EQUALITY-WORDS ≡ after at (es ++ (record { left = or_variable out n; right = side; place = place } ∷ [])) =
    sym (after-append at es _ ∙ after_one (after at es) _ ∙ ap (λ (x : ℕ). x + EQUALITY-WORDS) (sym g)) in (
      w ∙ ap₂ (λ (x : List ℕ) (y : ℕ). put_equalities x y (record { left = or_variable out n; right = side; place = place } ∷ [])) f g
          ∙ sym (put-append b at es _),
      rw (k, u, add-one),
    )

-- ---- room

module _ {at n : ℕ} {b : List ℕ} where
  -- room for as many as there is room for, and for one
  pub room-less : (m : ℕ) {p : ℕ} → Room m at n b → p ≤ m → Room p at n b
  room-less m h l = record { words = omega (arith, h.words); ids = omega (arith, h.ids) }

  pub room-one : {m : ℕ} → Room m at n b → 0 < m → (4 * (at + EQUALITY-WORDS) ≤ length b) × (n < DRAWN)
  room-one h l = (omega (arith, h.words), omega (arith, h.ids))

-- what a cut leaves of the room for its tree and more
module _ (place : ℕ) (target : Maybe Term) (k : ℕ) (s : Substitutions) (e : Flat) {b c : List ℕ} {at n : ℕ} {r : Cut}
    (l : Leaves b c at (tree_cut place target k s e n) r) where
  pub room-on : (p : ℕ) → Room (tree_nodes e + p) at n b → Room p r.place.at r.place.next c
  unfolding after
  room-on p h =
      let x : Cutting = tree_cut place target k s e n in
      let i : r.place.at ≡ at + EQUALITY-WORDS * length x.equalities = its-at at x l.1 in
      let j : r.place.next ≡ x.next = its-next at x l.1 in
      let m : length c ≡ length b = ap length l.0 ∙ length-put b at x.equalities in
      let f : length x.equalities ≤ tree_nodes e = cut-few place k s e n target in
      let g : x.next ≤ n + tree_nodes e = cut-ids place k s e n target in
      record { words = omega (arith, h.words); ids = omega (arith, h.ids) }

module _ (e : Flat) {b : List ℕ} {at n : ℕ} (h : Room (tree_nodes e) at n b) where
  module _ {o : InfixOp} {x y : Flat} (p : e ≡ Flat.infixed o x y) where
    size : tree_nodes e ≡ tree_nodes x + (tree_nodes y + 1)
    unfolding tree_nodes
    size = ap tree_nodes p ∙ omega arith

    pub room-first : Room (tree_nodes x) at n b
    room-first = room-less (tree_nodes e) h (omega (arith, size))

    module _ (place k : ℕ) (s : Substitutions) {c : List ℕ} {r : Cut} (l : Leaves b c at (tree_cut place None k s x n) r) where
      rest : Room (tree_nodes y + 1) r.place.at r.place.next c
      rest = room-on place None k s x l (tree_nodes y + 1) (rw size at h)

      pub room-second : Room (tree_nodes y) r.place.at r.place.next c
      room-second = room-less (tree_nodes y + 1) rest (omega arith)

      pub room-third : {d : List ℕ} {q : Cut} → Leaves c d r.place.at (tree_cut place None k s y r.place.next) q
          → (4 * (q.place.at + EQUALITY-WORDS) ≤ length d) × (q.place.next < DRAWN)
      room-third m = room-one (room-on place None k s y m 1 rest) (omega arith)

  module _ {x : Flat} (p : e ≡ Flat.negate x) where
    sized : tree_nodes e ≡ tree_nodes x + 1
    unfolding tree_nodes
    sized = ap tree_nodes p ∙ omega arith

    pub room-negated : Room (tree_nodes x) at n b
    room-negated = room-less (tree_nodes e) h (omega (arith, sized))

    pub room-pushed : (place k : ℕ) (s : Substitutions) {c : List ℕ} {r : Cut} → Leaves b c at (tree_cut place None k s x n) r
        → (4 * (r.place.at + EQUALITY-WORDS) ≤ length c) × (r.place.next < DRAWN)
    room-pushed place k s l = room-one (room-on place None k s x l 1 (rw sized at h)) (omega arith)

  pub room-term : 4 * (at + EQUALITY-WORDS) ≤ length b
  room-term = (room-one h (nodes-some e)).0

-- ---- ways

module _ (place : ℕ) (target : Maybe Term) (k : ℕ) (s : Substitutions) (e : Flat) (b : List ℕ) (at n : ℕ) where
  pub way-infix : {o : InfixOp} {x y : Flat} {c d f : List ℕ} {r1 r2 r : Cut} {l : Term} {q : Written}
      → e ≡ Flat.infixed o x y → Leaves b c at (tree_cut place None k s x n) r1 → Leaves c d r1.place.at (tree_cut place None k s y r1.place.next) r2
      → l ≡ or_variable (option_of target) r2.place.next → q ≡ written_of l (infix_op o r1.term r2.term)
      → (f ≡ set_words d r2.place.at (written_words q place))
      × (r ≡ record { term = q.left; place = record { next = r2.place.next + 1; at = r2.place.at + EQUALITY-WORDS } })
      → Leaves b f at (tree_cut place target k s e n) r
  way-infix {o} {x} {y} {c} {d} {f} {r1} {r2} {r} p l1 l2 lt qt w =
      let X : Cutting = tree_cut place None k s x n in
      let Y : Cutting = tree_cut place None k s y r1.place.next in
      let n1 = its-next at X l1.1 in
      let z : tree_cut place target k s e n ≡ push_at place (option_of target) (X.equalities ++ Y.equalities) r2.place.next (infix_op o r1.term r2.term) =
      cut-infix place target k s n X Y p refl (ap (tree_cut place None k s y) n1)
      ∙ rw (its-term at X l1.1, its-term r1.place.at Y l2.1, its-next r1.place.at Y l2.1) in
      let i : r1.place.at ≡ after at X.equalities = its-at at X l1.1 in
      let body : d ≡ put_equalities b at (X.equalities ++ Y.equalities) =
      l2.0 ∙ ap₂ (λ (u : List ℕ) (v : ℕ). put_equalities u v Y.equalities) l1.0 i ∙ sym (put-append b at X.equalities Y.equalities) in
      let ends : r2.place.at ≡ after at (X.equalities ++ Y.equalities) =
      its-at r1.place.at Y l2.1 ∙ ap (λ (v : ℕ). after v Y.equalities) i ∙ sym (after-append at X.equalities Y.equalities) in
      let g = pushed b at r2.place.next place (option_of target) (X.equalities ++ Y.equalities) (infix_op o r1.term r2.term) lt qt body ends w.0 in
      rw z (g.0, w.1 ∙ g.1)

  pub way-negate : {x : Flat} {c f : List ℕ} {r1 r : Cut} {l : Term} {q : Written} → e ≡ Flat.negate x
      → Leaves b c at (tree_cut place None k s x n) r1 → l ≡ or_variable (option_of target) r1.place.next → q ≡ written_of l (Side.negate r1.term)
      → (f ≡ set_words c r1.place.at (written_words q place))
      × (r ≡ record { term = q.left; place = record { next = r1.place.next + 1; at = r1.place.at + EQUALITY-WORDS } })
      → Leaves b f at (tree_cut place target k s e n) r
  way-negate {x} {c} {f} {r1} {r} p l1 lt qt w =
      let X : Cutting = tree_cut place None k s x n in
      let z : tree_cut place target k s e n ≡ push_at place (option_of target) X.equalities r1.place.next (Side.negate r1.term) =
      cut-negate place target k s n X p refl ∙ rw (its-term at X l1.1, its-next at X l1.1) in
      let g = pushed b at r1.place.next place (option_of target) X.equalities (Side.negate r1.term) lt qt l1.0 (its-at at X l1.1) w.0 in
      rw z (g.0, w.1 ∙ g.1)

  pub way-constant : {z w : ℤ} {c : List ℕ} {r : Cut} → e ≡ Flat.constant z → w ≡ z
      → Leaves b c at (placed_cut place (copied (option_of target) (Term.Constant w) n)) r
      → Leaves b c at (tree_cut place target k s e n) r
  way-constant p q l = rw (cut-constant place target k s n p, ← q) l

  pub way-variable : {v : ℕ} {t : Term} {c : List ℕ} {r : Cut} → e ≡ Flat.variable v → t ≡ walk k s (Term.Variable v)
      → Leaves b c at (placed_cut place (copied (option_of target) t n)) r → Leaves b c at (tree_cut place target k s e n) r
  way-variable p q l = rw (cut-variable place target k s n p, ← q) l
