-- The constraint list of each case of evaluation (whose module stands with it there), as the Rust's four passes make it.
use mathlib.Core.Path.{◌≡◌, refl}
use mathlib.Core.List.{List, [], ◌∷◌}
use Prim.Native.Nat.{ℕ}
use lib.IntN.{ℤ, pos, negsuc}
use Rattle.field.specs.declared.InfixOp.TheVariants.{Divide, DivideZ, Multiply, Add, Subtract, IntDivide, Modulo}
use Rattle.flat.specs.Trees.{Flat, Definition}
use Rattle.flat.specs.Meaning.{update}
use Rattle.constraint.specs.declared.Term.{Term}
use Rattle.constraint.specs.Trees.{at_place, Side, Equality}
use Rattle.pass_trees.specs.Passes
use Rattle.pass_trees.specs.Passes.{Outcome, cut, refused}
use Rattle.eval_trees.proofs.Compute.{answer_of}
use Rattle.eval_trees.proofs.Cases.{Case, cases}
use Rattle.flat.specs.Places.{bare_definitions}
use Rattle.pass_trees.specs.Statements.{bare_cut, bare_outcome}
use Rattle.agreement.specs.Flattened.{passed, flattened_of}

abbrev v : ℕ → Term
v i = Term.Variable i

abbrev k : ℤ → Term
k n = Term.Constant n

abbrev ◌becomes◌ : Term → Side → Equality
t becomes s = record { left = t; right = s; place = 0 }

abbrev ◌is◌ : ℕ → Flat → Definition
i is e = record { id = i; right = e; place = 0 }

infix 70 ◌becomes◌
infix 70 ◌is◌
-- (def r (match (seq (= a b) (let t (* a b) t)) (x (+ x 1))))
-- (= r 5)
abbrev doubled-match : Outcome
doubled-match = cut (record {
  next = 19;
  publics = [];
  provers = [];
  equalities =
      v 15 becomes Side.infixed Multiply (v 9) (v 10) ∷ v 16 becomes Side.infixed Add (v 15) (k (pos 1)) ∷ v 9 becomes Side.copy (v 10)
      ∷ v 9 becomes Side.copy (v 10) ∷ v 16 becomes Side.copy (k (pos 5)) ∷ [];
  kept = [];
})

-- (def y (/ 1 x))
-- (def z (/ 2 x))
-- (= z 7)
abbrev unused-division : Outcome
unused-division = cut (record {
  next = 15;
  publics = [];
  provers = [];
  equalities = v 13 becomes Side.infixed Divide (k (pos 2)) (v 9) ∷ v 13 becomes Side.copy (k (pos 7)) ∷ [];
  kept = [];
})

-- (pub y)
-- (def w (app fresh (+ x 1)))
-- (def u (app fresh (* y 3)))
-- (= (* w w) y)
abbrev fresh : Outcome
fresh = cut (record {
  next = 21;
  publics = 9 ∷ [];
  provers = 10 ∷ 14 ∷ 15 ∷ 18 ∷ [];
  equalities = v 19 becomes Side.infixed Multiply (v 15) (v 15) ∷ v 19 becomes Side.copy (v 9) ∷ [];
  kept = 14 is Flat.infixed Add (Flat.variable 10) (Flat.constant (pos 1)) ∷ 15 is Flat.variable 14 ∷ [];
})

-- (def (, a (, unit b)) (app fresh (, x (, unit (, y nil)))))
-- (= a 1)
abbrev fresh-pair : Outcome
fresh-pair = cut (record {
  next = 29;
  publics = [];
  provers = 9 ∷ 20 ∷ 21 ∷ 22 ∷ 23 ∷ 24 ∷ 25 ∷ 26 ∷ [];
  equalities = v 21 becomes Side.copy (k (pos 1)) ∷ [];
  kept = 21 is Flat.variable 9 ∷ [];
})

-- (def f (fun (x) (* x x)))
-- (= (app iter 3 f a) b)
-- (= (app iter -128 f a) b)
abbrev iter3 : Outcome
iter3 = cut (record {
  next = 34;
  publics = [];
  provers = [];
  equalities =
      v 22 becomes Side.infixed Multiply (v 11) (v 11) ∷ v 23 becomes Side.infixed Multiply (v 22) (v 22) ∷ v 24 becomes Side.infixed Multiply (v 23) (v 23)
      ∷ v 24 becomes Side.copy (v 12) ∷ v 11 becomes Side.copy (v 12) ∷ [];
  kept = [];
})

-- (= (app fold (list p q 7) (fun (e acc) (+ e (* 2 acc))) z) r)
-- (= (app fold nil (fun (e acc) (+ e acc)) z) r)
abbrev fold : Outcome
fold = cut (record {
  next = 58;
  publics = [];
  provers = [];
  equalities =
      v 39 becomes Side.infixed Multiply (k (pos 2)) (v 13) ∷ v 40 becomes Side.infixed Add (k (pos 7)) (v 39)
      ∷ v 41 becomes Side.infixed Multiply (k (pos 2)) (v 40) ∷ v 42 becomes Side.infixed Add (v 10) (v 41)
      ∷ v 43 becomes Side.infixed Multiply (k (pos 2)) (v 42) ∷ v 44 becomes Side.infixed Add (v 9) (v 43) ∷ v 44 becomes Side.copy (v 14)
      ∷ v 13 becomes Side.copy (v 14) ∷ [];
  kept = [];
})

-- (pub x d d)
-- (def y (+ x 1))
-- (def x (* y 2))
-- (= x d)
abbrev public-defined : Outcome
public-defined = cut (record {
  next = 17;
  publics = 9 ∷ 10 ∷ 10 ∷ [];
  provers = [];
  equalities = v 13 becomes Side.infixed Add (v 9) (k (pos 1)) ∷ v 14 becomes Side.infixed Multiply (v 13) (k (pos 2)) ∷ v 14 becomes Side.copy (v 10) ∷ [];
  kept = [];
})

-- (def f (fun (x y) (fun (z) (+ x (+ y z)))))
-- (def g (app f 10 20))
-- (= (app g 1) r)
abbrev lost-closure : Outcome
lost-closure = cut (record {
  next = 23;
  publics = [];
  provers = [];
  equalities = v 15 becomes Side.copy (k (pos 10)) ∷ v 21 becomes Side.infixed Add (k (pos 10)) (k (pos 21)) ∷ v 21 becomes Side.copy (v 14) ∷ [];
  kept = [];
})

-- (def h (fun (x y) (fun (z) (match x ((, a b) (+ a b))))))
-- (def k (app h (, 5 6) 7))
-- (= (app k 1) s)
abbrev lost-closure-opened : Outcome
lost-closure-opened = cut (record {
  next = 35;
  publics = [];
  provers = [];
  equalities = v 33 becomes Side.infixed Add (v 31) (v 32) ∷ v 33 becomes Side.copy (v 16) ∷ [];
  kept = [];
})

-- (def h (fun (x) (fun (y) (fun (z) (match x ((, a b) (+ a b)))))))
-- (def k (app h (, 5 6) 7))
-- (= (app k 1) s)
abbrev lost-closure-nested : Outcome
lost-closure-nested = cut (record {
  next = 35;
  publics = [];
  provers = [];
  equalities = v 33 becomes Side.infixed Add (v 31) (v 32) ∷ v 33 becomes Side.copy (v 16) ∷ [];
  kept = [];
})

-- (def h (fun (x) (fun (z) (match x ((, a b) (+ a b))))))
-- (= (app h (, 5 6) 1) s)
-- (def k (let x (, 5 6) (app (fun (y) (fun (z) (match x ((, a b) (+ a b))))) 7)))
-- (= (app k 1) s)
abbrev closure-kept : Outcome
closure-kept =
    cut
    (record { next = 39; publics = []; provers = []; equalities = v 20 becomes Side.copy (k (pos 11)) ∷ v 20 becomes Side.copy (k (pos 11)) ∷ []; kept = [] })

-- (def s (match P ((, a b) (+ a b))))
-- (def t (match P ((, a b) (* a b))))
-- (= s t)
-- (= P (, 1 2))
abbrev pair-input : Outcome
pair-input = cut (record {
  next = 22;
  publics = [];
  provers = [];
  equalities =
      v 18 becomes Side.infixed Add (v 16) (v 17) ∷ v 19 becomes Side.infixed Multiply (v 16) (v 17) ∷ v 18 becomes Side.copy (v 19)
      ∷ v 16 becomes Side.copy (k (pos 1)) ∷ v 17 becomes Side.copy (k (pos 2)) ∷ [];
  kept = [];
})

-- (def 5 6)
-- (def 2147483647 0)
-- (def -2147483648 x)
-- (= 3 3)
abbrev constant-patterns : Outcome
constant-patterns = cut (record {
  next = 10;
  publics = [];
  provers = [];
  equalities = k (pos 5) becomes Side.copy (k (pos 6)) ∷ k (pos 2147483647) becomes Side.copy (k (pos 0)) ∷ v 9 becomes Side.copy (k (negsuc 2147483647)) ∷ [];
  kept = [];
})

-- (= (match 2147483647 (2147483647 1) (0 2)) x)
abbrev unreduced-arm : Outcome
unreduced-arm = cut (record { next = 10; publics = []; provers = []; equalities = v 9 becomes Side.copy (k (pos 2)) ∷ []; kept = [] })

-- (= (^ x 0) a0)
-- (= (^ x 1) a1)
-- (= (^ x 2) a2)
-- (= (^ x 3) a3)
-- (= (^ x 5) a5)
-- (= (^ x -1) b1)
-- (= (^ x -2) b2)
-- (= (^ (neg x) -1) b3)
-- (= (^ (neg x) 2) b4)
-- (= (^ x 2147483646) b5)
abbrev powers : Outcome
powers = cut (record {
  next = 47;
  publics = [];
  provers = [];
  equalities =
      v 20 becomes Side.infixed Multiply (v 9) (v 9) ∷ v 21 becomes Side.infixed Multiply (v 9) (v 9) ∷ v 22 becomes Side.infixed Multiply (v 21) (v 9)
      ∷ v 23 becomes Side.infixed Multiply (v 9) (v 9) ∷ v 24 becomes Side.infixed Multiply (v 23) (v 23) ∷ v 25 becomes Side.infixed Multiply (v 24) (v 9)
      ∷ v 26 becomes Side.infixed Divide (k (pos 1)) (v 9) ∷ v 27 becomes Side.infixed Multiply (v 9) (v 9)
      ∷ v 28 becomes Side.infixed Divide (k (pos 1)) (v 27) ∷ v 41 becomes Side.negate (v 9) ∷ v 29 becomes Side.infixed Divide (k (pos 1)) (v 41)
      ∷ v 43 becomes Side.negate (v 9) ∷ v 44 becomes Side.negate (v 9) ∷ v 30 becomes Side.infixed Multiply (v 43) (v 44)
      ∷ v 31 becomes Side.infixed Divide (k (pos 1)) (v 9) ∷ v 10 becomes Side.copy (k (pos 1)) ∷ v 9 becomes Side.copy (v 11) ∷ v 20 becomes Side.copy (v 12)
      ∷ v 22 becomes Side.copy (v 13) ∷ v 25 becomes Side.copy (v 14) ∷ v 26 becomes Side.copy (v 15) ∷ v 28 becomes Side.copy (v 16)
      ∷ v 29 becomes Side.copy (v 17) ∷ v 30 becomes Side.copy (v 18) ∷ v 31 becomes Side.copy (v 19) ∷ [];
  kept = [];
})

-- (= (* x 1) r1)
-- (= (* 1 x) r2)
-- (= (* x 0) r3)
-- (= (/ x 1) r4)
-- (= (| x 1) r5)
-- (= (| 0 x) r6)
-- (= (\ x 1) r7)
-- (= (% x 1) r8)
-- (= (+ x 0) r9)
-- (= (+ 0 x) r10)
-- (= (- x 0) r11)
-- (= (/ 0 x) s1)
-- (= (- 0 x) s2)
-- (= (- x x) s3)
-- (= (| x 0) s4)
-- (= (% x x) s5)
-- (= (* x -1) s6)
abbrev infix-op : Outcome
infix-op = cut (record {
  next = 50;
  publics = [];
  provers = [];
  equalities =
      v 27 becomes Side.copy (v 9) ∷ v 28 becomes Side.copy (v 9) ∷ v 29 becomes Side.copy (k (pos 0)) ∷ v 30 becomes Side.copy (v 9)
      ∷ v 31 becomes Side.copy (v 9) ∷ v 32 becomes Side.copy (k (pos 0)) ∷ v 33 becomes Side.copy (v 9) ∷ v 34 becomes Side.copy (k (pos 0))
      ∷ v 35 becomes Side.copy (v 9) ∷ v 36 becomes Side.copy (v 9) ∷ v 37 becomes Side.copy (v 9) ∷ v 38 becomes Side.infixed Divide (k (pos 0)) (v 9)
      ∷ v 39 becomes Side.infixed Subtract (k (pos 0)) (v 9) ∷ v 40 becomes Side.infixed Subtract (v 9) (v 9)
      ∷ v 41 becomes Side.infixed DivideZ (v 9) (k (pos 0)) ∷ v 42 becomes Side.infixed Modulo (v 9) (v 9)
      ∷ v 43 becomes Side.infixed Multiply (v 9) (k (negsuc 0)) ∷ v 9 becomes Side.copy (v 10) ∷ v 9 becomes Side.copy (v 11)
      ∷ v 12 becomes Side.copy (k (pos 0)) ∷ v 9 becomes Side.copy (v 13) ∷ v 9 becomes Side.copy (v 14) ∷ v 15 becomes Side.copy (k (pos 0))
      ∷ v 9 becomes Side.copy (v 16) ∷ v 17 becomes Side.copy (k (pos 0)) ∷ v 9 becomes Side.copy (v 18) ∷ v 9 becomes Side.copy (v 19)
      ∷ v 9 becomes Side.copy (v 20) ∷ v 38 becomes Side.copy (v 21) ∷ v 39 becomes Side.copy (v 22) ∷ v 40 becomes Side.copy (v 23)
      ∷ v 41 becomes Side.copy (v 24) ∷ v 42 becomes Side.copy (v 25) ∷ v 43 becomes Side.copy (v 26) ∷ [];
  kept = [];
})

-- (def a x)
-- (def b a)
-- (def c (app (fun (p) p) b))
-- (= c y)
-- (= (let t x t) x)
abbrev copies : Outcome
copies = cut (record { next = 17; publics = []; provers = []; equalities = v 9 becomes Side.copy (v 14) ∷ []; kept = [] })

-- (def r (match (, 1 P) ((, 2 (, a b)) a) ((, 1 c) 7)))
-- (= P (, r 4))
abbrev failing-arm-opens : Outcome
failing-arm-opens =
    cut
    (record { next = 18; publics = []; provers = []; equalities = v 14 becomes Side.copy (k (pos 7)) ∷ v 15 becomes Side.copy (k (pos 4)) ∷ []; kept = [] })

-- (def r (match (seq (= (app (let t (* a b) (fun (y w) (fun (z) t))) 1 2 3) q)
--                    (app (let t (* a b) (fun (y w) (fun (z) (+ t z)))) 1 2 5)) (x x)))
-- (= r s)
abbrev doubled-lost-closure : Outcome
doubled-lost-closure = cut (record {
  next = 58;
  publics = [];
  provers = [];
  equalities =
      v 23 becomes Side.infixed Multiply (v 9) (v 10) ∷ v 11 becomes Side.copy (v 23) ∷ v 30 becomes Side.infixed Multiply (v 9) (v 10)
      ∷ v 16 becomes Side.copy (v 30) ∷ v 38 becomes Side.infixed Multiply (v 9) (v 10) ∷ v 11 becomes Side.copy (v 38)
      ∷ v 45 becomes Side.infixed Multiply (v 9) (v 10) ∷ v 16 becomes Side.copy (v 45) ∷ v 52 becomes Side.infixed Add (v 45) (k (pos 5))
      ∷ v 38 becomes Side.copy (v 15) ∷ v 38 becomes Side.copy (v 15) ∷ v 52 becomes Side.copy (v 22) ∷ [];
  kept = [];
})

-- (def r (match (app (let t (neg a) (fun (y w) (fun (z) (+ t z)))) 1 2 5) (x x)))
-- (= r s)
abbrev doubled-negation : Outcome
doubled-negation = cut (record {
  next = 34;
  publics = [];
  provers = [];
  equalities =
      v 10 becomes Side.negate (v 9) ∷ v 10 becomes Side.negate (v 9) ∷ v 30 becomes Side.infixed Add (v 10) (k (pos 5)) ∷ v 30 becomes Side.copy (v 16) ∷ [];
  kept = [];
})

-- (def f (fun (x y z) (let t (* x y) (+ t z))))
-- (= (app f a b c) d)
abbrev refresh-ids : Outcome
refresh-ids = cut (record {
  next = 31;
  publics = [];
  provers = [];
  equalities = v 27 becomes Side.infixed Multiply (v 14) (v 15) ∷ v 28 becomes Side.infixed Add (v 27) (v 16) ∷ v 28 becomes Side.copy (v 17) ∷ [];
  kept = [];
})

-- (def f (fun (x) (+ x 1)))
-- (= (app f (app f a)) b)
abbrev outer-first : Outcome
outer-first = cut (record {
  next = 19;
  publics = [];
  provers = [];
  equalities = v 15 becomes Side.infixed Add (v 11) (k (pos 1)) ∷ v 16 becomes Side.infixed Add (v 15) (k (pos 1)) ∷ v 16 becomes Side.copy (v 12) ∷ [];
  kept = [];
})

-- (def p (, (, x y) (, z (list u v))))
-- (= p p)
abbrev expanded-pattern : Outcome
expanded-pattern = cut (record { next = 25; publics = []; provers = []; equalities = []; kept = [] })

-- (pub fresh fold iter)
-- (def iter (fun (n) (* n n)))
-- (= (app iter a) b)
abbrev public-intrinsic-and-shadow : Outcome
public-intrinsic-and-shadow = cut (record {
  next = 16;
  publics = 0 ∷ 5 ∷ 2 ∷ [];
  provers = [];
  equalities = v 14 becomes Side.infixed Multiply (v 11) (v 11) ∷ v 14 becomes Side.copy (v 12) ∷ [];
  kept = [];
})

-- (def n 3)
-- (def k (* a b))
-- (def m (+ k n))
-- (def w (app fresh (\ m n)))
-- (= w k)
abbrev witness-chain : Outcome
witness-chain = cut (record {
  next = 21;
  publics = [];
  provers = 16 ∷ 18 ∷ 19 ∷ [];
  equalities = v 15 becomes Side.infixed Multiply (v 10) (v 11) ∷ v 19 becomes Side.copy (v 15) ∷ [];
  kept =
      16 is Flat.infixed Add (Flat.variable 15) (Flat.constant (pos 3)) ∷ 18 is Flat.infixed IntDivide (Flat.variable 16) (Flat.constant (pos 3))
      ∷ 19 is Flat.variable 18 ∷ [];
})

-- (def r (match (app (let t (* a b) (fun (y w) (fun (z) (+ t z)))) 1 2 5) (x (app fresh x))))
-- (= r s)
abbrev kept-twice : Outcome
kept-twice = cut (record {
  next = 36;
  publics = [];
  provers = 9 ∷ 10 ∷ 11 ∷ 18 ∷ 26 ∷ 33 ∷ 35 ∷ [];
  equalities = v 35 becomes Side.copy (v 17) ∷ [];
  kept =
      18 is Flat.infixed Multiply (Flat.variable 9) (Flat.variable 10) ∷ 11 is Flat.variable 18
      ∷ 26 is Flat.infixed Multiply (Flat.variable 9) (Flat.variable 10) ∷ 11 is Flat.variable 26
      ∷ 33 is Flat.infixed Add (Flat.variable 11) (Flat.constant (pos 5)) ∷ 35 is Flat.variable 33 ∷ [];
})

-- (def f (app fresh (fun (x) (+ x 1))))
-- (= a b)
abbrev fresh-function : Outcome
fresh-function = cut (record { next = 15; publics = []; provers = 14 ∷ []; equalities = v 11 becomes Side.copy (v 12) ∷ []; kept = [] })

-- (def u (app fresh unit))
-- (def n (app fresh nil))
-- (def l (app fresh (list 1 x)))
-- (= l (list a b))
abbrev fresh-nothing : Outcome
fresh-nothing = cut (record {
  next = 33;
  publics = [];
  provers = 11 ∷ 16 ∷ 18 ∷ 24 ∷ 25 ∷ 26 ∷ 27 ∷ 28 ∷ [];
  equalities = v 25 becomes Side.copy (v 13) ∷ v 27 becomes Side.copy (v 14) ∷ [];
  kept = 25 is Flat.constant (pos 1) ∷ 27 is Flat.variable 11 ∷ [];
})

-- (def f (fun (x) (app fresh x)))
-- (= (* (app f a) (app f b)) c)
abbrev fresh-twice : Outcome
fresh-twice = cut (record {
  next = 22;
  publics = [];
  provers = 11 ∷ 12 ∷ 16 ∷ 19 ∷ [];
  equalities = v 20 becomes Side.infixed Multiply (v 16) (v 19) ∷ v 20 becomes Side.copy (v 13) ∷ [];
  kept = 16 is Flat.variable 11 ∷ 19 is Flat.variable 12 ∷ [];
})

-- (def f (fun (x) (* x x)))
-- (= (app iter 0 f a) b)
-- (= (app iter 1 f a) b)
abbrev iter-0-and-1 : Outcome
iter-0-and-1 = cut (record {
  next = 28;
  publics = [];
  provers = [];
  equalities = v 26 becomes Side.infixed Multiply (v 11) (v 11) ∷ v 11 becomes Side.copy (v 12) ∷ v 26 becomes Side.copy (v 12) ∷ [];
  kept = [];
})

-- (= (app iter -2147483645 (fun (x) (+ x y)) a) b)
abbrev iter-canonical : Outcome
iter-canonical = cut (record {
  next = 25;
  publics = [];
  provers = [];
  equalities = v 21 becomes Side.infixed Add (v 11) (v 10) ∷ v 22 becomes Side.infixed Add (v 21) (v 10) ∷ v 22 becomes Side.copy (v 12) ∷ [];
  kept = [];
})

-- (= (app fold (list (fun (x) (+ x 1)) (fun (x) (* x y))) (fun (f acc) (app f acc)) a) b)
abbrev fold-closures : Outcome
fold-closures = cut (record {
  next = 43;
  publics = [];
  provers = [];
  equalities = v 38 becomes Side.infixed Multiply (v 14) (v 11) ∷ v 40 becomes Side.infixed Add (v 38) (k (pos 1)) ∷ v 40 becomes Side.copy (v 15) ∷ [];
  kept = [];
})

-- (= (app fold (list (, 1 x) (, 2 y)) (fun ((, i e) acc) (+ (* i e) acc)) 0) r)
abbrev fold-pairs : Outcome
fold-pairs = cut (record {
  next = 44;
  publics = [];
  provers = [];
  equalities =
      v 38 becomes Side.infixed Multiply (k (pos 2)) (v 10) ∷ v 39 becomes Side.copy (v 38) ∷ v 40 becomes Side.copy (v 9)
      ∷ v 41 becomes Side.infixed Add (v 9) (v 38) ∷ v 41 becomes Side.copy (v 14) ∷ [];
  kept = [];
})

-- (def f (fun (x y) (- x y)))
-- (def g (app f 1))
-- (= (app g 2) (app f a b))
-- (= (app g c) 3)
abbrev currying : Outcome
currying = cut (record {
  next = 27;
  publics = [];
  provers = [];
  equalities =
      v 22 becomes Side.infixed Subtract (v 13) (v 14) ∷ v 24 becomes Side.infixed Subtract (k (pos 1)) (v 15) ∷ v 22 becomes Side.copy (k (negsuc 0))
      ∷ v 24 becomes Side.copy (k (pos 3)) ∷ [];
  kept = [];
})

-- (def x (+ x 1))
-- (def x (* x x))
-- (= (let x (+ x y) (let y (* x x) (app (fun (x) (- x y)) 4))) x)
abbrev shadowing : Outcome
shadowing = cut (record {
  next = 27;
  publics = [];
  provers = [];
  equalities =
      v 16 becomes Side.infixed Add (v 9) (k (pos 1)) ∷ v 17 becomes Side.infixed Multiply (v 16) (v 16) ∷ v 18 becomes Side.infixed Add (v 17) (v 12)
      ∷ v 19 becomes Side.infixed Multiply (v 18) (v 18) ∷ v 21 becomes Side.infixed Subtract (k (pos 4)) (v 19) ∷ v 21 becomes Side.copy (v 17) ∷ [];
  kept = [];
})

-- (= (let x (+ x 1) x) y)
abbrev let-sees-outer : Outcome
let-sees-outer = cut (record {
  next = 14;
  publics = [];
  provers = [];
  equalities = v 12 becomes Side.infixed Add (v 9) (k (pos 1)) ∷ v 12 becomes Side.copy (v 11) ∷ [];
  kept = [];
})

-- (def (as (, a (as b c)) p) (, 1 x))
-- (= p (, y z))
-- (= (match p ((as (, 1 q) r) (let (, s t) r (+ s (* t q))))) (+ c a))
abbrev as-patterns : Outcome
as-patterns = cut (record {
  next = 26;
  publics = [];
  provers = [];
  equalities =
      v 20 becomes Side.infixed Multiply (v 9) (v 9) ∷ v 21 becomes Side.infixed Add (k (pos 1)) (v 20) ∷ v 22 becomes Side.infixed Add (v 9) (k (pos 1))
      ∷ v 14 becomes Side.copy (k (pos 1)) ∷ v 9 becomes Side.copy (v 15) ∷ v 21 becomes Side.copy (v 22) ∷ [];
  kept = [];
})

-- (= (match (list 1 2 x) ((: 1 (: 3 t)) 0) ((: h (: 2 (: e nil))) (+ h e))) y)
abbrev match-list : Outcome
match-list = cut (record {
  next = 16;
  publics = [];
  provers = [];
  equalities = v 14 becomes Side.infixed Add (k (pos 1)) (v 9) ∷ v 14 becomes Side.copy (v 13) ∷ [];
  kept = [];
})

-- (def f (fun (s) (match s (0 a) (1 b) (n (* n c)))))
-- (= (app f 0) (app f 1))
-- (= (app f 7) 2)
abbrev match-arms : Outcome
match-arms = cut (record {
  next = 23;
  publics = [];
  provers = [];
  equalities = v 21 becomes Side.infixed Multiply (k (pos 7)) (v 13) ∷ v 10 becomes Side.copy (v 11) ∷ v 21 becomes Side.copy (k (pos 2)) ∷ [];
  kept = [];
})

-- (= (match (, (fun (x) (+ x 1)) a) ((, f e) (app f e))) b)
abbrev match-function : Outcome
match-function = cut (record {
  next = 17;
  publics = [];
  provers = [];
  equalities = v 15 becomes Side.infixed Add (v 10) (k (pos 1)) ∷ v 15 becomes Side.copy (v 13) ∷ [];
  kept = [];
})

-- (seq (= a b) (= c d))
-- (+ a b)
-- (, (= a 1) (= b 2))
-- (def s (seq (= a c) (* a c)))
-- (= (let t (* s s) (seq (= t 1) (let u (+ t 1) u))) d)
-- (= unit (= a b))
abbrev sequences : Outcome
sequences = cut (record {
  next = 23;
  publics = [];
  provers = [];
  equalities =
      v 16 becomes Side.infixed Multiply (v 9) (v 10) ∷ v 18 becomes Side.infixed Multiply (v 16) (v 16) ∷ v 19 becomes Side.infixed Add (v 18) (k (pos 1))
      ∷ v 9 becomes Side.copy (v 10) ∷ v 9 becomes Side.copy (v 12) ∷ v 10 becomes Side.copy (v 13) ∷ v 9 becomes Side.copy (k (pos 1))
      ∷ v 12 becomes Side.copy (k (pos 2)) ∷ v 18 becomes Side.copy (k (pos 1)) ∷ v 19 becomes Side.copy (v 13) ∷ v 9 becomes Side.copy (v 12) ∷ [];
  kept = [];
})

-- (= (, a (: b nil)) (, c (: 1 nil)))
-- (= unit unit)
-- (= nil nil)
-- (= (neg a) (neg (neg b)))
abbrev equality-of-shapes : Outcome
equality-of-shapes = cut (record {
  next = 15;
  publics = [];
  provers = [];
  equalities =
      v 9 becomes Side.copy (v 11) ∷ v 10 becomes Side.copy (k (pos 1)) ∷ v 12 becomes Side.negate (v 9) ∷ v 13 becomes Side.negate (v 10)
      ∷ v 14 becomes Side.negate (v 13) ∷ v 12 becomes Side.copy (v 14) ∷ [];
  kept = [];
})

-- (= (/ 1 2) a)
-- (= (| 0 0) a)
-- (= (* 65536 65536) a)
-- (= (+ 1073741823 1) a)
-- (= (- -1073741823 1) a)
-- (= (^ 3 5) a)
-- (= (^ 2 -1) a)
-- (= (^ 0 0) a)
-- (= (\ -7 2) a)
-- (= (% -7 2) a)
-- (= (neg 1073741824) a)
abbrev constants : Outcome
constants = cut (record {
  next = 10;
  publics = [];
  provers = [];
  equalities =
      v 9 becomes Side.copy (k (negsuc 1073741822)) ∷ v 9 becomes Side.copy (k (pos 0)) ∷ v 9 becomes Side.copy (k (pos 2))
      ∷ v 9 becomes Side.copy (k (negsuc 1073741822)) ∷ v 9 becomes Side.copy (k (pos 1073741823)) ∷ v 9 becomes Side.copy (k (pos 243))
      ∷ v 9 becomes Side.copy (k (negsuc 1073741822)) ∷ v 9 becomes Side.copy (k (pos 1)) ∷ v 9 becomes Side.copy (k (negsuc 3))
      ∷ v 9 becomes Side.copy (k (pos 1)) ∷ v 9 becomes Side.copy (k (pos 1073741823)) ∷ [];
  kept = [];
})

-- (= (/ x y) a)
-- (= (| x y) a)
-- (= (* x y) a)
-- (= (+ x y) a)
-- (= (- x y) a)
-- (= (\ x y) a)
-- (= (% x y) a)
-- (= (/ 2 y) a)
-- (= (% x 2) a)
-- (= (neg (neg x)) a)
abbrev operators : Outcome
operators = cut (record {
  next = 32;
  publics = [];
  provers = [];
  equalities =
      v 12 becomes Side.infixed Divide (v 9) (v 10) ∷ v 13 becomes Side.infixed DivideZ (v 9) (v 10) ∷ v 14 becomes Side.infixed Multiply (v 9) (v 10)
      ∷ v 15 becomes Side.infixed Add (v 9) (v 10) ∷ v 16 becomes Side.infixed Subtract (v 9) (v 10) ∷ v 17 becomes Side.infixed IntDivide (v 9) (v 10)
      ∷ v 18 becomes Side.infixed Modulo (v 9) (v 10) ∷ v 19 becomes Side.infixed Divide (k (pos 2)) (v 10)
      ∷ v 20 becomes Side.infixed Modulo (v 9) (k (pos 2)) ∷ v 12 becomes Side.copy (v 11) ∷ v 13 becomes Side.copy (v 11) ∷ v 14 becomes Side.copy (v 11)
      ∷ v 15 becomes Side.copy (v 11) ∷ v 16 becomes Side.copy (v 11) ∷ v 17 becomes Side.copy (v 11) ∷ v 18 becomes Side.copy (v 11)
      ∷ v 19 becomes Side.copy (v 11) ∷ v 20 becomes Side.copy (v 11) ∷ v 30 becomes Side.negate (v 9) ∷ v 11 becomes Side.negate (v 30) ∷ [];
  kept = [];
})

-- (= (* 0 x) a)
-- (= (* x 0) a)
-- (= (* 1 0) a)
-- (= (| 1 x) a)
-- (= (% 1 x) a)
-- (= (\ 0 x) a)
-- (= (* (neg x) 1) a)
-- (= (+ (neg x) 0) a)
abbrev more-simplifications : Outcome
more-simplifications = cut (record {
  next = 23;
  publics = [];
  provers = [];
  equalities =
      v 11 becomes Side.copy (k (pos 0)) ∷ v 12 becomes Side.copy (k (pos 0)) ∷ v 13 becomes Side.infixed DivideZ (k (pos 1)) (v 9)
      ∷ v 14 becomes Side.infixed Modulo (k (pos 1)) (v 9) ∷ v 15 becomes Side.infixed IntDivide (k (pos 0)) (v 9) ∷ v 16 becomes Side.negate (v 9)
      ∷ v 17 becomes Side.negate (v 9) ∷ v 10 becomes Side.copy (k (pos 0)) ∷ v 10 becomes Side.copy (k (pos 0)) ∷ v 10 becomes Side.copy (k (pos 0))
      ∷ v 13 becomes Side.copy (v 10) ∷ v 14 becomes Side.copy (v 10) ∷ v 15 becomes Side.copy (v 10) ∷ v 16 becomes Side.copy (v 10)
      ∷ v 17 becomes Side.copy (v 10) ∷ [];
  kept = [];
})

-- (def twice (fun (f x) (app f (app f x))))
-- (def k (fun (c) (fun (x) (+ x c))))
-- (= (app twice (app k a) b) d)
-- (= (app twice (app k 1) 5) d)
abbrev higher-order : Outcome
higher-order = cut (record {
  next = 36;
  publics = [];
  provers = [];
  equalities =
      v 25 becomes Side.infixed Add (v 16) (v 15) ∷ v 26 becomes Side.infixed Add (v 25) (v 15) ∷ v 26 becomes Side.copy (v 17)
      ∷ v 17 becomes Side.copy (k (pos 7)) ∷ [];
  kept = [];
})

-- (def f (let t (* a b) (fun (x) (+ x t))))
-- (= (app f 1) (app f c))
abbrev closure-captures-let : Outcome
closure-captures-let = cut (record {
  next = 23;
  publics = [];
  provers = [];
  equalities =
      v 15 becomes Side.infixed Multiply (v 9) (v 10) ∷ v 17 becomes Side.infixed Add (k (pos 1)) (v 15) ∷ v 19 becomes Side.infixed Add (v 14) (v 15)
      ∷ v 17 becomes Side.copy (v 19) ∷ [];
  kept = [];
})

-- (def p (let t (* a b) (, (fun (x) (+ x t)) t)))
-- (= (match p ((, f s) (app f s))) c)
abbrev closure-in-pair : Outcome
closure-in-pair = cut (record {
  next = 24;
  publics = [];
  provers = [];
  equalities = v 17 becomes Side.infixed Multiply (v 9) (v 10) ∷ v 21 becomes Side.infixed Add (v 17) (v 17) ∷ v 21 becomes Side.copy (v 16) ∷ [];
  kept = [];
})

-- (def f (fun ((, a (: b nil))) (+ a b)))
-- (= (app f (, x (list 2))) y)
abbrev parameter-pair : Outcome
parameter-pair = cut (record {
  next = 18;
  publics = [];
  provers = [];
  equalities = v 16 becomes Side.infixed Add (v 12) (k (pos 2)) ∷ v 16 becomes Side.copy (v 13) ∷ [];
  kept = [];
})

-- (def f (fun (p) (fun (q) (match p ((, a b) (+ a (* b q)))))))
-- (= (app f (, x 3) y) z)
abbrev parameter-expanded : Outcome
parameter-expanded = cut (record {
  next = 30;
  publics = [];
  provers = [];
  equalities = v 26 becomes Side.infixed Multiply (k (pos 3)) (v 15) ∷ v 27 becomes Side.infixed Add (v 14) (v 26) ∷ v 27 becomes Side.copy (v 16) ∷ [];
  kept = [];
})

-- (def f (fun (3 x) x))
-- (= (app f a b) c)
-- (= (app f 4 b) c)
abbrev constant-parameter : Outcome
constant-parameter = cut (record {
  next = 18;
  publics = [];
  provers = [];
  equalities =
      v 11 becomes Side.copy (k (pos 3)) ∷ v 12 becomes Side.copy (v 13) ∷ k (pos 3) becomes Side.copy (k (pos 4)) ∷ v 12 becomes Side.copy (v 13) ∷ [];
  kept = [];
})

-- (= (match L ((: h t) (+ h 1))) a)
-- (= (match L ((: h t) (* h 2))) b)
abbrev split-list-input : Outcome
split-list-input = cut (record {
  next = 22;
  publics = [];
  provers = [];
  equalities =
      v 18 becomes Side.infixed Add (v 16) (k (pos 1)) ∷ v 19 becomes Side.infixed Multiply (v 16) (k (pos 2)) ∷ v 18 becomes Side.copy (v 12)
      ∷ v 19 becomes Side.copy (v 15) ∷ [];
  kept = [];
})

-- (pub x x y)
-- (def y (+ x 1))
-- (= y 2)
abbrev public-twice : Outcome
public-twice = cut (record {
  next = 14;
  publics = 9 ∷ 9 ∷ 10 ∷ [];
  provers = [];
  equalities = v 12 becomes Side.infixed Add (v 9) (k (pos 1)) ∷ v 12 becomes Side.copy (k (pos 2)) ∷ [];
  kept = [];
})

-- (= (^ x -3) a)
-- (= (^ (+ x 1) 4) a)
-- (= (^ (^ x 2) 2) a)
abbrev negative_power : Outcome
negative_power = cut (record {
  next = 27;
  publics = [];
  provers = [];
  equalities =
      v 11 becomes Side.infixed Multiply (v 9) (v 9) ∷ v 12 becomes Side.infixed Multiply (v 11) (v 9) ∷ v 13 becomes Side.infixed Divide (k (pos 1)) (v 12)
      ∷ v 14 becomes Side.infixed Add (v 9) (k (pos 1)) ∷ v 15 becomes Side.infixed Multiply (v 14) (v 14) ∷ v 16 becomes Side.infixed Multiply (v 15) (v 15)
      ∷ v 17 becomes Side.infixed Multiply (v 9) (v 9) ∷ v 18 becomes Side.infixed Multiply (v 17) (v 17) ∷ v 13 becomes Side.copy (v 10)
      ∷ v 16 becomes Side.copy (v 10) ∷ v 18 becomes Side.copy (v 10) ∷ [];
  kept = [];
})

-- (def i iter)
-- (= (app i 2 (fun (x) (+ x a)) b) c)
abbrev iter-as-value : Outcome
iter-as-value = cut (record {
  next = 26;
  publics = [];
  provers = [];
  equalities = v 22 becomes Side.infixed Add (v 12) (v 11) ∷ v 23 becomes Side.infixed Add (v 22) (v 11) ∷ v 23 becomes Side.copy (v 13) ∷ [];
  kept = [];
})

-- (= (match (let t (+ a b) (, t 1)) ((, q 1) (* q q))) c)
abbrev let-value-doubled : Outcome
let-value-doubled = cut (record {
  next = 19;
  publics = [];
  provers = [];
  equalities = v 15 becomes Side.infixed Add (v 9) (v 10) ∷ v 16 becomes Side.infixed Multiply (v 15) (v 15) ∷ v 16 becomes Side.copy (v 13) ∷ [];
  kept = [];
})

-- (= (match (match a (x (, x 2))) ((, p 2) p)) b)
abbrev nested-match : Outcome
nested-match = cut (record { next = 13; publics = []; provers = []; equalities = v 9 becomes Side.copy (v 12) ∷ []; kept = [] })

-- (def f (fun (unit x) x))
-- (= (app f unit a) b)
abbrev unit-argument : Outcome
unit-argument = cut (record { next = 15; publics = []; provers = []; equalities = v 11 becomes Side.copy (v 12) ∷ []; kept = [] })

-- (def 2147483647 1)
-- (def 2147483648 1)
-- (def -2147483648 1)
-- (def -9223372036854775808 1)
abbrev wide-patterns : Outcome
wide-patterns = cut (record {
  next = 9;
  publics = [];
  provers = [];
  equalities =
      k (pos 2147483647) becomes Side.copy (k (pos 1)) ∷ k (negsuc 2147483647) becomes Side.copy (k (pos 1)) ∷ k (negsuc 1) becomes Side.copy (k (pos 1)) ∷ [];
  kept = [];
})

-- (= (match 9223372036854775807 (9223372036854775807 5) (1 6)) 7)
abbrev wide-arms : Outcome
wide-arms = cut (record { next = 9; publics = []; provers = []; equalities = k (pos 6) becomes Side.copy (k (pos 7)) ∷ []; kept = [] })

-- without the places, in the order of evaluation's cases; those that evaluation refuses are refused so
abbrev pub answers : List Outcome
answers =
    doubled-match ∷ unused-division ∷ fresh ∷ fresh-pair ∷ iter3 ∷ fold ∷ public-defined ∷ lost-closure ∷ refused 16 ∷ lost-closure-opened
    ∷ lost-closure-nested ∷ closure-kept ∷ pair-input ∷ refused 16 ∷ refused 13 ∷ constant-patterns ∷ refused 12 ∷ unreduced-arm ∷ powers ∷ infix-op
    ∷ copies ∷ refused 19 ∷ refused 18 ∷ failing-arm-opens ∷ refused 13 ∷ refused 13 ∷ refused 12 ∷ doubled-lost-closure ∷ doubled-negation ∷ refresh-ids
    ∷ outer-first ∷ expanded-pattern ∷ public-intrinsic-and-shadow ∷ witness-chain ∷ refused 11 ∷ kept-twice ∷ fresh-function ∷ refused 10 ∷ fresh-nothing
    ∷ fresh-twice ∷ iter-0-and-1 ∷ iter-canonical ∷ fold-closures ∷ fold-pairs ∷ currying ∷ shadowing ∷ let-sees-outer ∷ as-patterns ∷ match-list ∷ match-arms
    ∷ match-function ∷ sequences ∷ equality-of-shapes ∷ constants ∷ operators ∷ more-simplifications ∷ higher-order ∷ closure-captures-let ∷ closure-in-pair
    ∷ parameter-pair ∷ parameter-expanded ∷ constant-parameter ∷ split-list-input ∷ refused 16 ∷ public-twice ∷ negative_power ∷ iter-as-value
    ∷ let-value-doubled ∷ nested-match ∷ unit-argument ∷ wide-patterns ∷ wide-arms
    ∷ refused 10 ∷ refused 10 ∷ refused 10 ∷ refused 11 ∷ refused 11 ∷ refused 12 ∷ refused 12 ∷ refused 12
    ∷ refused 12 ∷ refused 13 ∷ refused 13 ∷ refused 14 ∷ refused 14 ∷ refused 14 ∷ refused 15 ∷ refused 15 ∷ refused 16 ∷ refused 16 ∷ refused 16 ∷ refused 16
    ∷ refused 16 ∷ refused 16 ∷ refused 16 ∷ refused 17 ∷ refused 17 ∷ refused 17 ∷ refused 17 ∷ refused 17 ∷ refused 17 ∷ refused 17 ∷ refused 18 ∷ refused 18
    ∷ refused 18 ∷ refused 18 ∷ refused 18 ∷ refused 18 ∷ refused 18 ∷ refused 18 ∷ refused 19 ∷ []

abbrev flattened : List Case → List Outcome
flattened [] = []
flattened (c ∷ cs) = bare_outcome (flattened_of 65535 c.source) ∷ flattened cs

pub cases-hold : flattened cases ≡ answers
unfolding answer_of flattened_of passed update Passes.member Passes.keep_if Passes.those Passes.most Passes.is_never Passes.is_witness Passes.mark_used
    Passes.used_in Passes.override Passes.classify_def Passes.classified Passes.usage Passes.ids_from Passes.classify_defs Passes.follow Passes.walk
    Passes.to_expr Passes.copy_propagate_expr Passes.substituting Passes.copy_propagate_def Passes.after_def Passes.copy_propagate_defs Passes.after_defs
    Passes.copy_propagate_equations Passes.copy_propagate Passes.same_number Passes.dead Passes.alive Passes.eliminate_dead_equalities Passes.is_one
    Passes.is_zero Passes.when Passes.infix_op Passes.or_variable Passes.push_constraint_def Passes.copied Passes.flatten_expr_to_3ac Passes.cuts_of
    Passes.joined
    at_place Passes.all_at Passes.placed
    Passes.flatten_def_to_3ac Passes.flatten_defs Passes.sides Passes.flatten_sides Passes.flatten_equations Passes.flatten_lists Passes.flatten_module_to_3ac
    Passes.passes Passes.cuttable Passes.cuttable_expr Passes.cuttable_defs Passes.cuttable_equations Passes.counted Passes.unless Passes.fitting Passes.cut_of
    bare_definitions bare_cut bare_outcome
cases-hold = refl
