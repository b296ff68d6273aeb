-- The answers by their case: what each refusal leaves, and when the passes' result is taken.
-- Assumes nothing.
use Prim.Native.Nat.{ℕ, ◌≤◌, ◌<◌}
use mathlib.Core.Path.{◌≡◌, refl, sym, ap, subst, ◌∙◌}
use mathlib.Core.List.{List}
use mathlib.Core.Bool.{Bool, true, false, ◌&&◌}
use native.Mathlib.Omega.{arith}
use lib.ListN.{length, replicate, length-replicate}
use lib.Dec.{leb}
use borrow.Author.Tests.{le-leb, lt-leb}
use Rattle.words.proofs.Laws.{length-set_words}
use Rattle.std.specs.Prelude.{Result, Ok, Err}
use Rattle.records.specs.declared.refusals.Refusal.{Refusal}
use Rattle.records.specs.Refusals.{refusal_number, numbered}
use Rattle.flat.specs.Trees.{FlatModule, module_nodes}
use Rattle.flat.specs.Record.{pick, module_of, flat_of, checked}
use Rattle.flat.specs.Readable.{Readable}
use Rattle.flat.proofs.Reading.{checked-accepted, checked_refused, checked-readable}
use Rattle.flat.proofs.Sizes.{accepted-nodes}
use Rattle.constraint.specs.Trees.{ConstraintModule}
use Rattle.pass_trees.specs.Passes.{Outcome, cut, refused, unless, fitting, passes, counted, cuttable_defs, cuttable_equations}
use Rattle.pass_trees.specs.Passes.{cut_of}
use Rattle.pass_entry.specs.declared.Need.{Need}
use Rattle.pass_entry.specs.declared.built.Built.{Built}
use Rattle.pass_entry.specs.Body.{BuiltOf, put_body, put_list, Passed, body_after, list_after}
use Rattle.pass_entry.specs.Cut.{cut_read, cut_record, answer_for, output_for, need_of}

-- an outcome that is known answers and leaves what it says
abbrev pub Gives : List ℕ → List ℕ → Result ℕ Refusal → Outcome → Type 0
Gives out out1 r o = (numbered r ≡ answer_for (length out) o) × (out1 ≡ output_for out o)

pub gives_as : (out : List ℕ) {out1 : List ℕ} (r : Result ℕ Refusal) (o p : Outcome) → o ≡ p → Gives out out1 r p → Gives out out1 r o
gives_as out r o p e g = rw e g

pub gives-refused : (out : List ℕ) (r : Refusal) → Gives out out (Err r) (refused (refusal_number r))
unfolding answer_for output_for
gives-refused out r = (refl, refl)

pub needs-refused : (o : Outcome) (r : Refusal) → o ≡ refused (refusal_number r) → numbered {A = Need} (Err r) ≡ need_of o
unfolding need_of
needs-refused o r e = sym (ap need_of e)

-- 32
pub within-ids : (c : ConstraintModule) → c.next ≤ 65536 → fitting c ≡ cut c
unfolding fitting unless
within-ids c l = rw (le-leb c.next 65536 l)

pub past-ids : (c : ConstraintModule) → 65536 < c.next → fitting c ≡ refused 32
unfolding fitting unless
past-ids c l = rw (lt-leb c.next 65536 l)

-- 22
pub not-cuttable : (f : FlatModule) (t : Bool) → t ≡ (cuttable_defs (counted f) && cuttable_equations f.equations) → t ≡ false → cut_of f ≡ refused 22
unfolding cut_of unless
not-cuttable f t e h = rw (← e, h)

pub is-cuttable : (f : FlatModule) (t : Bool) → t ≡ (cuttable_defs (counted f) && cuttable_equations f.equations) → t ≡ true → cut_of f ≡ fitting (passes f)
unfolding cut_of unless
is-cuttable f t e h = rw (← e, h)

-- what the passes left, by the tests of 22 and 32
left-made : (t u : Bool) (c : ConstraintModule) (x : Built) → Passed (unless t 22 (unless u 32 (cut c))) (Ok x) →
    (t ≡ true) × (unless t 22 (unless u 32 (cut c)) ≡ cut c) × BuiltOf c x
unfolding unless Passed
left-made true true c x h = (refl, refl, h)
left-made true false c x h = absurd h
left-made false u c x h = absurd h

left-number : (o : Outcome) (r : Refusal) → Passed o (Err r) → o ≡ refused (refusal_number r)
unfolding Passed
left-number (cut c) r h = absurd h
left-number (refused n) r h = ap refused (sym h)

-- an answer of the passes, by its case
pub answer-made : (o : Outcome) {a : Result Built Refusal} (x : Built) → a ≡ Ok x → Passed o a → Passed o (Ok x)
answer-made o x e h = subst (Passed o) e h

pub left-refused : (o : Outcome) {a : Result Built Refusal} (r : Refusal) → a ≡ Err r → Passed o a → o ≡ refused (refusal_number r)
left-refused o r e h = left-number o r (subst (Passed o) e h)

module _ (f : FlatModule) (x : Built) (h : Passed (cut_of f) (Ok x)) where
  left-all : (cuttable_defs (counted f) && cuttable_equations f.equations ≡ true) × (cut_of f ≡ cut (passes f)) × BuiltOf (passes f) x
  unfolding cut_of fitting
  left-all = left-made (cuttable_defs (counted f) && cuttable_equations f.equations) (leb (passes f).next 65536) (passes f) x h

  pub made-cut : cut_of f ≡ cut (passes f)
  made-cut = left-all.1

  pub made-numbers : BuiltOf (passes f) x
  made-numbers = left-all.2

  pub made-body : (body : List ℕ) → body_after body f ≡ put_body body (passes f)
  unfolding body_after pick
  made-body body = rw left-all.0

  pub made_list : (list : List ℕ) → list_after list f ≡ put_list list (passes f)
  unfolding list_after pick
  made_list list = rw left-all.0

  -- as long as they were
  pub made-long : (body list : List ℕ) {body' list' : List ℕ} → body' ≡ body_after body f → list' ≡ list_after list f
      → (length body' ≡ length body) × (length list' ≡ length list)
  unfolding put_body put_list
  made-long body list p q = (ap length (p ∙ made-body body) ∙ length-set_words _ body 0, ap length (q ∙ made_list list) ∙ length-set_words _ list 0)

-- the answer of the passes and their lists
abbrev Passes : FlatModule → List ℕ → List ℕ → List ℕ → List ℕ → Result Built Refusal → Type 0
Passes f body body' list list' r = Passed (cut_of f) r × ((body' ≡ body_after body f) × (list' ≡ list_after list f))

passed-as : (o p : Outcome) (r : Result Built Refusal) → o ≡ p → Passed p r → Passed o r
passed-as o p r e h = subst (λ (x : Outcome). Passed x r) (sym e) h

module _ (f : FlatModule) (body list : List ℕ) {t : Bool} (e : t ≡ (cuttable_defs (counted f) && cuttable_equations f.equations)) where
  pub passes-22 : t ≡ false → Passes f body body list list (Err Refusal.Uncuttable)
  unfolding Passed body_after list_after pick
  passes-22 h = (passed-as _ _ (Err Refusal.Uncuttable) (not-cuttable f t e h) refl, (rw (← e, h), rw (← e, h)))

  module _ {body' list' : List ℕ} (x : Built) (h : t ≡ true) (n : BuiltOf (passes f) x) (p : body' ≡ put_body body (passes f))
      (q : list' ≡ put_list list (passes f)) where
    lists-after : (body' ≡ body_after body f) × (list' ≡ list_after list f)
    unfolding body_after list_after pick
    lists-after = (p ∙ rw (← e, h), q ∙ rw (← e, h))

    pub passes-32 : 65536 < x.next → Passes f body body' list list' (Err Refusal.Ids)
    unfolding Passed
    passes-32 l = (passed-as _ _ (Err Refusal.Ids) (is-cuttable f t e h ∙ past-ids (passes f) (omega (arith, n.next-is))) refl, lists-after)

    pub passes-made : x.next ≤ 65536 → Passes f body body' list list' (Ok x)
    unfolding Passed
    passes-made l = (passed-as _ _ (Ok x) (is-cuttable f t e h ∙ within-ids (passes f) (omega (arith, n.next-is))) n, lists-after)

-- 20 and 21
pub record-refused : (b : List ℕ) (r : Refusal) → checked (flat_of b) ≡ Err r → cut_record b ≡ refused (refusal_number r)
unfolding cut_record cut_read
record-refused b r e = rw (checked_refused b r e)

pub record-accepted : (b : List ℕ) → checked (flat_of b) ≡ Ok tt → cut_record b ≡ cut_of (module_of b)
unfolding cut_record cut_read
record-accepted b e = rw (checked-accepted b e)

record-small : (b : List ℕ) → checked (flat_of b) ≡ Ok tt → module_nodes (module_of b) ≤ 16384
record-small b e = let r : Readable b = checked-readable b e in omega (arith, accepted-nodes b (module_of b) (checked-accepted b e), r.nodes-few)

-- what `passes` asks, of a lent record that is accepted
pub record-passable : (b : List ℕ) → checked (flat_of b) ≡ Ok tt → Readable b × (module_nodes (module_of b) ≤ 16384)
record-passable b e = (checked-readable b e, record-small b e)

-- an array of one value
pub array-size : {m : List ℕ} (n x : ℕ) → m ≡ replicate n x → length m ≡ n
array-size n x e = ap length e ∙ length-replicate {A = ℕ} n x
