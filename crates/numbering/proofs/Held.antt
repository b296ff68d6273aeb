-- What rows hold: a name found, a new name, and rows unwound. Assumes nothing.
use Prim.Native.Nat.{ℕ, zero, suc, ◌+◌, ◌≤◌, ◌<◌}
use mathlib.Core.Path.{◌≡◌, refl, sym, ap, ap₂, ◌∙◌}
use mathlib.Core.List.{List, [], ◌∷◌, ◌++◌}
use mathlib.Core.Bool.{Bool, cond}
use mathlib.Core.Option.{Option, none, some}
use mathlib.Core.Logic.{⊎_elim}
use native.Mathlib.Numerals.{add-one}
use native.Mathlib.Omega.{arith}
use lib.ListN.{length, get_or, set, take, drop}
use lib.Seq.{get_or-append_seam, take-append_seam, get_or-set_same, get_or-set_other}
use borrow.Author.Tests.{eq-eqb, ne_eqb}
use Rattle.std.specs.Prelude.{Option as Maybe, Some, None}
use Rattle.std.specs.Option.{option_or}
use Rattle.std.proofs.lemmas.List.{set-set, set-get_or, get_or-drop, get_or-take, length-append, length-drop, length-take, take-take}
use Rattle.numbering.specs.Numbering.{Ids, Names, found, chosen, number_variable}
use Rattle.numbering.specs.Walks.{coded, Holds, names, no_undo, undone, unwound, OnlyGlobals, Chosen, SameBelow}
use Rattle.numbering.specs.declared.rows.Scopes.{Scopes}
use Rattle.numbering.specs.declared.rows.Undo.{Undo}
use Rattle.std.proofs.lemmas.Bool.{cases_eq}

-- rows that are the same hold the same
pub held-same : {r s : List (Maybe ℕ)} (l : Ids) → s ≡ r → Holds r l → Holds s l
held-same l e h x m = ap (λ (t : List (Maybe ℕ)). get_or t x None) e ∙ h x m

-- a name that is bound anew: its row has the id
pub held_more : (row : List (Maybe ℕ)) (l : Ids) (x i : ℕ) → Holds row l → x < length row → Holds (set row x (Some i)) ((x, i) ∷ l)
unfolding found coded
held_more row l x i h q y m =
    ⊎_elim
    (λ (e : y ≡ x). ap (λ (z : ℕ). get_or (set row x (Some i)) z None) e
    ∙ get_or-set_same row x (Some i) None q ∙ ap (λ (t : Bool). coded (cond t (some i) (found y l))) (sym (eq-eqb y x e)))
    (λ (f : y ≡ x → ⊥). get_or-set_other row x y (Some i) None f ∙ h y m ∙ ap (λ (t : Bool). coded (cond t (some i) (found y l))) (sym (ne_eqb y x f)))
    (cases_eq y x)

not-none : {i : ℕ} → Some i ≡ None → ⊥
not-none e = let z : ◌≡◌ {A = ℕ} 0 1 = cc in omega (arith, z)

-- an id that the rows have, and none
chosen-known : (x : ℕ) (o p : Option ℕ) (g : Names) (v next : ℕ) → Some v ≡ option_or (coded o) (coded p) → g.next ≡ next
    → chosen x o p g ≡ (v, names g.globals next)
unfolding chosen coded
chosen-known x none none g v next e q = absurd (not-none e)
chosen-known x (some i) p g v next e q = let z : v ≡ i = cc in rw (z, ← q)
chosen-known x none (some i) g v next e q = let z : v ≡ i = cc in rw (z, ← q)

chosen-new : (x : ℕ) (o p : Option ℕ) (g : Names) (next : ℕ) → None ≡ option_or (coded o) (coded p) → g.next ≡ next
    → chosen x o p g ≡ (next, names ((x, next) ∷ g.globals) (next + 1))
unfolding chosen coded
chosen-new x (some i) p g next e q = absurd (not-none (sym e))
chosen-new x none (some i) g next e q = absurd (not-none (sym e))
chosen-new x none none g next e q = rw (add-one, ← q)

pub only-globals : (s : Scopes) → OnlyGlobals s s
only-globals s = record { same_locals = refl; same_undo = refl; same_ids = refl }

module _ (x : ℕ) (s : Scopes) (l : x < 512) where
  abbrev pub row : Maybe ℕ
  row = option_or (get_or s.locals x None) (get_or s.globals x None)

  -- what the rows hold is what the definition finds
  both : (ls : Ids) (g : Names) → Holds s.locals ls → Holds s.globals g.globals → row ≡ option_or (coded (found x ls)) (coded (found x g.globals))
  both ls g h k = ap₂ option_or (h x l) (k x l)

  pub variable-known : {id : ℕ} → Some id ≡ row → Chosen x s id s
  unfolding number_variable
  variable-known {id} e = record {
    more = omega arith;
    few = omega arith;
    rest = only-globals s;
    numbers = λ ls g h k q. (g.globals, (chosen-known x (found x ls) (found x g.globals) g id s.next (e ∙ both ls g h k) q, k));
  }

  -- a new global
  abbrev pub with_global : Scopes
  with_global = record s { globals = set s.globals x (Some s.next); next = s.next + 1 }

  pub variable-new : length s.globals ≡ 512 → None ≡ row → Chosen x s s.next with_global
  unfolding number_variable
  variable-new w e = record {
    more = omega arith;
    few = omega arith;
    rest = record { same_locals = refl; same_undo = refl; same_ids = refl };
    numbers = λ ls g h k q. (
      (x, s.next) ∷ g.globals,
      (
        chosen-new x (found x ls) (found x g.globals) g s.next (e ∙ both ls g h k) q,
        held_more s.globals g.globals x s.next k (omega arith),
      ),
    );
  }

-- ---- rows unwound

pub unwound-none : (undo : List Undo) (base : ℕ) (row : List (Maybe ℕ)) {n : ℕ} → n ≡ 0 → unwound undo base n row ≡ row
unfolding unwound
unwound-none undo base row e = rw e

-- entries left of a list from `base` on, the last of them, and those before it
module _ (undo : List Undo) (base : ℕ) (left rest : List Undo) (e : Undo) (s : left ≡ rest ++ e ∷ []) (t : left ≡ take (length left) (drop base undo)) where
  one-more : length left ≡ suc (length rest)
  one-more = omega (arith, ap length s, length-append rest (e ∷ []))

  last-is : undone undo (base + length rest) ≡ e
  last-is =
      sym (get_or-drop base undo (length rest) no_undo)
      ∙ sym (get_or-take (length left) (drop base undo) (length rest) no_undo (omega (arith, one-more)))
      ∙ ap (λ (l : List Undo). undone l (length rest)) (sym t ∙ s)
      ∙ get_or-append_seam rest e [] no_undo

  pub last-names : ((i : ℕ) → base ≤ i → i < length undo → (undone undo i).name < 512) → e.name < 512
  last-names bounds =
      let few : base + length rest < length undo = omega (arith, ap length t, length-take (length left) (drop base undo), length-drop base undo, one-more) in
      rw last-is at (bounds (base + length rest) (omega arith) few)

  pub rest-left : rest ≡ take (length rest) (drop base undo)
  rest-left =
      sym (take-append_seam rest (e ∷ [])) ∙ ap (take (length rest)) (sym s ∙ t)
      ∙ take-take (length rest) (length left) (drop base undo) (omega (arith, one-more))

  pub unwound-last : (locals : List (Maybe ℕ)) → unwound undo base (length rest) (set locals e.name e.before) ≡ unwound undo base (length left) locals
  unfolding unwound
  unwound-last locals =
      sym (ap (λ (m : ℕ). unwound undo base m locals) one-more
      ∙ ap (λ (u : Undo). unwound undo base (length rest) (set locals u.name u.before)) last-is)

-- in two parts
pub unwound-parts : (undo : List Undo) (base m n : ℕ) (row : List (Maybe ℕ))
    → unwound undo base (m + n) row ≡ unwound undo base m (unwound undo (base + m) n row)
unfolding unwound
unwound-parts undo base m zero row = let e : m + 0 ≡ m = omega arith in ap (λ (k : ℕ). unwound undo base k row) e
unwound-parts undo base m (suc n) row =
    let e : m + suc n ≡ suc (m + n) = omega arith in
    let f : base + (m + n) ≡ base + m + n = omega arith in
    ap (λ (k : ℕ). unwound undo base k row) e
    ∙ ap (λ (k : ℕ). unwound undo base (m + n) (set row (undone undo k).name (undone undo k).before)) f
    ∙ unwound-parts undo base m n (set row (undone undo (base + m + n)).name (undone undo (base + m + n)).before)

-- by the entries alone
pub unwound-same : (undo undo' : List Undo) (base n : ℕ) (row : List (Maybe ℕ)) → SameBelow (base + n) undo undo'
    → unwound undo' base n row ≡ unwound undo base n row
unfolding unwound
unwound-same undo undo' base zero row p = refl
unwound-same undo undo' base (suc n) row p =
    rw (p (base + n) (omega arith))
    (unwound-same undo undo' base n (set row (undone undo (base + n)).name (undone undo (base + n)).before) (λ i l. p i (omega arith)))

-- an entry written and unwound
pub unwound-bound : (undo : List Undo) (x : ℕ) (v : Maybe ℕ) (row : List (Maybe ℕ))
    → unwound (undo ++ record { name = x; before = get_or row x None } ∷ []) (length undo) 1 (set row x v) ≡ row
unfolding unwound
unwound-bound undo x v row =
    let e : length undo + 0 ≡ length undo = omega arith in
    rw (e, get_or-append_seam undo (record { name = x; before = get_or row x None }) [] (record { name = 0; before = None }))
    (set-set row x v (get_or row x None) ∙ set-get_or row x None)
