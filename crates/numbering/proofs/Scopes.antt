-- Walks put together: one after the other, and in a scope. Assumes nothing.
use Prim.Native.Nat.{ℕ, suc, ◌+◌, ◌-◌, ◌≤◌, ◌<◌}
use mathlib.Core.Path.{◌≡◌, refl, ap, ◌∙◌}
use mathlib.Core.List.{List, [], ◌∷◌, ◌++◌}
use mathlib.Core.Bool.{Bool, true}
use mathlib.Core.Logic.{⊎_elim}
use native.Mathlib.Numerals.{add-one}
use native.Mathlib.Omega.{arith}
use lib.ListN.{length, get_or, set}
use lib.Seq.{get_or-append_seam, get_or-set_same, get_or-set_other}
use Rattle.std.specs.Prelude.{Some, None}
use Rattle.marks.specs.Indices.{same}
use Rattle.numbering.specs.Numbering.{Ids, Names, Naming, number_variable}
use Rattle.numbering.specs.Walks.{names, depth, no_undo, undone, unwound, bound_to, unwound_to, each, Sized, Room, Else, Agree, Bound, Walked, Chosen}
use Rattle.numbering.specs.declared.rows.Scopes.{Scopes}
use Rattle.numbering.specs.declared.rows.Undo.{Undo}
use Rattle.std.proofs.lemmas.Bool.{cases_eq, cases_lt}
use Rattle.std.proofs.lemmas.List.{get_or_append_left, get_or-take, length-append, length-take}
use Rattle.arrayvec.specs.ArrayVec.{ArrayVec, array_vec_len}
use Rattle.numbering.proofs.Laws.{not-both}
use Rattle.marks.proofs.Indices.{same-yes}
use Rattle.numbering.proofs.Held.{held-same, held_more, unwound-none, unwound-parts, unwound-same, unwound-bound}

abbrev pub Weight : Type 0
Weight = (ℕ → ℕ) → ℕ

-- two parts of a walk
pub record Parts (w u v : Weight) : Type 0 where
  pub hold : (own : ℕ → ℕ) → u own + v own ≤ w own

-- the first alone
pub least_parts : {w u : Weight} → ((own : ℕ → ℕ) → u own ≤ w own) → Parts w u (λ own. 0)
least_parts h = record { hold = λ own. omega (arith, h own) }

-- what the item of a link is of its chain: all of the last link, and else the first part
pub item-parts : {w u v : Weight} (next : ℕ) → (next ≡ 4294967295 → (own : ℕ → ℕ) → u own ≤ w own) → ((next ≡ 4294967295 → ⊥) → Parts w u v)
    → Parts w u (λ own. 0)
item-parts next last more =
    least_parts (λ own. ⊎_elim
    (λ (m : next ≡ 4294967295). last m own)
    (λ (m : next ≡ 4294967295 → ⊥). omega (arith, (more m).hold own))
    (cases_eq next 4294967295))

-- ---- room

pub room-first : {w u v : Weight} {next top : ℕ} → Parts w u v → Room w next top → Room u next top
room-first p r = record {
  met-once = λ j. omega (arith, p.hold (same j), r.met-once j);
  entries = omega (arith, p.hold each, r.entries);
  ids = omega (arith, p.hold each, r.ids);
}

-- the second part, where the first has drawn ids
pub room-second : {w u v : Weight} {next top next' top' : ℕ} → Parts w u v → Room w next top → next' ≤ next + u each → top' ≡ top → Room v next' top'
room-second p r q e = record {
  met-once = λ j. omega (arith, p.hold (same j), r.met-once j);
  entries = omega (arith, p.hold each, r.entries);
  ids = omega (arith, p.hold each, r.ids);
}

-- and has bound them
pub room-inner : {w u v : Weight} {next top next' top' : ℕ} → Parts w u v → Room w next top → next ≤ next' → next' ≤ next + u each
    → top' ≡ top + (next' - next) → Room v next' top'
room-inner p r l q e = record {
  met-once = λ j. omega (arith, p.hold (same j), r.met-once j);
  entries = omega (arith, p.hold each, r.entries);
  ids = omega (arith, p.hold each, r.ids);
}

-- ---- arrays that agree

-- a later part changes nothing of an earlier one
pub earlier : {w u v : Weight} (s t final : List ℕ) → Parts w u v → ((j : ℕ) → w (same j) ≤ 1) → Else v s t → Agree w t final → Agree u s final
earlier s t final p o e a j l = a j (omega (arith, p.hold (same j))) ∙ e j (omega (arith, p.hold (same j), o j))

pub later : {w u v : Weight} (t final : List ℕ) → Parts w u v → Agree w t final → Agree v t final
later t final p a j l = a j (omega (arith, p.hold (same j)))

pub both-else : {w u v : Weight} (r s t : List ℕ) → Parts w u v → Else u r s → Else v s t → Else w r t
both-else r s t p e f j z = f j (omega (arith, p.hold (same j))) ∙ e j (omega (arith, p.hold (same j)))

-- ---- patterns

-- nothing is bound
pub bound-none : {A : Type 0} {named : ℕ → Bool} {w : Weight} {f : Ids → Naming (A × Ids)} {value : List ℕ → A} {s : Scopes}
    → ((l : Ids) (g : Names) (final : List ℕ) → f l g ≡ ((value final, l), g)) → Bound named w f value s s
bound-none {s = s} is = record {
  more = omega arith;
  few = omega arith;
  entries = omega arith;
  same_globals = refl;
  undo-below = λ i l. refl;
  undo-names = λ i l m. absurd (omega arith);
  unwinds = unwound-none s.undo.items (depth s) s.locals (omega arith);
  elsewhere = λ j l. refl;
  unnamed = λ j l. refl;
  numbers = λ l g final h e a. (l, (rw (← e) (is l g final), h));
}

-- the numbering of one name: it draws an id
abbrev pub drawn : ℕ → Ids → Naming (ℕ × Ids)
drawn x l g = ((g.next, ((x, g.next) ∷ l)), names g.globals (suc g.next))

pub bound-one : {named : ℕ → Bool} (x k : ℕ) {s s' : Scopes} → named k ≡ true → x < 512 → k < 2048 → depth s < 2048
    → Sized s → s' ≡ bound_to x k s
    → Bound named (λ own. own k) (drawn x) (λ t. get_or t k 0) s s'
unfolding each
bound-one {named} x k {s} nk xl kl tl z is = rw is (record {
  more = omega arith;
  few = omega arith;
  entries = omega (arith, longer);
  same_globals = refl;
  undo-below = λ i l. get_or_append_left s.undo.items (entry ∷ []) nothing i l;
  undo-names = λ i l m.
      let e : i ≡ depth s = omega (arith, longer) in
      let q : (undone (s.undo.items ++ entry ∷ []) i).name ≡ x = ap (λ (j : ℕ). (undone (s.undo.items ++ entry ∷ []) j).name) e
      ∙ ap (λ (u : Undo). u.name) (get_or-append_seam s.undo.items entry [] nothing) in
      omega arith;
  unwinds =
      let e : length (s.undo.items ++ entry ∷ []) - depth s ≡ 1 = omega (arith, longer) in
      rw e (unwound-bound s.undo.items x (Some s.next) s.locals);
  elsewhere = λ j l. get_or-set_other s.ids k j s.next 0 (λ (e : j ≡ k). omega (arith, same-yes j k e));
  unnamed = λ j l. get_or-set_other s.ids k j s.next 0 (λ (e : j ≡ k). not-both (rw e at l) nk);
  numbers = λ l g final h e a.
      let q : 0 < same k k = omega (arith, same-yes k k refl) in
      let r : get_or final k 0 ≡ s.next = a k q ∙ get_or-set_same s.ids k s.next 0 (omega (arith, z.nodes)) in
      ((x, s.next) ∷ l, (rw (r, add-one, e), held_more s.locals l x s.next h (omega (arith, z.rows))));
})
  where
    entry : Undo
    entry = record { name = x; before = get_or s.locals x None }

    nothing : Undo
    nothing = record { name = 0; before = None }

    longer : length (s.undo.items ++ entry ∷ []) ≡ depth s + 1
    longer = length-append s.undo.items (entry ∷ [])

-- the same by another name
pub bound-as-is : {A B : Type 0} {named : ℕ → Bool} {w u : Weight} {f : Ids → Naming (A × Ids)} {value : List ℕ → A} {s s' : Scopes}
    (f' : Ids → Naming (B × Ids)) (value' : List ℕ → B) (make : A → B)
    → ((own : ℕ → ℕ) → u own ≤ w own) → ((l : Ids) (g : Names) (a : A) (l' : Ids) (h : Names) → f l g ≡ ((a, l'), h) → f' l g ≡ ((make a, l'), h))
    → ((t : List ℕ) → value' t ≡ make (value t)) → Bound named u f value s s' → Bound named w f' value' s s'
bound-as-is f' value' make p is val r = record {
  more = r.more;
  few = omega (arith, p each, r.few);
  entries = r.entries;
  same_globals = r.same_globals;
  undo-below = r.undo-below;
  undo-names = r.undo-names;
  unwinds = r.unwinds;
  elsewhere = λ j z. r.elsewhere j (omega (arith, p (same j)));
  unnamed = r.unnamed;
  numbers = λ l g final h e a.
      let q = r.numbers l g final h e (λ j z. a j (omega (arith, p (same j)))) in
      (q.0, (rw (val final) (is l g _ _ _ q.1.0), q.1.1));
}

-- one pattern, then another
pub bound-two : {A B C : Type 0} {named : ℕ → Bool} {w u v : Weight} {f : Ids → Naming (A × Ids)} {one : List ℕ → A} {g : Ids → Naming (B × Ids)}
    {two : List ℕ → B} {s s₁ s₂ : Scopes} (both : Ids → Naming (C × Ids)) (value : List ℕ → C) (make : A → B → C) → Parts w u v → Room w s.next (depth s)
    → ((l : Ids) (h : Names) (a : A) (l₁ : Ids) (h₁ : Names) (b : B) (l₂ : Ids) (h₂ : Names) → f l h ≡ ((a, l₁), h₁)
    → g l₁ h₁ ≡ ((b, l₂), h₂) → both l h ≡ ((make a b, l₂), h₂)) → ((t : List ℕ) → value t ≡ make (one t) (two t))
    → Bound named u f one s s₁ → Bound named v g two s₁ s₂ → Bound named w both value s s₂
bound-two {s = s} {s₁ = s₁} {s₂ = s₂} both value make p room is val r q = record {
  more = omega (arith, r.more, q.more);
  few = omega (arith, p.hold each, r.few, q.few);
  entries = omega (arith, r.more, q.more, r.entries, q.entries);
  same_globals = q.same_globals ∙ r.same_globals;
  undo-below = λ i l. q.undo-below i (omega (arith, r.entries)) ∙ r.undo-below i l;
  undo-names = λ i l m. ⊎_elim
      (λ (z : i < depth s₁). rw (q.undo-below i z) (r.undo-names i l z))
      (λ (z : depth s₁ ≤ i). q.undo-names i z m)
      (cases_lt i (depth s₁));
  unwinds =
      let e : depth s₂ - depth s ≡ (depth s₁ - depth s) + (depth s₂ - depth s₁) = omega (arith, r.entries, q.entries) in
      let t : depth s + (depth s₁ - depth s) ≡ depth s₁ = omega (arith, r.entries) in
      ap (λ (m : ℕ). unwound s₂.undo.items (depth s) m s₂.locals) e
      ∙ unwound-parts s₂.undo.items (depth s) (depth s₁ - depth s) (depth s₂ - depth s₁) s₂.locals
      ∙ ap (λ (m : ℕ). unwound s₂.undo.items (depth s) (depth s₁ - depth s) (unwound s₂.undo.items m (depth s₂ - depth s₁) s₂.locals)) t
      ∙ ap (unwound s₂.undo.items (depth s) (depth s₁ - depth s)) q.unwinds
      ∙ unwound-same s₁.undo.items s₂.undo.items (depth s) (depth s₁ - depth s) s₁.locals (λ i l. q.undo-below i (omega arith))
      ∙ r.unwinds;
  elsewhere = both-else s.ids s₁.ids s₂.ids p r.elsewhere q.elsewhere;
  unnamed = λ j z. q.unnamed j z ∙ r.unnamed j z;
  numbers = λ l g final h e a.
      let y = r.numbers l g final h e (earlier s₁.ids s₂.ids final p room.met-once q.elsewhere a) in
      let z = q.numbers y.0 (names g.globals s₁.next) final y.1.1 refl (later s₂.ids final p a) in
      (z.0, (rw (val final) (is l g _ _ _ _ _ _ y.1.0 z.1.0), z.1.1));
}

-- ---- expressions

pub walked_none : {A : Type 0} {named : ℕ → Bool} {w : Weight} {f : Ids → Naming A} {value : List ℕ → A} {s : Scopes}
    → ((l : Ids) (g : Names) (final : List ℕ) → f l g ≡ (value final, g)) → Walked named w f value s s
walked_none is = record {
  more = omega arith;
  few = omega arith;
  same_top = refl;
  same_locals = refl;
  undo-below = λ i l. refl;
  elsewhere = λ j l. refl;
  unnamed = λ j l. refl;
  numbers = λ l g final h k e a. (g.globals, (rw (← e) (is l g final), k));
}

-- a variable: its id is written at its node
pub walked-variable : {named : ℕ → Bool} (x k : ℕ) {s : Scopes} {id : ℕ} {s' : Scopes} → named k ≡ true → k < length s.ids → Chosen x s id s'
    → Walked named (λ own. own k) (number_variable x) (λ t. get_or t k 0) s (record s' { ids = set s'.ids k id })
unfolding each
walked-variable x k {s} {id} {s'} nk kl c = record {
  more = c.more;
  few = c.few;
  same_top = ap array_vec_len c.rest.same_undo;
  same_locals = c.rest.same_locals;
  undo-below = λ i l. ap (λ (u : ArrayVec Undo). undone u.items i) c.rest.same_undo;
  elsewhere = λ j l. get_or-set_other s'.ids k j id 0 (λ (e : j ≡ k). omega (arith, same-yes j k e)) ∙ same-id j;
  unnamed = λ j l. get_or-set_other s'.ids k j id 0 (λ (e : j ≡ k). not-both (rw e at l) nk) ∙ same-id j;
  numbers = λ l g final h m e a.
      let q : 0 < same k k = omega (arith, same-yes k k refl) in
      let r : get_or final k 0 ≡ id = a k q ∙ get_or-set_same s'.ids k id 0 (rw c.rest.same_ids kl) in
      let t = c.numbers l g h m e in
      (t.0, (rw r t.1.0, t.1.1));
}
  where
    same-id : (j : ℕ) → get_or s'.ids j 0 ≡ get_or s.ids j 0
    same-id j = ap (λ (t : List ℕ). get_or t j 0) c.rest.same_ids

pub walked-as-is : {A B : Type 0} {named : ℕ → Bool} {w u : Weight} {f : Ids → Naming A} {value : List ℕ → A} {s s' : Scopes}
    (f' : Ids → Naming B) (value' : List ℕ → B) (make : A → B)
    → ((own : ℕ → ℕ) → u own ≤ w own) → ((l : Ids) (g : Names) (a : A) (h : Names) → f l g ≡ (a, h) → f' l g ≡ (make a, h))
    → ((t : List ℕ) → value' t ≡ make (value t)) → Walked named u f value s s' → Walked named w f' value' s s'
walked-as-is f' value' make p is val r = record {
  more = r.more;
  few = omega (arith, p each, r.few);
  same_top = r.same_top;
  same_locals = r.same_locals;
  undo-below = r.undo-below;
  elsewhere = λ j z. r.elsewhere j (omega (arith, p (same j)));
  unnamed = r.unnamed;
  numbers = λ l g final h k e a.
      let q = r.numbers l g final h k e (λ j z. a j (omega (arith, p (same j)))) in
      (q.0, (rw (val final) (is l g _ _ q.1.0), q.1.1));
}

-- one expression, then another
pub walked-two : {A B C : Type 0} {named : ℕ → Bool} {w u v : Weight} {f : Ids → Naming A} {one : List ℕ → A} {g : Ids → Naming B}
    {two : List ℕ → B} {s s₁ s₂ : Scopes} (both : Ids → Naming C) (value : List ℕ → C) (make : A → B → C) → Parts w u v → Room w s.next (depth s)
    → ((l : Ids) (h : Names) (a : A) (h₁ : Names) (b : B) (h₂ : Names) → f l h ≡ (a, h₁) → g l h₁ ≡ (b, h₂) → both l h ≡ (make a b, h₂))
    → ((t : List ℕ) → value t ≡ make (one t) (two t)) → Walked named u f one s s₁ → Walked named v g two s₁ s₂ → Walked named w both value s s₂
walked-two {s = s} {s₁ = s₁} {s₂ = s₂} both value make p room is val r q = record {
  more = omega (arith, r.more, q.more);
  few = omega (arith, p.hold each, r.few, q.few);
  same_top = q.same_top ∙ r.same_top;
  same_locals = q.same_locals ∙ r.same_locals;
  undo-below = λ i l. q.undo-below i (omega (arith, r.same_top)) ∙ r.undo-below i l;
  elsewhere = both-else s.ids s₁.ids s₂.ids p r.elsewhere q.elsewhere;
  unnamed = λ j z. q.unnamed j z ∙ r.unnamed j z;
  numbers = λ l g final h k e a.
      let y = r.numbers l g final h k e (earlier s₁.ids s₂.ids final p room.met-once q.elsewhere a) in
      let z = q.numbers l (names y.0 s₁.next) final (held-same l r.same_locals h) y.1.1 refl (later s₂.ids final p a) in
      (z.0, (rw (val final) (is l g _ _ _ _ y.1.0 z.1.0), z.1.1));
}

-- what a pattern binds, for an expression; then the rows are unwound
pub walked-scope : {A B C : Type 0} {named : ℕ → Bool} {w u v : Weight} {f : Ids → Naming (A × Ids)} {one : List ℕ → A} {g : Ids → Naming B}
    {two : List ℕ → B} {s s₁ s₂ s₃ : Scopes} (both : Ids → Naming C) (value : List ℕ → C) (make : A → B → C) → Parts w u v → Room w s.next (depth s)
    → ((l : Ids) (h : Names) (a : A) (l₁ : Ids) (h₁ : Names) (b : B) (h₂ : Names) → f l h ≡ ((a, l₁), h₁) → g l₁ h₁ ≡ (b, h₂) → both l h ≡ (make a b, h₂))
    → ((t : List ℕ) → value t ≡ make (one t) (two t)) → Bound named u f one s s₁ → Walked named v g two s₁ s₂ → s₃ ≡ unwound_to (depth s) s₂
    → Walked named w both value s s₃
walked-scope {s = s} {s₁ = s₁} {s₂ = s₂} both value make p room is val r q u = rw u (record {
  more = omega (arith, r.more, q.more);
  few = omega (arith, p.hold each, r.few, q.few);
  same_top = omega (arith, length-take (depth s) s₂.undo.items, r.entries, q.same_top);
  same_locals =
      ap (λ (m : ℕ). unwound s₂.undo.items (depth s) (m - depth s) s₂.locals) q.same_top
      ∙ ap (unwound s₂.undo.items (depth s) (depth s₁ - depth s)) q.same_locals
      ∙ unwound-same s₁.undo.items s₂.undo.items (depth s) (depth s₁ - depth s) s₁.locals (λ i l. q.undo-below i (omega (arith, r.entries)))
      ∙ r.unwinds;
  undo-below = λ i l. get_or-take (depth s) s₂.undo.items i no_undo l ∙ q.undo-below i (omega (arith, r.entries)) ∙ r.undo-below i l;
  elsewhere = both-else s.ids s₁.ids s₂.ids p r.elsewhere q.elsewhere;
  unnamed = λ j z. q.unnamed j z ∙ r.unnamed j z;
  numbers = λ l g final h k e a.
      let y = r.numbers l g final h e (earlier s₁.ids s₂.ids final p room.met-once q.elsewhere a) in
      let z = q.numbers y.0 (names g.globals s₁.next) final y.1.1 (held-same g.globals r.same_globals k) refl (later s₂.ids final p a) in
      (z.0, (rw (val final) (is l g _ _ _ _ _ y.1.0 z.1.0), z.1.1));
})
