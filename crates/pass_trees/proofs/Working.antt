-- Definitions worked out in order: their values hold, and no others do.
use Rattle.std.proofs.Common.{◌≡◌, ℕ, Bool, true, false, ◌||◌, eqb, List, [], ◌∷◌, ℤ, sym, refl, ap, ◌∙◌, subst, subst₂, eqb-true}
use Rattle.std.specs.Prelude.{Some, None}
use Rattle.field.specs.Prime.{P}
use Rattle.field.proofs.Primality.{P-prime, P-above}
use Rattle.field.proofs.Answers.{value-path, opposite-element, infix-element}
use Rattle.field.proofs.Units.{zero-element}
use Rattle.field.specs.Element.{elem}
use Rattle.field.proofs.Elements.{elem-elem}
use Rattle.field.specs.Operations.{opposite, Answer, HasValue}
use Rattle.flat.specs.Trees.{Flat, Definition, defines}
use Rattle.flat.specs.Meaning.{update, Assignment, Elements, on_values, negated, value, NoZeroDivisor, DefinitionHolds, or_zero, worked_out}
use Rattle.flat.specs.Rules.{All, Every, Ordered}
use Rattle.pass_trees.specs.Passes.{keep_if, those}
use Rattle.pass_trees.specs.Statements.{InTurnIsAtEnd}
use Rattle.pass_trees.proofs.Lists.{update_all, update_same, update_other, both_false, defines-cons}
use Rattle.pass_trees.proofs.Lists.{every_map, every-both, or-false, defines-those, value-agrees}
use Rattle.pass_trees.proofs.Cutting.{both_values, negated-value}

-- a value is an element
pub value-element : (σ : Assignment) → Elements σ → (e : Flat) (z : ℤ) → value σ e ≡ Some z → elem P z ≡ z
unfolding value
value-element σ el (Flat.infixed o a b) z h = let p = both_values o (value σ a) (value σ b) z h in infix-element P P-prime o p.0 p.1 z p.4
value-element σ el (Flat.negate a) z h =
    let p = negated-value (value σ a) z h in
    subst (λ (w : ℤ). elem P w ≡ w) p.2 (opposite-element P P-prime p.0)
value-element σ el (Flat.constant c) z h = subst (λ (w : ℤ). elem P w ≡ w) (value-path _ _ h) (elem-elem P P-above c)
value-element σ el (Flat.variable v) z h = subst (λ (w : ℤ). elem P w ≡ w) (value-path _ _ h) (el v)

-- an expression whose operations have a value has one
pub expression-value : (σ : Assignment) (e : Flat) → NoZeroDivisor σ e → HasValue (value σ e)
unfolding value negated
expression-value σ (Flat.infixed o a b) h = h.2
expression-value σ (Flat.negate a) h = let x = expression-value σ a h in (opposite P x.0, ap negated x.1)
expression-value σ (Flat.constant c) h = (elem P c, refl)
expression-value σ (Flat.variable v) h = (σ v, refl)

or-zero-element : (a : Answer) → ((z : ℤ) → a ≡ Some z → elem P z ≡ z) → elem P (or_zero a) ≡ or_zero a
unfolding or_zero
or-zero-element (Some z) h = h z refl
or-zero-element None h = zero-element

next-elements : (d : Definition) (ρ : Assignment) → Elements ρ → Elements (update ρ d.id (or_zero (value ρ d.right)))
next-elements d ρ el = update_all (λ v x. elem P x ≡ x) ρ d.id _ (or-zero-element (value ρ d.right) (value-element ρ el d.right)) el

pub worked-elements : (ds : List Definition) (ρ : Assignment) → Elements ρ → Elements (worked_out ds ρ)
unfolding worked_out
worked-elements [] ρ el = el
worked-elements (d ∷ ds) ρ el = worked-elements ds _ (next-elements d ρ el)

-- what no definition defines is as it was
pub worked-other : (ds : List Definition) (ρ : Assignment) (v : ℕ) → defines ds v ≡ false → worked_out ds ρ v ≡ ρ v
unfolding worked_out
worked-other [] ρ v h = refl
worked-other (d ∷ ds) ρ v h =
    let r = defines-cons d ds v h in
    worked-other ds _ v r.1 ∙ update_other ρ d.id _ v r.0

pub worked-hold : (ds : List Definition) → Ordered ds → (ρ : Assignment)
    → All (λ d. NoZeroDivisor (worked_out ds ρ) d.right) ds → All (DefinitionHolds (worked_out ds ρ)) ds
unfolding worked_out or_zero
worked-hold [] o ρ h = tt
worked-hold (d ∷ ds) o ρ h = (here (expression-value τ d.right h.0), worked-hold ds o.2 _ h.1)
  where
    τ : Assignment
    τ = worked_out ds (update ρ d.id (or_zero (value ρ d.right)))

    here : HasValue (value τ d.right) → value τ d.right ≡ Some (τ d.id)
    here r =
        let same : value τ d.right ≡ value ρ d.right = value-agrees τ ρ d.right (every_map (worked-other (d ∷ ds) ρ) d.right o.1) in
        r.1 ∙ ap Some (ap or_zero (sym r.1 ∙ same) ∙ sym (worked-other ds _ d.id o.0 ∙ update_same ρ d.id _))

-- operations have the same values when their turn comes and at the end
no-zero-agrees : (σ τ : Assignment) (e : Flat) → Every (λ v. σ v ≡ τ v) e → NoZeroDivisor σ e → NoZeroDivisor τ e
no-zero-agrees σ τ (Flat.infixed o a b) s h =
    let here = subst₂ (λ (x y : Answer). HasValue (on_values o x y)) (value-agrees σ τ a s.0) (value-agrees σ τ b s.1) h.2 in
    (no-zero-agrees σ τ a s.0 h.0, no-zero-agrees σ τ b s.1 h.1, here)
no-zero-agrees σ τ (Flat.negate a) s h = no-zero-agrees σ τ a s h
no-zero-agrees σ τ (Flat.constant c) s h = tt
no-zero-agrees σ τ (Flat.variable v) s h = tt

pub in-turn-is-at-end : InTurnIsAtEnd
unfolding worked_out
in-turn-is-at-end [] o ρ = ((λ h. h), (λ h. h))
in-turn-is-at-end (d ∷ ds) o ρ =
    let ρ' : Assignment = update ρ d.id (or_zero (value ρ d.right)) in
    let same : Every (λ v. worked_out ds ρ' v ≡ ρ v) d.right = every_map (worked-other (d ∷ ds) ρ) d.right o.1 in
    let back : Every (λ v. ρ v ≡ worked_out ds ρ' v) d.right = every_map (λ v (e : worked_out ds ρ' v ≡ ρ v). sym e) d.right same in
    let ih = in-turn-is-at-end ds o.2 ρ' in (
      (λ h. (no-zero-agrees ρ (worked_out ds ρ') d.right back h.0, ih.0 h.1)),
      (λ h. (no-zero-agrees (worked_out ds ρ') ρ d.right same h.0, ih.1 h.1)),
    )

-- two assignments under which the definitions hold agree on all ids, if they agree on those that none defines
pub agree-all : (S : ℕ → Type 0) (σ τ : Assignment) (ds : List Definition) → Ordered ds → All (λ d. Every S d.right) ds → All (DefinitionHolds σ) ds
    → All (DefinitionHolds τ) ds → ((v : ℕ) → S v → defines ds v ≡ false → σ v ≡ τ v) → (v : ℕ) → S v → σ v ≡ τ v
unfolding defines
agree-all S σ τ [] o b h i s v l = s v l refl
agree-all S σ τ (d ∷ ds) o b h i s u below =
    agree-all S σ τ ds o.2 b.1 h.1 i.1 (λ v l n. go v l n (eqb v d.id) refl) u below
  where
    here : σ d.id ≡ τ d.id
    here =
        value-path _ _ (sym h.0 ∙ value-agrees σ τ d.right
        (every_map (λ v r. s v r.0 r.1) d.right (every-both S (λ v. defines (d ∷ ds) v ≡ false) d.right b.0 o.1)) ∙ i.0)

    go : (v : ℕ) → S v → defines ds v ≡ false → (t : Bool) → eqb v d.id ≡ t → σ v ≡ τ v
    go v l n true e = subst (λ (w : ℕ). σ w ≡ τ w) (sym (eqb-true v d.id e)) here
    go v l n false e = s v l (ap (λ (t : Bool). t || defines ds v) e ∙ n)

-- a part of the definitions is in order
pub ordered-those : (t : ℕ → Bool) (ds : List Definition) → Ordered ds → Ordered (those t ds)
unfolding those keep_if defines
ordered-those t [] o = tt
ordered-those t (d ∷ ds) o = go (ordered-those t ds o.2) (t d.id)
  where
    go : Ordered (those t ds) → (b : Bool) → Ordered (keep_if b d (those t ds))
    go ih true = (
      defines-those t ds d.id o.0,
      every_map (λ v h. let r = both_false (eqb v d.id) (defines ds v) h in
          or-false (eqb v d.id) (defines (those t ds) v) r.0 (defines-those t ds v r.1)) d.right o.1,
      ih,
    )
    go ih false = ih
