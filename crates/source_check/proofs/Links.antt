-- The loop along a chain of links. Assumes nothing.
use Prim.Native.Nat.{ℕ, ◌+◌, ◌≤◌, ◌<◌}
use mathlib.Core.Path.{◌≡◌, refl, ap, ◌∙◌}
use mathlib.Core.List.{List}
use mathlib.Core.Bool.{Bool, true, false, ◌&&◌, ◌||◌, and-false}
use native.Mathlib.Omega.{arith}
use lib.Dec.{eqb}
use Rattle.std.specs.Prelude.{Option, Some, None, Ok}
use Rattle.std.proofs.lemmas.Bool.{eq-eqb, ne_eqb}
use Rattle.marks.specs.declared.Uses.{Uses}
use Rattle.marks.specs.Indices.{pick, same}
use Rattle.marks.specs.Marks.{used, Adds}
use Rattle.marks.proofs.Counted.{adds-use, adds-more, adds_same}
use Rattle.records.specs.declared.refusals.Refusal.{Refusal}
use Rattle.source.specs.declared.Node.{Node}
use Rattle.source.specs.declared.Chain.{Chain as Owner}
use Rattle.source.specs.Nodes.{entry_of, item_fits, result_fits, link_fits, chain_fits}
use Rattle.source.specs.Uses.{result_uses, link_uses, chain_uses}
use Rattle.source.proofs.Links.{chain-late, chain-is, uses-is}
use Rattle.source_check.specs.Answer.{Checked}
use Rattle.source_check.specs.Marks.{Judged}
use Rattle.source_check.proofs.Marks.{accepted}

-- ---- the loop along a chain

-- marks m from which what g uses leads to what f uses from marks m₀
pub record Onward (m₀ m : List Uses) (f g : ℕ → ℕ) : Type 0 where
  pub onward : (m' : List Uses) → Adds m m' g → Adds m₀ m' f

pub onward-start : (m : List Uses) (f : ℕ → ℕ) → Onward m m f f
onward-start m f = record { onward = λ m' a. a }

not-link : (b : List ℕ) (at : ℕ) (h : Owner) (rest : ℕ → Bool) (k : ℕ) (n : Node) → ((item next result : ℕ) → n ≡ Node.Link item next result → ⊥)
    → link_fits b at h rest k (Some n) ≡ false
unfolding link_fits
not-link b at h rest k (Node.Expression f) o = refl
not-link b at h rest k (Node.Pattern p) o = refl
not-link b at h rest k (Node.Link item next result) o = absurd (o item next result refl)

-- at link x, met below `above`, of a chain from `first` on that node k owns: what is left decides
pub record Way (b : List ℕ) (at : ℕ) (h : Owner) (k first above x : ℕ) : Type 0 where
  pub alike : chain_fits b at h k first ≡ chain_fits b at h above x

module _ {b : List ℕ} {at : ℕ} {h : Owner} {k first above x : ℕ} (i : Way b at h k first above x) where
  pub way-late : above ≤ x → chain_fits b at h k first ≡ false
  way-late l = i.alike ∙ chain-late b at h above x l

  module _ (l : x < above) where
    entry-is : {f : Option Node} → entry_of b at x ≡ f → chain_fits b at h k first ≡ link_fits b at h (chain_fits b at h x) x f
    entry-is w = i.alike ∙ chain-is b at h above x l ∙ ap (link_fits b at h (chain_fits b at h x) x) w

    pub way-none : entry_of b at x ≡ None → chain_fits b at h k first ≡ false
    unfolding link_fits
    way-none w = entry-is w

    pub way-other : {n : Node} → entry_of b at x ≡ Some n → ((item next result : ℕ) → n ≡ Node.Link item next result → ⊥) → chain_fits b at h k first ≡ false
    way-other {n} w o = entry-is w ∙ not-link b at h _ x n o

    module _ {item next result : ℕ} (w : entry_of b at x ≡ Some (Node.Link item next result)) where
      link-is : chain_fits b at h k first ≡ (item_fits b at h x item && (result_fits b at h x result && (eqb next 4294967295 || chain_fits b at h x next)))
      unfolding link_fits
      link-is = entry-is w

      pub way-item : item_fits b at h x item ≡ false → chain_fits b at h k first ≡ false
      way-item f = link-is ∙ rw f

      pub way-result : result_fits b at h x result ≡ false → chain_fits b at h k first ≡ false
      way-result f = link-is ∙ rw (f, and-false)

      module _ {r₁ r₂ : Checked} {m₀ m m₁ m₂ m₃ : List Uses} (u : m₁ ≡ used m x) (j₁ : Judged r₁ (item_fits b at h x item) m₁ m₂ (same item)) (a₁ : r₁ ≡ Ok tt)
          (j₂ : Judged r₂ (result_fits b at h x result) m₂ m₃ (result_uses h result)) (a₂ : r₂ ≡ Ok tt)
          (j : Onward m₀ m (chain_uses b at h k first) (chain_uses b at h above x)) where
        link-uses : (y : ℕ)
            → chain_uses b at h above x y ≡ same x y + (same item y + (result_uses h result y + pick (eqb next 4294967295) 0 (chain_uses b at h x next y)))
        unfolding link_uses
        link-uses y = uses-is b at h above x y l ∙ ap (λ (n : Option Node). same x y + link_uses h (λ z. chain_uses b at h x z y) n y) w

        three : Adds m m₃ (λ y. same x y + (same item y + result_uses h result y))
        three = adds-more _ (adds-use x u) (adds-more (λ y. same item y + result_uses h result y) (j₁.1 a₁) (j₂.1 a₂) (λ y. refl)) (λ y. refl)

        link-fits : chain_fits b at h k first ≡ (eqb next 4294967295 || chain_fits b at h x next)
        link-fits = link-is ∙ rw (accepted Refusal.Entry _ j₁.0 a₁, accepted Refusal.Entry _ j₂.0 a₂)

        pub way_end : next ≡ 4294967295 → (chain_fits b at h k first ≡ true) × Adds m₀ m₃ (chain_uses b at h k first)
        unfolding pick
        way_end z = (
          link-fits ∙ rw (eq-eqb next 4294967295 z),
          j.onward m₃ (adds_same (chain_uses b at h above x) three
              (λ y. let v : chain_uses b at h above x y ≡ same x y + (same item y + (result_uses h result y + 0)) =
              link-uses y ∙ rw (eq-eqb next 4294967295 z) in omega arith)),
        )

        pub way_on : (next ≡ 4294967295 → ⊥)
            → Way b at h k first x next × Onward m₀ m₃ (chain_uses b at h k first) (chain_uses b at h x next)
        unfolding pick
        way_on z = (
          record { alike = link-fits ∙ rw (ne_eqb next 4294967295 z) },
          record {
            onward = λ m' a. j.onward m' (adds-more (chain_uses b at h above x) three a
                (λ y. let v : chain_uses b at h above x y ≡ same x y + (same item y + (result_uses h result y + chain_uses b at h x next y)) =
                link-uses y ∙ rw (ne_eqb next 4294967295 z) in omega arith));
          },
        )
