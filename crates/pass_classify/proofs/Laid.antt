-- The places of a record's lists, as its layout has them. Assumes nothing.
use mathlib.Core.Path.{◌≡◌, ap}
use mathlib.Core.List.{List}
use Prim.Native.Nat.{ℕ}
use Rattle.flat.specs.declared.Layout.{Layout}
use Rattle.flat.specs.Layout.{next, publics, provers, definitions, equations, provers_offset, definitions_offset}
use Rattle.flat.specs.Layout.{equations_offset, nodes_offset, layout_of}

module _ (b : List ℕ) {l : Layout} (e : l ≡ layout_of b) where
  pub next-laid : l.next ≡ next b
  unfolding layout_of
  next-laid = ap (λ (x : Layout). x.next) e

  pub publics-laid : l.publics ≡ publics b
  unfolding layout_of
  publics-laid = ap (λ (x : Layout). x.publics) e

  pub provers-laid : l.provers ≡ provers b
  unfolding layout_of
  provers-laid = ap (λ (x : Layout). x.provers) e

  pub definitions-laid : l.definitions ≡ definitions b
  unfolding layout_of
  definitions-laid = ap (λ (x : Layout). x.definitions) e

  pub equations-laid : l.equations ≡ equations b
  unfolding layout_of
  equations-laid = ap (λ (x : Layout). x.equations) e

  pub provers-at-laid : l.provers_at ≡ provers_offset b
  unfolding layout_of
  provers-at-laid = ap (λ (x : Layout). x.provers_at) e

  pub definitions-at-laid : l.definitions_at ≡ definitions_offset b
  unfolding layout_of
  definitions-at-laid = ap (λ (x : Layout). x.definitions_at) e

  pub equations-at-laid : l.equations_at ≡ equations_offset b
  unfolding layout_of
  equations-at-laid = ap (λ (x : Layout). x.equations_at) e

  pub nodes-at-laid : l.nodes_at ≡ nodes_offset b
  unfolding layout_of
  nodes-at-laid = ap (λ (x : Layout). x.nodes_at) e
