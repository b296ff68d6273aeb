-- Runs of nodes: the words that hold them, that they fit, and that each node of a run is used once, by the run or by whoever owes it. Assumes nothing.
use Prim.Native.Nat.{ℕ, zero, suc, ◌+◌, ◌*◌, ◌≤◌, ◌<◌}
use mathlib.Core.Path.{◌≡◌, refl, sym, ap, ◌∙◌}
use mathlib.Core.List.{List, ◌++◌}
use mathlib.Core.Bool.{Bool, true, false, ◌&&◌}
use mathlib.Core.Logic.{⊎_elim}
use native.Mathlib.Numerals.{add-one}
use native.Mathlib.Omega.{arith}
use lib.ListN.{length, get_or, length-append, get_or-append}
use lib.Seq.{get_or-append-add}
use lib.Dec.{leb, ltb}
use borrow.Author.Tests.{le-leb, lt-leb, lt-ltb, le-ltb}
use Rattle.words.specs.Words.{word_at}
use Rattle.std.specs.Prelude.{Option}
use Rattle.source.specs.declared.Node.{Node}
use Rattle.marks.specs.Indices.{pick, same}
use Rattle.source.specs.Nodes.{entry_for, entry_of, children_of, children_fit, nodes_fit}
use Rattle.source.specs.Uses.{children_use, by_nodes}
use Rattle.source.specs.Encoding.{node, root_of, link_to}
use Rattle.std.proofs.lemmas.Bool.{cases_lt}
use Rattle.marks.proofs.Indices.{every_more, total-more}
use Rattle.marks.proofs.Indices.{same-yes, same-no}
use Rattle.source.specs.Layout.{node_entry}
use Rattle.source.proofs.Nodes.{entry-is}

-- ---- words from one on

abbrev pub Holds : List ℕ → ℕ → List ℕ → Type 0
Holds b i ws = (j : ℕ) → j < length ws → word_at b (i + j) ≡ get_or ws j 0

pub holds-left : (b : List ℕ) (i : ℕ) (xs ys : List ℕ) → Holds b i (xs ++ ys) → Holds b i xs
holds-left b i xs ys h j l = h j (simp length-append (omega arith)) ∙ get_or-append xs ys 0 j l

pub holds-right : (b : List ℕ) (i n : ℕ) (xs ys : List ℕ) → length xs ≡ n → Holds b i (xs ++ ys) → Holds b (i + n) ys
holds-right b i n xs ys e h j l =
    let q : i + n + j ≡ i + (length xs + j) = omega arith in
    rw q (h (length xs + j) (simp length-append (omega arith)) ∙ get_or-append-add xs ys j 0)

-- nodes after n nodes
pub nodes-after : (b : List ℕ) (at s n : ℕ) (xs ys : List ℕ) → length xs ≡ 4 * n → Holds b (at + 4 * s) (xs ++ ys) → Holds b (at + 4 * (s + n)) ys
nodes-after b at s n xs ys e h =
    let q : at + 4 * (s + n) ≡ at + 4 * s + 4 * n = omega arith in
    rw q (holds-right b (at + 4 * s) (4 * n) xs ys e h)

pub node-held : (b : List ℕ) (at s : ℕ) {k x y z : ℕ} → Holds b (at + 4 * s) (node k x y z) → entry_of b at s ≡ entry_for k x y z
node-held b at s {k} {x} {y} {z} h =
    let e : at + 4 * s + 0 ≡ at + 4 * s = omega arith in
    let here = sym (rw e at (h 0 (omega arith))) in
    let first = sym (h 1 (omega arith)) in
    let second = sym (h 2 (omega arith)) in
    let third = sym (h 3 (omega arith)) in
    let words : record { kind = k; a = x; b = y; c = z } ≡ node_entry b at s =
    λ i. record { kind = here i; a = first i; b = second i; c = third i } in
    sym (entry-is b at s _ words)

-- ---- the indices from s up to e

pub within : ℕ → ℕ → ℕ → ℕ
within s e j = pick (leb s j && ltb j e) 1 0

pub within-yes : (s e j : ℕ) → s ≤ j → j < e → within s e j ≡ 1
unfolding within pick
within-yes s e j h l = rw (le-leb s j h, lt-ltb j e l)

within_low : (s e j : ℕ) → j < s → within s e j ≡ 0
unfolding within pick
within_low s e j h = rw (lt-leb s j h)

within-high-at : (t : Bool) → ◌≡◌ {A = ℕ} (pick (t && false) 1 0) 0
unfolding pick
within-high-at true = refl
within-high-at false = refl

within-high : (s e j : ℕ) → e ≤ j → within s e j ≡ 0
unfolding within
within-high s e j h = rw (le-ltb j e h) (within-high-at (leb s j))

pub within_none : (s j : ℕ) → within s s j ≡ 0
within_none s j = ⊎_elim (λ (g : j < s). within_low s s j g) (λ (g : s ≤ j). within-high s s j g) (cases_lt j s)

pub within-join : (s m e j : ℕ) → s ≤ m → m ≤ e → within s m j + within m e j ≡ within s e j
within-join s m e j p q =
    ⊎_elim
    (λ (g : j < s). omega (arith, within_low s m j g, within_low m e j (omega arith), within_low s e j g))
    (λ (g : s ≤ j). ⊎_elim
    (λ (f : j < m). omega (arith, within-yes s m j g f, within_low m e j f, within-yes s e j g (omega arith)))
    (λ (f : m ≤ j). ⊎_elim
    (λ (d : j < e). omega (arith, within-high s m j f, within-yes m e j f d, within-yes s e j g d))
    (λ (d : e ≤ j). omega (arith, within-high s m j f, within-high m e j d, within-high s e j d))
    (cases_lt j e))
    (cases_lt j m))
    (cases_lt j s)

pub within-one : (t j : ℕ) → same t j ≡ within t (t + 1) j
within-one t j =
    ⊎_elim
    (λ (g : j < t). omega (arith, same-no t j (λ e. omega arith), within_low t (t + 1) j g))
    (λ (g : t ≤ j). ⊎_elim
    (λ (f : j < t + 1). omega (arith, same-yes t j (omega arith), within-yes t (t + 1) j g f))
    (λ (f : t + 1 ≤ j). omega (arith, same-no t j (λ e. omega arith), within-high t (t + 1) j f))
    (cases_lt j (t + 1)))
    (cases_lt j t)

-- ---- a run of nodes from s up to e: it fits where what stands before it does, and with what is owed each of its nodes is used once

pub record Span (b : List ℕ) (at names s e : ℕ) (owed : ℕ → ℕ) : Type 0 where
  pub fits : nodes_fit b at names s ≡ true → nodes_fit b at names e ≡ true
  pub uses : (j : ℕ) → by_nodes b at e j + owed j ≡ by_nodes b at s j + within s e j

module _ (b : List ℕ) (at names : ℕ) where
  pub span_none : (s : ℕ) → Span b at names s s (λ j. 0)
  span_none s = record { fits = λ h. h; uses = λ j. omega (arith, within_none s j) }

  pub span-join : {s m e : ℕ} {f g : ℕ → ℕ} → s ≤ m → m ≤ e → Span b at names s m f → Span b at names m e g → Span b at names s e (λ j. f j + g j)
  span-join {s} {m} {e} p q x y = record { fits = λ h. y.fits (x.fits h); uses = λ j. omega (arith, x.uses j, y.uses j, within-join s m e j p q) }

  pub span-owed : {s e : ℕ} {f : ℕ → ℕ} (g : ℕ → ℕ) → ((j : ℕ) → g j ≡ f j) → Span b at names s e f → Span b at names s e g
  span-owed g q x = record { fits = x.fits; uses = λ j. omega (arith, x.uses j, q j) }

  node-fits : (t : ℕ) → children_fit b at names t (children_of (entry_of b at t)) ≡ true → nodes_fit b at names t ≡ true → nodes_fit b at names (t + 1) ≡ true
  unfolding nodes_fit
  node-fits t c h = every_more t (λ k. children_fit b at names k (children_of (entry_of b at k))) h c

  node-uses : (t j : ℕ) → by_nodes b at (t + 1) j ≡ by_nodes b at t j + children_use b at t (children_of (entry_of b at t)) j
  unfolding by_nodes
  node-uses t j = total-more t (λ i. children_use b at i (children_of (entry_of b at i)) j)

  -- a node that uses what was owed is owed itself
  pub span-node : {s t : ℕ} {f : ℕ → ℕ} {n : Option Node} → s ≤ t → Span b at names s t f → entry_of b at t ≡ n
      → children_fit b at names t (children_of n) ≡ true
      → ((j : ℕ) → children_use b at t (children_of n) j ≡ f j) → Span b at names s (t + 1) (same t)
  span-node {s} {t} p x e c u = record {
    fits = λ h. node-fits t (ap (λ (i : Option Node). children_fit b at names t (children_of i)) e ∙ c) (x.fits h);
    uses = λ j. omega (
      arith,
      node-uses t j,
      ap (λ (i : Option Node). children_use b at t (children_of i) j) e,
      u j,
      x.uses j,
      within-one t j,
      within-join s t (t + 1) j p (omega arith),
    );
  }

  -- a node that uses nothing leaves what was owed, and is owed itself
  pub span-link : {s t : ℕ} {f : ℕ → ℕ} {n : Option Node} → s ≤ t → Span b at names s t f → entry_of b at t ≡ n
      → children_fit b at names t (children_of n) ≡ true
      → ((j : ℕ) → children_use b at t (children_of n) j ≡ 0) → Span b at names s (t + 1) (λ j. same t j + f j)
  span-link {s} {t} p x e c u = record {
    fits = λ h. node-fits t (ap (λ (i : Option Node). children_fit b at names t (children_of i)) e ∙ c) (x.fits h);
    uses = λ j. omega (
      arith,
      node-uses t j,
      ap (λ (i : Option Node). children_use b at t (children_of i) j) e,
      u j,
      x.uses j,
      within-one t j,
      within-join s t (t + 1) j p (omega arith),
    );
  }

-- ---- roots

pub root_is : (s n : ℕ) → root_of s (n + 1) ≡ s + n
unfolding root_of
root_is s n = omega arith

pub root_below : (s n : ℕ) → 1 ≤ n → root_of s n < s + n
unfolding root_of
root_below s n h = omega arith

pub root-more : (s n : ℕ) → 1 ≤ n → s ≤ root_of s n
unfolding root_of
root-more s n h = omega arith

pub link-to : (s n : ℕ) → link_to s (n + 1) ≡ s + n
unfolding link_to
link-to s n = rw add-one

pub link-root : (s n : ℕ) → 1 ≤ n → link_to s n ≡ root_of s n
unfolding link_to root_of
link-root s zero h = absurd (omega arith)
link-root s (suc n) h = omega arith
