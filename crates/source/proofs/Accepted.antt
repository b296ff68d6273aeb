-- An accepted record is readable, and its module is what the record says. Assumes nothing.
use Prim.Native.Nat.{ℕ}
use mathlib.Core.Path.{◌≡◌, refl}
use mathlib.Core.List.{List}
use mathlib.Core.Bool.{Bool, true, false, ◌&&◌, ◌||◌}
use native.Mathlib.Omega.{arith}
use lib.ListN.{length}
use lib.Dec.{leb, ltb, eqb}
use borrow.Author.Tests.{leb-true}
use Rattle.records.specs.declared.refusals.Refusal.{Refusal}
use Rattle.source.specs.Trees.{Module}
use Rattle.source.specs.Layout.{counted, listed, names, publics, definitions, expressions}
use Rattle.source.specs.Layout.{nodes, publics_offset, definitions_offset, expressions_offset, nodes_offset, text_offset}
use Rattle.source.specs.Names.{names_fit, names_differ}
use Rattle.source.specs.Nodes.{nodes_fit, publics_fit, definitions_fit, expressions_fit}
use Rattle.source.specs.Record.{Read, shaped, used_once, module_of, unless, source_of}
use Rattle.source.specs.Readable.{Readable}
use Rattle.marks.proofs.Indices.{and_left, and_right}

-- the tests that an accepted record passes
pub record Passed (b : List ℕ) : Type 0 where
  pub header : leb 20 (length b) ≡ true
  pub counts : counted b ≡ true
  pub lists : listed b ≡ true
  pub names-fit : names_fit b (text_offset b) (names b) ≡ true
  pub names-differ : names_differ b (text_offset b) (names b) ≡ true
  pub shapes : shaped b ≡ true
  pub used-once : used_once b ≡ true

no : {A : Type 0} {m : Module} {n : Refusal} → Read.refused n ≡ Read.module-of m → A
no e = let z : ◌≡◌ {A = ℕ} 0 1 = cc in absurd (omega arith)

-- a test that was passed
pass : (t : Bool) (n : Refusal) (r : Read) (m : Module) → unless t n r ≡ Read.module-of m → (t ≡ true) × (r ≡ Read.module-of m)
unfolding unless
pass true n r m e = (refl, e)
pass false n r m e = no e

pub passed : (b : List ℕ) (m : Module) → source_of b ≡ Read.module-of m → Passed b × (m ≡ module_of b)
unfolding source_of
passed b m q =
    let r7 = Read.module-of (module_of b) in
    let r6 = unless (used_once b) Refusal.Uses r7 in
    let r5 = unless (shaped b) Refusal.Entry r6 in
    let r4 = unless (names_differ b (text_offset b) (names b)) Refusal.EqualNames r5 in
    let r3 = unless (names_fit b (text_offset b) (names b)) Refusal.Name r4 in
    let r2 = unless (listed b) Refusal.Length r3 in
    let r1 = unless (counted b) Refusal.Count r2 in
    let p1 = pass (leb 20 (length b)) Refusal.Length r1 m q in
    let p2 = pass (counted b) Refusal.Count r2 m p1.1 in
    let p3 = pass (listed b) Refusal.Length r3 m p2.1 in
    let p4 = pass (names_fit b (text_offset b) (names b)) Refusal.Name r4 m p3.1 in
    let p5 = pass (names_differ b (text_offset b) (names b)) Refusal.EqualNames r5 m p4.1 in
    let p6 = pass (shaped b) Refusal.Entry r6 m p5.1 in
    let p7 = pass (used_once b) Refusal.Uses r7 m p6.1 in
    let e : Read.module-of (module_of b) ≡ Read.module-of m = p7.1 in
    (record { header = p1.0; counts = p2.0; lists = p3.0; names-fit = p4.0; names-differ = p5.0; shapes = p6.0; used-once = p7.0 }, cc)

-- whatever passes is accepted
pub accepts-passed : (b : List ℕ) → Passed b → source_of b ≡ Read.module-of (module_of b)
unfolding source_of unless
accepts-passed b p = rw (p.header, p.counts, p.lists, p.names-fit, p.names-differ, p.shapes, p.used-once)

-- ---- what a walk relies on

pub readable : (b : List ℕ) → Passed b → Readable b
unfolding counted listed shaped
readable b p =
    let a = leb (names b) 512 in
    let c = leb (publics b) 64 in
    let d = leb (definitions b) 512 in
    let e = leb (expressions b) 512 in
    let f = leb (nodes b) 2048 in
    let h1 = and_right a (c && (d && (e && f))) p.counts in
    let h2 = and_right c (d && (e && f)) h1 in
    let h3 = and_right d (e && f) h2 in
    let w = nodes_fit b (nodes_offset b) (names b) (nodes b) in
    let x = publics_fit b (names b) (publics_offset b) (publics b) in
    let y = definitions_fit b (nodes_offset b) (nodes b) (definitions_offset b) (definitions b) in
    let z = expressions_fit b (nodes_offset b) (nodes b) (expressions_offset b) (expressions b) in
    let s1 = and_right w (x && (y && z)) p.shapes in
    let s2 = and_right x (y && z) s1 in
    record {
      names-few = leb-true (names b) 512 (and_left a (c && (d && (e && f))) p.counts);
      publics-few = leb-true (publics b) 64 (and_left c (d && (e && f)) h1);
      definitions-few = leb-true (definitions b) 512 (and_left d (e && f) h2);
      expressions-few = leb-true (expressions b) 512 (and_left e f h3);
      nodes-few = leb-true (nodes b) 2048 (and_right e f h3);
      long = leb-true (text_offset b) (length b) (and_left (leb (text_offset b) (length b)) (ltb 0 (names b) || eqb (length b) (text_offset b)) p.lists);
      names-fit = p.names-fit;
      names-differ = p.names-differ;
      nodes-fit = and_left w (x && (y && z)) p.shapes;
      publics-fit = and_left x (y && z) s1;
      definitions-fit = and_left y z s2;
      expressions-fit = and_right y z s2;
      used-once = p.used-once;
    }

pub accepted-readable : (b : List ℕ) (m : Module) → source_of b ≡ Read.module-of m → Readable b
accepted-readable b m q = readable b (passed b m q).0

pub accepted-module : (b : List ℕ) (m : Module) → source_of b ≡ Read.module-of m → m ≡ module_of b
accepted-module b m q = (passed b m q).1
