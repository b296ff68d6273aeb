-- Counting the used definitions. Assumes nothing.
use mathlib.Core.Path.{◌≡◌, refl, sym, ap, ◌∙◌}
use mathlib.Core.List.{List, ◌∷◌}
use mathlib.Core.Bool.{Bool, true, false, not}
use Prim.Native.Nat.{ℕ, zero, suc, ◌+◌, ◌<◌}
use native.Mathlib.Omega.{arith}
use lib.ListN.{length}
use Rattle.std.specs.List.{filter, range_with_len}
use Rattle.flat.specs.declared.entries.DefinitionEntry.{DefinitionEntry}
use Rattle.flat.specs.Layout.{definitions, definitions_offset, definition_entry}
use Rattle.flat.specs.Record.{pick, module_of}
use Rattle.flat.specs.Trees.{Definition}
use Rattle.flat.specs.Readable.{Readable}
use Rattle.flat.proofs.Reading.{definition-below}
use Rattle.pass_trees.specs.declared.Usage.{Usage}
use Rattle.pass_trees.specs.Passes.{is_never, classify_defs, keep_if, those}
use Rattle.pass_classify.specs.Arrays.{usage_of, Classified}
use Rattle.pass_classify.specs.Readable.{tree_of}
use Rattle.pass_classify.proofs.Lists.{definitions_from, definitions-none, definitions-whole, definitions-more}

kept-length : (t : Bool) (d : Definition) (ds : List Definition) → length (keep_if t d ds) ≡ pick t 1 0 + length ds
unfolding keep_if pick
kept-length true d ds = omega arith
kept-length false d ds = omega arith

taken-length : (p : ℕ → Bool) (k : ℕ) (ks : List ℕ) → length (filter p (k ∷ ks)) ≡ pick (p k) 1 0 + length (filter p ks)
unfolding pick
taken-length p k ks = go (p k) refl
  where
    go : (t : Bool) → p k ≡ t → length (filter p (k ∷ ks)) ≡ pick t 1 0 + length (filter p ks)
    go true e = rw e (omega arith)
    go false e = rw e (omega arith)

module _ {b : List ℕ} (r : Readable b) (m : List Usage) where
  abbrev pub used : ℕ → Bool
  used v = not (is_never (usage_of m v))

  -- whether the definition at an index is used
  abbrev pub used-at : ℕ → Bool
  used-at k = used (definition_entry b (definitions_offset b) k).id

  used_from : ℕ → ℕ
  used_from k = length (those used (definitions_from b k))

  -- how many of a record's definitions from index k on are used
  used-left : (n k : ℕ) → k + n ≡ definitions b → length (filter used-at (range_with_len k n)) ≡ used_from k
  unfolding used_from those
  used-left zero k e = ap (λ (ds : List Definition). length (those used ds)) (sym (definitions-none b k (omega arith)))
  used-left (suc n) k e =
      let l : k < definitions b = omega arith in
      let w = definition-below r k l in
      let entry : DefinitionEntry = definition_entry b (definitions_offset b) k in
      let d : Definition = record { id = entry.id; right = tree_of b entry.node; place = entry.place } in
      let first : used_from k ≡ pick (used-at k) 1 0 + used_from (k + 1) =
      ap (λ (ds : List Definition). length (those used ds)) (definitions-more b l refl (omega (arith, w.0, r.next_small), w.1))
      ∙ kept-length (used-at k) d (those used (definitions_from b (k + 1))) in
      let rest = used-left n (k + 1) (omega arith) in
      omega (arith, first, rest, taken-length used-at k (range_with_len (k + 1) n))

  pub used_all : length (filter used-at (range_with_len 0 (definitions b))) ≡ length (those used (module_of b).definitions)
  unfolding used_from
  used_all = used-left (definitions b) 0 (omega arith) ∙ ap (λ (ds : List Definition). length (those used ds)) (sym (definitions-whole b))

  -- the test of the code
  pub used-read : (k : ℕ) {entry : DefinitionEntry} {x : Bool} → entry ≡ definition_entry b (definitions_offset b) k
      → x ≡ is_never (usage_of m entry.id) → not x ≡ used-at k
  used-read k e f = rw e at (ap not f)

-- after classify_defs they are the definitions that it leaves
pub used-classified : {b : List ℕ} {m : List Usage} {p : List Bool} → Classified b m p →
    those (λ v. not (is_never (usage_of m v))) (module_of b).definitions ≡ (classify_defs (module_of b)).definitions
unfolding classify_defs
used-classified {b} c = ap (λ (f : ℕ → Usage). those (λ v. not (is_never (f v))) (module_of b).definitions) c.used
