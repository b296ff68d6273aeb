-- `words::word_at` meets its contract. Assumes nothing.
use Rattle.std.proofs.Common.{◌≡◌, ℕ, zero, suc, ◌+◌, ◌*◌, ◌/◌, ◌<◌, List, [], length, ap, ◌∙◌, arith}
use Rattle.std.specs.Prelude.{get_or, drop}
use Rattle.std.specs.List.{slice_index}
use Rattle.std.specs.Simd.{first_chunks}
use Rattle.std.proofs.lemmas.List.{get_or-take, get_or-drop}
use Rattle.words.specs.Words.{word_at}
use Rattle.words.proofs.word_at.Goals as goal

-- byte j of the i-th chunk of four
chunk-byte : (k i : ℕ) (xs : List ℕ) (j : ℕ) → i < k → j < 4 → get_or (get_or (first_chunks 4 k xs) i []) j 0 ≡ get_or xs (4 * i + j) 0
chunk-byte zero i xs j l h = elim l [ ]
chunk-byte (suc k) zero xs j l h = get_or-take 4 xs j 0 h ∙ ap (λ (m : ℕ). get_or xs m 0) (omega arith)
chunk-byte (suc k) (suc i) xs j l h =
    chunk-byte k i (drop 4 xs) j (omega (arith, l)) h ∙ get_or-drop 4 xs (4 * i + j) 0 ∙ ap (λ (m : ℕ). get_or xs m 0) (omega arith)

pub returns : goal.returns
unfolding word_at
returns c =
    let s = c.args.s.now in
    let i = c.args.i in
    let byte : (j : ℕ) → j < 4 → slice_index (get_or c.as_chunks.result.0.now i []) j ≡ get_or s (4 * i + j) 0 = λ j h.
    ap (λ (cs : List (List ℕ)). get_or (get_or cs i []) j 0) c.as_chunks.ensures.front ∙ chunk-byte (length s / 4) i s j (omega (arith, c.requires)) h in
    let first : slice_index (get_or c.as_chunks.result.0.now i []) 0 ≡ get_or s (4 * i) 0 =
    byte 0 (omega arith) ∙ ap (λ (m : ℕ). get_or s m 0) (omega arith) in
    c.from_le_bytes.ensures ∙ omega (arith, first, byte 1 (omega arith), byte 2 (omega arith), byte 3 (omega arith))
