use Rattle.std.proofs.Common.{◌≡◌, ℕ, ◌+◌, ◌-◌, List, ◌++◌, rules, arith, length, take, drop, take_all, sym, ap, ◌∙◌, subst}
use Rattle.std.specs.Io.KnownBytes.{Appends}
use Rattle.std.proofs.KnownBytes.{Appends-trans}
use Rattle.std.proofs.lemmas.List.{length-drop}
use lib.Seq.{take-add}
use Rattle.streams.proofs.write_output.Goals as goal

-- the first a, and n of the rest
joined : (a n : ℕ) (xs : List ℕ) → take a xs ++ take n (take (length xs - a) (drop a xs)) ≡ take (a + n) xs
joined a n xs =
    ap (λ l. take a xs ++ take n l) (take_all (length xs - a) (drop a xs) (omega (arith, length-drop a xs))) ∙ sym (take-add a n xs)

pub loop-written-preserved : goal.loop-written-preserved
loop-written-preserved g c =
    (search rules, subst (Appends _ _) (joined _ _ _) (Appends-trans _ _ _ _ _ c.loop-written.invariant.1 c.in_ok-written.ensures.bytes))

pub returns-clause-whole : goal.returns-clause-whole
returns-clause-whole g c = omega arith
