-- With the place words taken out the whole way is what it is without them. Assumes nothing.
use mathlib.Core.Path.{◌≡◌, refl, sym, ap, ◌∙◌}
use mathlib.Core.List.{List}
use Prim.Native.Nat.{ℕ}
use Rattle.numbering.specs.Numbering.{numbered}
use Rattle.records.specs.Evaluation.{LEVELS}
use Rattle.flat.specs.Places.{place_module}
use Rattle.flat.proofs.PlaceLaws.{bare-placed}
use Rattle.eval_trees.specs.Evaluation.{Evaluated, flat, refusal, evaluated_by, evaluated, placed}
use Rattle.pass_trees.specs.Passes.{cut_of}
use Rattle.pass_trees.specs.Statements.{bare_outcome}
use Rattle.pass_trees.proofs.Apart.{places-apart}
use Rattle.agreement.specs.Flattened.{passed, flattened_of}
use Rattle.agreement.specs.Bare.{FlattenedBare}

-- places given to an evaluated module make no difference to what is cut of it, but places
placed-bare : (ps qs : List ℕ) (v : Evaluated) → bare_outcome (passed (placed ps qs v)) ≡ bare_outcome (passed v)
unfolding placed passed
placed-bare ps qs (flat g) =
    (places-apart (place_module ps qs g)).cut-is ∙ ap cut_of (bare-placed ps qs g) ∙ sym (places-apart g).cut-is
placed-bare ps qs (refusal n) = refl

pub flattened-bare : FlattenedBare
unfolding flattened_of evaluated
flattened-bare capacity m = placed-bare _ _ (evaluated_by LEVELS capacity (numbered m))
