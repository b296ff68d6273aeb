-- `pass_classify::override_usage` meets its contract. Assumes nothing.
use borrow.Author.Rules.{rules}
use native.Mathlib.Omega.{arith}
use mathlib.Core.Path.{◌≡◌, refl}
use mathlib.Core.Bool.{Bool, true, false}
use lib.ListN.{get_or, set}
use lib.Seq.{get_or-set_same}
use Rattle.pass_trees.specs.declared.Usage.{Usage}
use Rattle.pass_trees.specs.declared.Usage.TheVariants.{Never, Witness, Constraint}
use Rattle.pass_trees.specs.Passes.{override}
use Rattle.pass_classify.proofs.Arrays.{uses-set, uses-none}
use Rattle.pass_classify.proofs.override_usage.Goals as goal
use Rattle.pass_classify.proofs.override_usage.Goals.{then-eq+then-provers-id, else-eq, else-eq-via-then-eq+else-provers-id, else-eq-via-else-eq}

-- a usage that is not overridden
kept : (u : Usage) (p : Bool) → (u ≡ Constraint → ⊥) → u ≡ override p u
unfolding override
kept Never p n = refl
kept Witness true n = refl
kept Witness false n = refl
kept Constraint p n = absurd (n refl)

pub returns : goal.returns
unfolding override
returns c =
    let m = c.args.usage.now in
    let id = c.args.id in
    elim c.if-eq.branch [
      | then-eq+then-provers-id w ↦
          let here : get_or m id Never ≡ Constraint = search rules in
          let read : get_or (set m id Witness) id Never ≡ Witness = get_or-set_same m id Witness Never (omega (arith, c.told-usage, c.requires)) in
          rw (w.usage-is, read) (record { value = rw (here, w.if-provers-id.true); uses = uses-set m id Witness c.requires c.told-usage })
      | else-eq w ↦ elim w.else-eq.branch [
        | else-eq-via-then-eq+else-provers-id u ↦
            let here : get_or m id Never ≡ Constraint = search rules in
            rw w.usage-is (record { value = rw (here, u.if-provers-id.false); uses = uses-none m id _ c.told-usage refl })
        | else-eq-via-else-eq u ↦
            let other : get_or m id Never ≡ Constraint → ⊥ = search rules in
            rw w.usage-is (record { value = kept _ _ other; uses = uses-none m id _ c.told-usage refl })
      ]
    ]
