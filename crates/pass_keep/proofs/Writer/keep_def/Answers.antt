-- `pass_keep::Writer::keep_def` meets its contract. Assumes nothing.
use mathlib.Core.Path.{refl, sym, ap, ◌∙◌}
use mathlib.Core.List.{List}
use denote.MutBor.{MutBor}
use Prim.Native.Nat.{ℕ}
use native.Mathlib.Omega.{arith}
use lib.ListN.{length}
use Rattle.pass_keep.proofs.Definitions.{way-unused, way-other, way-kept}
use Rattle.pass_keep.proofs.Writer.keep_def.Goals as goal

pub returns-then-is_never : goal.returns-then-is_never
returns-then-is_never c =
    let never = sym c.is_never.ensures ∙ c.if-is_never.true in
    record { keeps = way-unused c.args.classes.now.classified _ _ _ _ _ _ _ _ _ never; lent = record { body = refl; list = refl }; steps = refl }

pub returns-then-not-is_prover : goal.returns-then-not-is_prover
returns-then-not-is_prover c =
    let used = sym c.is_never.ensures ∙ c.if-is_never.false in
    let other = sym c.is_prover.ensures ∙ c.if-not-is_prover.true in
    let keeps = way-other c.args.classes.now.classified _ _ _ _ _ _ _ _ _ used _ other c.substitute.ensures.0 in
    record { keeps = keeps; lent = record { body = refl; list = refl }; steps = c.substitute.ensures.1 }

pub put_definition-requires : goal.put_definition-requires
put_definition-requires c =
    let t = c.put_tree-root.ensures in
    omega (arith, c.requires.word_room.0.long, t.at_is, ap (λ (m : MutBor (List ℕ)). length m.now) t.body_is)

pub returns : goal.returns
returns c =
    let used = sym c.is_never.ensures ∙ c.if-is_never.false in
    let prover = sym c.is_prover.ensures ∙ c.if-not-is_prover.false in
    let t = c.put_tree-root.ensures in
    let written = rw (t.body_is, t.at_is) at c.put_definition.ensures in
    record {
      keeps = rw t.at_is (way-kept c.args.classes.now.classified _ _ _ _ _ _ _ _ _ used prover t.list-is t.root_is t.next-is written);
      lent = record { body = ap (λ (m : MutBor (List ℕ)). record m { now = c.put_definition.new.out }) t.body_is; list = t.lent };
      steps = refl;
    }
