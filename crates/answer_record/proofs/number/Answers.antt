-- `answer_record::number` meets its contract. Assumes nothing.
use Rattle.std.proofs.Common.{arith, refl, rules, ◌∙◌, ◌+◌, ◌*◌, ℕ, ap}
use Rattle.answer_record.specs.Given.{at_most}
use Rattle.answer_record.proofs.Laws.{at-most-min, empty-none, digits-all, digit-none, digit-more}
use Rattle.answer_record.proofs.number.Goals as goal

pub returns-then-is_empty : goal.returns-then-is_empty
returns-then-is_empty c = empty-none _ (search rules)

pub returns-then-not-is_ascii_digit : goal.returns-then-not-is_ascii_digit
returns-then-not-is_ascii_digit c =
    digit-none _ _ _ c.loop-digit.invariant.0 c.loop-digit-test.true refl (c.if-not-is_ascii_digit.ensures.cases)

pub loop-digit-preserved : goal.loop-digit-preserved
loop-digit-preserved c =
    let inside = c.if-not-is_ascii_digit.ensures.cases in (
      digit-more _ _ _ c.loop-digit.invariant.0 c.loop-digit-test.true refl inside.0 inside.1
          (c.min-value.ensures ∙ at-most-min _ _ ∙ ap (λ (d : ℕ). at_most (c.loop-digit.value * 10 + d) 100000000) c.from.ensures),
      omega arith,
    )

pub returns : goal.returns
returns c =
    digits-all c.args.text.now c.loop-digit.value c.loop-digit.digit-index c.loop-digit.invariant.0 (omega arith) (search rules) c.loop-digit.invariant.1
