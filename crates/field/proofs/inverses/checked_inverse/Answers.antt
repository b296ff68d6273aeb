-- `field::inverses::checked_inverse` meets its contract. The loop's invariant: the rest is the residue of b times the factor, and is above 0 since P is prime.
-- The measure is the rest. Assumes nothing.
use mathlib.Core.Path.{◌≡◌, refl, ap, sym, ◌∙◌}
use Prim.Native.Nat.{ℕ, ◌*◌, ◌-◌, ◌/◌, ◌%◌, ◌<◌}
use native.Mathlib.Nat.{mod-lt, mod-eq_of_lt, pos_of_ne-zero, lt_trans}
use lib.Dec.{lit<}
use native.Mathlib.Omega.{arith}
use Rattle.std.specs.Prelude.{Some}
use borrow.Author.Tests.{ne_eqb}
use Rattle.field.specs.Prime.{P}
use Rattle.field.specs.Element.{inv}
use Rattle.field.specs.Operations.{checked_inverse}
use Rattle.field.proofs.Primality.{P-prime}
use Rattle.field.proofs.Modular.{inv-lt, inv_right, inv_unique, down, mod-mul-mod}
use Rattle.field.proofs.Calls.{product_small}
use Rattle.field.proofs.inverses.checked_inverse.Goals as goal

-- one turn, and the last product, for any prime
next : (p b factor rest : ℕ) → (factor * b) % p ≡ rest → rest < p → ((factor * (p - p / rest) % p) * b) % p ≡ (p % rest) % p
next p b factor rest e l =
    mod-mul-mod p (factor * (p - p / rest)) b
    ∙ ap (λ (n : ℕ). n % p) (omega arith)
    ∙ sym (mod-mul-mod p (factor * b) (p - p / rest))
    ∙ ap (λ (n : ℕ). (n * (p - p / rest)) % p) e
    ∙ ap (λ (n : ℕ). n % p) (omega arith)
    ∙ down p rest 1
    ∙ ap (λ (n : ℕ). n % p) (omega arith)

last : (p b factor rest i : ℕ) → (factor * b) % p ≡ rest → (rest * i) % p ≡ 1 → ((factor * i % p) * b) % p ≡ 1
last p b factor rest i e k =
    mod-mul-mod p (factor * i) b
    ∙ ap (λ (n : ℕ). n % p) (omega arith)
    ∙ sym (mod-mul-mod p (factor * b) i)
    ∙ ap (λ (n : ℕ). (n * i) % p) e
    ∙ k

counted : (b : ℕ) {x : ℕ} → (b ≡ 0 → ⊥) → x ≡ inv P b → Some x ≡ checked_inverse P b
unfolding checked_inverse
counted b {x} h e = rw (ne_eqb b 0 h, checked_inverse) (ap Some e)

pub returns-then-b-eq0-clause-value : goal.returns-then-b-eq0-clause-value
unfolding checked_inverse
returns-then-b-eq0-clause-value c = rw c.if-b-eq0.true refl

pub loop-rest-preserved : goal.loop-rest-preserved
loop-rest-preserved c =
    let rest : ℕ = c.loop-rest.rest in
    let less : P % rest < rest = mod-lt P c.loop-rest.invariant.0 in (
      pos_of_ne-zero (P-prime.only rest (omega arith) c.loop-rest.invariant.1),
      omega arith,
      mod-lt _ (omega arith),
      next P c.args.b c.loop-rest.factor rest c.loop-rest.invariant.3 c.loop-rest.invariant.1 ∙ mod-eq_of_lt (omega arith),
    )

pub overflow_mul-result : goal.overflow_mul-result
overflow_mul-result c =
    let small : c.table_inverse.result < P = omega (arith, c.table_inverse.ensures, inv-lt P P-prime _ c.loop-rest.invariant.1) in
    record { fits = lt_trans (product_small c.loop-rest.invariant.2 small) (lit< tt) }

pub returns-clause-value : goal.returns-clause-value
returns-clause-value c =
    counted c.args.b c.if-b-eq0.false
    (inv_unique P P-prime c.args.b _ (pos_of_ne-zero c.if-b-eq0.false) c.requires
    (mod-lt _ (omega arith))
    (last P c.args.b c.loop-rest.factor c.loop-rest.rest c.table_inverse.result
    c.loop-rest.invariant.3
    (ap (λ (n : ℕ). (c.loop-rest.rest * n) % P) c.table_inverse.ensures
    ∙ inv_right P P-prime _ c.loop-rest.invariant.0 c.loop-rest.invariant.1)))
