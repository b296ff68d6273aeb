-- In a plain module the base of a power stands for itself, unless it is a constant: its powers push as many definitions as `power_count` says.
use mathlib.Core.Path.{◌≡◌, refl}
use mathlib.Core.Bool.{Bool, false}
use mathlib.Core.List.{List}
use mathlib.Core.Logic.{inl}
use Prim.Native.Nat.{ℕ, ◌≤◌}
use native.Mathlib.Nat.{le_trans}
use lib.IntN.{ℤ, pos}
use Rattle.field.specs.declared.InfixOp.TheVariants.{Exponentiate}
use Rattle.field.specs.Prime.{P}
use Rattle.field.specs.Element.{elem}
use Rattle.field.specs.Counts.{power_count}
use Rattle.source.specs.Trees.{Expr, constant}
use Rattle.eval_trees.specs.State.{State, gives}
use Rattle.eval_trees.specs.Evaluation.{evaluate_infix, evaluate}
use Rattle.eval_trees.specs.Powers
use Rattle.eval_trees.specs.Powers.{StandsForItself, NextFree, Pushes}
use Rattle.eval_trees.proofs.Powers.{power-pushes}
use Rattle.plain.proofs.Terms.{NotConstant, Term, of_constant, of_variable, of_negate, Scoped}
use Rattle.plain.proofs.Order.{Spans, spans-le, Tidy, Free, InScope, free-alike, scope-alike, key-order}

constant-element : {B : ℕ → Bool} {n : ℕ} {z : ℤ} → Term B n (constant z) → elem P z ≡ z
constant-element (of_constant c) = c

module _ (B : ℕ → Bool) (N : ℕ) (beyond : (x : ℕ) → N ≤ x → B x ≡ false) where
  term-stands : {n : ℕ} {a : Expr} (s : State) → Free B N beyond s → Term B n a → NotConstant a → StandsForItself s a
  term-stands s f (of_constant {m = m} c) h = absurd (h m refl)
  term-stands s f (of_variable {x = x} b l) h = Powers.of_variable (inl (f.free x b))
  term-stands s f (of_negate nc a) h = Powers.of_negation (term-stands s f a nc)

  next-free : {lo : ℕ} (s : State) → Tidy B N beyond lo s → Free B N beyond s → NextFree s
  next-free s w f i l = inl (f.free i (beyond i (le_trans w.above l)))

  -- the base a and the exponent b are plain, and evaluated one after the other in a state that the evaluation of a plain module passes
  pub plain-power-pushes : (l n k lo mid hi : ℕ) (Γ : List ℕ) (a b v : Expr) (s t u : State) → k ≤ s.next → Tidy B N beyond lo s → Free B N beyond s
      → InScope B N beyond Γ s → Scoped B k Γ a → Spans lo a mid → Scoped B k Γ b → Spans mid b hi → hi ≤ N → evaluate l a s ≡ gives v t
      → evaluate l b t ≡ gives (constant (pos n)) u → NotConstant v → Pushes (power_count n) (evaluate_infix (evaluate l) Exponentiate v (constant (pos n))) u
  plain-power-pushes l n k lo mid hi Γ a b v s t u h c f i p sp q sq hn first second nc =
      let x = key-order B N beyond l Γ k lo mid a s t v p sp (le_trans (spans-le sq) hn) first h c f i in
      let g = free-alike B N beyond x.bindings f in
      let y = key-order B N beyond l Γ k mid hi b t u (constant (pos n)) q sq hn second (le_trans h x.next) x.tidy g
      (scope-alike B N beyond x.next x.bindings i) in
      let free = free-alike B N beyond y.bindings g in
      power-pushes l n v u (next-free u y.tidy free) (term-stands u free x.term nc) (constant-element y.term)
