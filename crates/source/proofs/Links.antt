-- Chains of links by falling index. Assumes nothing.
use Prim.Native.Nat.{ℕ, zero, suc, ◌+◌, ◌≤◌, ◌<◌}
use mathlib.Core.Path.{◌≡◌, refl, sym, ap, ◌∙◌}
use mathlib.Core.List.{List}
use mathlib.Core.Bool.{false}
use mathlib.Core.Logic.{⊎_elim}
use native.Mathlib.Omega.{arith}
use borrow.Author.Tests.{eq-eqb, ne_eqb}
use Rattle.source.specs.declared.Chain.{Chain as Owner}
use Rattle.source.specs.Nodes.{entry_of, link_fits, chain_fits}
use Rattle.source.specs.Uses.{link_uses, chain_uses}
use Rattle.marks.specs.Indices.{same}
use Rattle.std.proofs.lemmas.Bool.{cases_eq}

-- the chain from a link on, whichever count of nodes it is asked of
module _ (b : List ℕ) (at : ℕ) (h : Owner) where
  chain-last : (n x : ℕ) → x ≡ n → chain_fits b at h (suc n) x ≡ link_fits b at h (chain_fits b at h n) n (entry_of b at n)
  unfolding chain_fits
  chain-last n x e = rw (eq-eqb x n e, chain_fits)

  chain-else : (n x : ℕ) → (x ≡ n → ⊥) → chain_fits b at h (suc n) x ≡ chain_fits b at h n x
  unfolding chain_fits
  chain-else n x f = rw (ne_eqb x n f, chain_fits)

  pub chain-late : (n x : ℕ) → n ≤ x → chain_fits b at h n x ≡ false
  unfolding chain_fits
  chain-late zero x l = refl
  chain-late (suc n) x l = chain-else n x (λ e. omega arith) ∙ chain-late n x (omega arith)

  pub chain-is : (n x : ℕ) → x < n → chain_fits b at h n x ≡ link_fits b at h (chain_fits b at h x) x (entry_of b at x)
  chain-is zero x l = absurd (omega arith)
  chain-is (suc n) x l = ⊎_elim
      (λ (e : x ≡ n). chain-last n x e ∙ ap (λ (m : ℕ). link_fits b at h (chain_fits b at h m) m (entry_of b at m)) (sym e))
      (λ (f : x ≡ n → ⊥). chain-else n x f ∙ chain-is n x (omega arith))
      (cases_eq x n)

  uses-last : (n x k : ℕ) → x ≡ n → chain_uses b at h (suc n) x k ≡ same n k + link_uses h (λ y. chain_uses b at h n y k) (entry_of b at n) k
  unfolding chain_uses
  uses-last n x k e = rw (eq-eqb x n e, chain_uses)

  uses-else : (n x k : ℕ) → (x ≡ n → ⊥) → chain_uses b at h (suc n) x k ≡ chain_uses b at h n x k
  unfolding chain_uses
  uses-else n x k f = rw (ne_eqb x n f, chain_uses)

  pub uses-is : (n x k : ℕ) → x < n → chain_uses b at h n x k ≡ same x k + link_uses h (λ y. chain_uses b at h x y k) (entry_of b at x) k
  uses-is zero x k l = absurd (omega arith)
  uses-is (suc n) x k l = ⊎_elim
      (λ (e : x ≡ n). uses-last n x k e ∙ ap (λ (m : ℕ). same m k + link_uses h (λ y. chain_uses b at h m y k) (entry_of b at m) k) (sym e))
      (λ (f : x ≡ n → ⊥). uses-else n x k f ∙ uses-is n x k (omega arith))
      (cases_eq x n)
