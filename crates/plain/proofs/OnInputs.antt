-- Tables that agree on what is bound and on the free names give a plain expression one value, and the same divisors.
use mathlib.Core.Path.{◌≡◌, refl, ap, ap₂, fun_ext, subst₂}
use mathlib.Core.Bool.{Bool, true, false, cond, ◌||◌}
use mathlib.Core.List.{List, [], ◌∷◌, ◌++◌}
use Prim.Native.Nat.{ℕ}
use native.Mathlib.Omega.{arith}
use lib.Dec.{eqb}
use Rattle.field.specs.Operations.{Answer, HasValue}
use Rattle.std.specs.Prelude.{Some}
use Rattle.source.specs.Trees.{Pat, Expr}
use Rattle.flat.specs.Rules
use Rattle.flat.specs.Meaning.{update, on_values, negated}
use Rattle.numbering.specs.Inputs.{member, binding, free_variables, free_in_definitions, defining, free_in_expressions}
use Rattle.numbering.specs.Statements.{All}
use Rattle.numbering.proofs.Lists.{all_split}
use Rattle.plain.specs.Meaning.{Table, write, through, value_of, sides_of, sides, NotZeroIn, NotZeroInDefinitions, NotZeroInEquation}
use Rattle.plain.specs.Meaning
use Rattle.plain.proofs.Values.{writing}
use Rattle.plain.proofs.Numbered.{Plainly, p_constant, p_variable, p_negate, p_binary, p_let}
use Rattle.plain.proofs.Numbered.{PlainDefinitions, p_none, p_definition, PlainEquations, p_end, p_equation}

-- Q holds of the free names
module _ (Q : ℕ → Type 0) where
  -- where a name is bound or Q holds of it, the tables say the same
  abbrev pub Alike : List ℕ → Table → Table → Type 0
  Alike Γ t u = (x : ℕ) → (member x Γ ≡ false → Q x) → t x ≡ u x

  -- a name written into both
  alike-join : (Γ : List ℕ) (t u : Table) (x : ℕ) (v w : Answer) → v ≡ w → Alike Γ t u → Alike (x ∷ Γ) (writing x v t) (writing x w u)
  unfolding member update
  alike-join Γ t u x v w e h y q = go (eqb y x) q
    where
      go : (c : Bool) → ((c || member y Γ) ≡ false → Q y) → cond c v (t y) ≡ cond c w (u y)
      go true q = e
      go false q = h y q

  free-name : (x : ℕ) (c : Bool) → All Q (cond c [] (x ∷ [])) → c ≡ false → Q x
  free-name x true a e = absurd (let o : ◌≡◌ {A = ℕ} 0 1 = cc in omega arith)
  free-name x false a e = a.0

  value-alike :
      {W : ℕ → Type 0} {e : Expr} → Plainly W e → (Γ : List ℕ) (t u : Table) → Alike Γ t u →
      All Q (free_variables Γ e) → value_of t e ≡ value_of u e
  unfolding value_of write free_variables binding
  value-alike p_constant Γ t u h a = refl
  value-alike (p_variable {x = x} w) Γ t u h a = h x (free-name x (member x Γ) a)
  value-alike (p_negate p) Γ t u h a = ap negated (value-alike p Γ t u h a)
  value-alike (p_binary {o = o} {a = b} {b = d} ar p q) Γ t u h a =
      let k = all_split Q (free_variables Γ b) (free_variables Γ d) a in
      ap₂ (on_values o) (value-alike p Γ t u h k.0) (value-alike q Γ t u h k.1)
  value-alike (p_let {x = x} {v = b} {b = d} p q) Γ t u h a =
      let k = all_split Q (free_variables Γ b) (free_variables (x ∷ Γ) d) a in
      ap₂ through (value-alike p Γ t u h k.0)
      (fun_ext (λ z. value-alike q (x ∷ Γ) (writing x (Some z) t) (writing x (Some z) u) (alike-join Γ t u x (Some z) (Some z) refl h) k.1))

  not-zero-alike :
      {W : ℕ → Type 0} {e : Expr} → Plainly W e → (Γ : List ℕ) (t u : Table) → Alike Γ t u →
      All Q (free_variables Γ e) → NotZeroIn t e → NotZeroIn u e
  unfolding write free_variables binding
  not-zero-alike p_constant Γ t u h a n = tt
  not-zero-alike (p_variable w) Γ t u h a n = tt
  not-zero-alike (p_negate p) Γ t u h a n = not-zero-alike p Γ t u h a n
  not-zero-alike (p_binary {o = o} {a = b} {b = d} ar p q) Γ t u h a n =
      let k = all_split Q (free_variables Γ b) (free_variables Γ d) a in
      let at = subst₂ (λ (x y : Answer). HasValue (on_values o x y)) (value-alike p Γ t u h k.0) (value-alike q Γ t u h k.1) n.2 in
      (not-zero-alike p Γ t u h k.0 n.0, not-zero-alike q Γ t u h k.1 n.1, at)
  not-zero-alike (p_let {x = x} {v = b} {b = d} p q) Γ t u h a n =
      let k = all_split Q (free_variables Γ b) (free_variables (x ∷ Γ) d) a in
      let join = alike-join Γ t u x (value_of t b) (value_of u b) (value-alike p Γ t u h k.0) h in
      (not-zero-alike p Γ t u h k.0 n.0, not-zero-alike q (x ∷ Γ) (writing x (value_of t b) t) (writing x (value_of u b) u) join k.1 n.1)

  -- behind the definitions the tables are alike again
  pub record DefinedAlike (ds : List (Pat × Expr)) (Γ : List ℕ) (t u : Table) : Type 0 where
    pub alike : Alike (defining ds Γ) (Meaning.defined t ds) (Meaning.defined u ds)
    pub not-zero : NotZeroInDefinitions t ds → NotZeroInDefinitions u ds

  pub definitions-alike :
      {W : ℕ → Type 0} {ds : List (Pat × Expr)} → PlainDefinitions W ds → (Γ : List ℕ) (t u : Table) → Alike Γ t u →
      All Q (free_in_definitions Γ ds) → DefinedAlike ds Γ t u
  unfolding Meaning.defined write free_in_definitions defining binding
  definitions-alike p_none Γ t u h a = record { alike = h; not-zero = λ n. n }
  definitions-alike (p_definition {x = x} {v = b} {ds = ds} p more) Γ t u h a =
      let k = all_split Q (free_variables Γ b) (free_in_definitions (x ∷ Γ) ds) a in
      let join = alike-join Γ t u x (value_of t b) (value_of u b) (value-alike p Γ t u h k.0) h in
      let rest = definitions-alike more (x ∷ Γ) (writing x (value_of t b) t) (writing x (value_of u b) u) join k.1 in
      record { alike = rest.alike; not-zero = λ n. (not-zero-alike p Γ t u h k.0 n.0, rest.not-zero n.1) }

  pub record EquationsAlike (es : List Expr) (t u : Table) : Type 0 where
    pub same-sides : sides t es ≡ sides u es
    pub not-zero : Rules.All (NotZeroInEquation t) es → Rules.All (NotZeroInEquation u) es

  pub equations-alike :
      {W : ℕ → Type 0} {es : List Expr} → PlainEquations W es → (Γ : List ℕ) (t u : Table) → Alike Γ t u →
      All Q (free_in_expressions Γ es) → EquationsAlike es t u
  unfolding sides sides_of NotZeroInEquation free_in_expressions free_variables
  equations-alike p_end Γ t u h a = record { same-sides = refl; not-zero = λ n. n }
  equations-alike (p_equation {a = b} {b = d} {es = es} p q more) Γ t u h a =
      let k = all_split Q (free_variables Γ b ++ free_variables Γ d) (free_in_expressions Γ es) a in
      let l = all_split Q (free_variables Γ b) (free_variables Γ d) k.0 in
      let left = value-alike p Γ t u h l.0 in
      let right = value-alike q Γ t u h l.1 in
      let rest = equations-alike more Γ t u h k.1 in
      record {
        same-sides = ap₂ (λ (s : Answer × Answer) (ss : List (Answer × Answer)). s ∷ ss) (λ i. (left i, right i)) rest.same-sides;
        not-zero = λ n. ((not-zero-alike p Γ t u h l.0 n.0.0, not-zero-alike q Γ t u h l.1 n.0.1), rest.not-zero n.1);
      }
