-- Where every operation has a value, every expression of a plain module has one; and where these have, every operation has.
use mathlib.Core.Path.{◌≡◌, refl, sym, subst, ◌∙◌}
use mathlib.Core.Bool.{Bool, true, false, cond}
use mathlib.Core.List.{List}
use Prim.Native.Nat.{ℕ}
use lib.IntN.{ℤ}
use lib.Dec.{eqb}
use Rattle.std.specs.Prelude.{Some}
use Rattle.field.specs.Operations.{Answer, HasValue}
use Rattle.source.specs.Trees.{Pat, Expr}
use Rattle.flat.specs.Rules.{All}
use Rattle.flat.specs.Meaning.{update}
use Rattle.plain.specs.Meaning.{Table, write, value_of, sides_of, NotZeroIn}
use Rattle.plain.specs.Meaning.{NotZeroInDefinitions, NotZeroInEquation, DefinitionsValued, EquationsValued}
use Rattle.plain.specs.Meaning
use Rattle.plain.proofs.Values.{negated-value, through-value, through-back, negated_back, values-back, writing}
use Rattle.plain.proofs.Numbered.{Plainly, p_constant, p_variable, p_negate, p_binary, p_let}
use Rattle.plain.proofs.Numbered.{PlainDefinitions, p_none, p_definition, PlainEquations, p_end, p_equation}

abbrev pub Total : Table → Type 0
Total t = (x : ℕ) → HasValue (t x)

writing-total : (x : ℕ) (z : ℤ) (t : Table) → Total t → Total (writing x (Some z) t)
unfolding update
writing-total x z t h y = go (eqb y x)
  where
    go : (c : Bool) → HasValue (cond c (Some z) (t y))
    go true = (z, refl)
    go false = h y

expr-valued : {W : ℕ → Type 0} {e : Expr} → Plainly W e → (t : Table) → Total t → NotZeroIn t e → HasValue (value_of t e)
unfolding value_of write
expr-valued p_constant t h n = (_, refl)
expr-valued (p_variable {x = x} q) t h n = h x
expr-valued (p_negate p) t h n = let v = expr-valued p t h n in (_, negated-value _ v.0 v.1)
expr-valued (p_binary ar p q) t h n = n.2
expr-valued (p_let {x = x} {v = d} {b = b} p q) t h n =
    let u = expr-valued p t h n.0 in
    let z = u.0 in
    let body = subst (λ (o : Answer). NotZeroIn (writing x o t) b) u.1 n.1 in
    let v = expr-valued q (writing x (Some z) t) (writing-total x z t h) body in
    (v.0, (through-value (value_of t d) (λ y. value_of (writing x (Some y) t) b) z u.1 ∙ v.1))

pub equations-valued :
    {W : ℕ → Type 0} {es : List Expr} → PlainEquations W es → (t : Table) → Total t →
    All (NotZeroInEquation t) es → EquationsValued t es
unfolding sides_of NotZeroInEquation
equations-valued p_end t h n = tt
equations-valued (p_equation p q more) t h n = (expr-valued p t h n.0.0, expr-valued q t h n.0.1, equations-valued more t h n.1)

-- behind the definitions the table is as good as before
pub record Defined (t : Table) (ds : List (Pat × Expr)) : Type 0 where
  pub valued : DefinitionsValued t ds
  pub total : Total (Meaning.defined t ds)

pub definitions-valued :
    {W : ℕ → Type 0} {ds : List (Pat × Expr)} → PlainDefinitions W ds → (t : Table) → Total t →
    NotZeroInDefinitions t ds → Defined t ds
unfolding Meaning.defined write
definitions-valued p_none t h n = record { valued = tt; total = h }
definitions-valued (p_definition {x = x} {v = d} p ps) t h n =
    let u = expr-valued p t h n.0 in
    let next = subst (λ (o : Answer). Total (writing x o t)) (sym u.1) (writing-total x u.0 t h) in
    let rest = definitions-valued ps (writing x (value_of t d) t) next n.1 in
    record { valued = (u, rest.valued); total = rest.total }

-- ---- the other way round
expr-not-zero : {W : ℕ → Type 0} {e : Expr} → Plainly W e → (t : Table) (z : ℤ) → value_of t e ≡ Some z → NotZeroIn t e
unfolding value_of write
expr-not-zero p_constant t z h = tt
expr-not-zero (p_variable q) t z h = tt
expr-not-zero (p_negate {a = a} p) t z h = let w = negated_back (value_of t a) z h in expr-not-zero p t w.at w.arg
expr-not-zero (p_binary {o = o} {a = a} {b = b} ar p q) t z h =
    let w = values-back o (value_of t a) (value_of t b) z h in
    (expr-not-zero p t w.x w.first, expr-not-zero q t w.y w.second, (z, h))
expr-not-zero (p_let {x = x} {v = d} {b = b} p q) t z h =
    let w = through-back (value_of t d) (λ y. value_of (writing x (Some y) t) b) z h in
    let body = expr-not-zero q (writing x (Some w.at) t) z w.result in
    (expr-not-zero p t w.at w.arg, subst (λ (o : Answer). NotZeroIn (writing x o t) b) (sym w.arg) body)

pub equations-not-zero :
    {W : ℕ → Type 0} {es : List Expr} → PlainEquations W es → (t : Table) →
    EquationsValued t es → All (NotZeroInEquation t) es
unfolding sides_of NotZeroInEquation
equations-not-zero p_end t v = tt
equations-not-zero (p_equation p q more) t v =
    let first = v.0 in
    let second = v.1 in
    ((expr-not-zero p t first.0 first.1, expr-not-zero q t second.0 second.1), equations-not-zero more t v.2)

pub definitions-not-zero :
    {W : ℕ → Type 0} {ds : List (Pat × Expr)} → PlainDefinitions W ds → (t : Table) →
    DefinitionsValued t ds → NotZeroInDefinitions t ds
unfolding Meaning.defined write
definitions-not-zero p_none t v = tt
definitions-not-zero (p_definition {x = x} {v = d} p ps) t v =
    let first = v.0 in
    (expr-not-zero p t first.0 first.1, definitions-not-zero ps (writing x (value_of t d) t) v.1)
