-- 22 does not arise: a flat module that evaluation makes is cut, or refused because an id passes 65,535. Assumes nothing.
use mathlib.Core.Path.{◌≡◌, refl, ap, ◌∙◌}
use mathlib.Core.Bool.{Bool, true}
use mathlib.Core.List.{List, [], ◌∷◌}
use Prim.Native.Nat.{ℕ}
use Rattle.field.specs.declared.InfixOp.{InfixOp}
use Rattle.field.specs.declared.InfixOp.TheVariants.{Divide, DivideZ, Multiply, Add, Subtract, Equal, Exponentiate, IntDivide, Modulo}
use Rattle.source.specs.Trees.{Module}
use Rattle.flat.specs.Trees.{Flat, Definition, Equation, FlatModule}
use Rattle.flat.specs.Rules.{All}
use Rattle.pass_trees.specs.Passes.{classify_defs, cuttable, cuttable_expr, cuttable_defs, cuttable_equations, counted, unless, fitting, cut_of, passes}
use Rattle.pass_trees.proofs.Lists.{all_map, all-those}
use Rattle.numbering.specs.Numbering.{numbered}
use Rattle.eval_trees.specs.Evaluation.{flat, evaluated}
use Rattle.eval_trees.proofs.Helpers.{and-true}
use Rattle.eval_trees.proofs.Shown.{Cuttable, CutTree}
use Rattle.eval_trees.proofs.ShownModule.{made-listed}
use Rattle.agreement.specs.Flattened.{passed, flattened_of}

cuttable-operation : (o : InfixOp) → Cuttable o → cuttable o ≡ true
unfolding cuttable
cuttable-operation Divide h = refl
cuttable-operation DivideZ h = refl
cuttable-operation Multiply h = refl
cuttable-operation Add h = refl
cuttable-operation Subtract h = refl
cuttable-operation Equal h = absurd h
cuttable-operation Exponentiate h = absurd h
cuttable-operation IntDivide h = refl
cuttable-operation Modulo h = refl

cuttable-expr : (e : Flat) → CutTree e → cuttable_expr e ≡ true
unfolding cuttable_expr
cuttable-expr (Flat.infixed o a b) h = and-true _ _ (cuttable-operation o h.0) (and-true _ _ (cuttable-expr a h.1) (cuttable-expr b h.2))
cuttable-expr (Flat.negate a) h = cuttable-expr a h
cuttable-expr (Flat.constant c) h = refl
cuttable-expr (Flat.variable v) h = refl

pub record CuttableModule (f : FlatModule) : Type 0 where
  pub definitions : All (λ d. cuttable_expr d.right ≡ true) f.definitions
  pub equations : All (λ e. (cuttable_expr e.left ≡ true) × (cuttable_expr e.right ≡ true)) f.equations

pub evaluated-cuttable : (m : Module) (capacity : ℕ) (f : FlatModule) → evaluated capacity (numbered m) ≡ flat f → CuttableModule f
evaluated-cuttable m capacity f e =
    let w = made-listed m capacity f e in
    record {
      definitions = all_map (λ d n. cuttable-expr d.right n.0) f.definitions w.0;
      equations = all_map (λ q n. (cuttable-expr q.left n.0.0, cuttable-expr q.right n.1.0)) f.equations w.1;
    }

cuttable-definitions : (ds : List Definition) → All (λ d. cuttable_expr d.right ≡ true) ds → cuttable_defs ds ≡ true
unfolding cuttable_defs
cuttable-definitions [] h = refl
cuttable-definitions (d ∷ ds) h = and-true _ _ h.0 (cuttable-definitions ds h.1)

cuttable-equations : (es : List Equation) → All (λ e. (cuttable_expr e.left ≡ true) × (cuttable_expr e.right ≡ true)) es → cuttable_equations es ≡ true
unfolding cuttable_equations
cuttable-equations [] h = refl
cuttable-equations (e ∷ es) h = and-true _ _ h.0.0 (and-true _ _ h.0.1 (cuttable-equations es h.1))

-- of whatever module
pub not-22 : (m : Module) (capacity : ℕ) (f : FlatModule) → evaluated capacity (numbered m) ≡ flat f
    → flattened_of capacity m ≡ fitting (passes f)
unfolding flattened_of passed cut_of unless counted classify_defs
not-22 m capacity f e =
    let w = evaluated-cuttable m capacity f e in
    ap passed e
    ∙ ap (λ (b : Bool). unless b 22 (fitting (passes f)))
    (and-true _ _ (cuttable-definitions (counted f) (all-those _ _ _ (all-those _ _ f.definitions w.definitions)))
    (cuttable-equations f.equations w.equations))
