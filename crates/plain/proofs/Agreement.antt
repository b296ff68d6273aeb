-- Numbering and evaluation keep what a plain module says.
use mathlib.Core.Path.{◌≡◌, refl, sym, ap, subst, ◌∙◌}
use mathlib.Core.Bool.{Bool, true, false, cond, not}
use mathlib.Core.List.{List, [], ◌∷◌}
use mathlib.Core.Option.{some}
use Prim.Native.Nat.{ℕ, ◌<◌, ◌≤◌}
use native.Mathlib.Nat.{le_trans}
use native.Mathlib.Omega.{arith}
use lib.IntN.{ℤ}
use lib.Dec.{ltb}
use borrow.Author.Tests.{lt-ltb, le-ltb}
use Rattle.std.specs.Prelude.{Some}
use Rattle.field.specs.Prime.{P}
use Rattle.field.specs.Element.{elem}
use Rattle.source.specs.Trees.{Module}
use Rattle.flat.specs.Trees.{FlatModule, defines}
use Rattle.flat.specs.Rules
use Rattle.flat.specs.Rules.{Every, Rising}
use Rattle.flat.specs.Meaning.{Assignment, Elements, worked_out}
use Rattle.numbering.specs.Numbering.{Ids, found, ◌>>=◌, return, number_publics, number_module_variables, registered, names_of, numbered}
use Rattle.numbering.specs.Inputs.{member, free_in_definitions, defining, free_in_expressions, free_in_module, inputs, input_ids}
use Rattle.numbering.specs.Statements.{definition_binders, expression_binders, all_binders, All, Pointwise}
use Rattle.numbering.proofs.Lists.{all_append, all_split, all_map, all-member, members, pointwise-map, zipped}
use Rattle.numbering.proofs.Names.{none-some, falling-bounded, falling-named, registered-well}
use Rattle.numbering.proofs.Facts.{publics-step, definitions-step, empty-scope, module-step}
use Rattle.eval_trees.specs.Evaluation.{flat, evaluated}
use Rattle.plain.specs.Plain.{are_plain_definitions, is_plain_body}
use Rattle.plain.specs.Meaning.{Equal-sides, sides, start, NoDivisorZero}
use Rattle.plain.specs.Meaning
use Rattle.plain.specs.Statements.{IsInput, Gives, PlainFlat, SaysTheSame, PlainModulesAgree}
use Rattle.plain.proofs.Values.{false-true, table}
use Rattle.plain.proofs.Modules.{ScopedDefinitions, ScopedEquations, flat_sides, InTurnValued, Kept, evaluated-kept}
use Rattle.plain.proofs.Placed.{kept-placed, order-placed}
use Rattle.eval_trees.proofs.Made.{evaluated-back}
use Rattle.plain.proofs.Order.{Input, not-true}
use Rattle.plain.proofs.OrderModules.{SpansDefinitions, SpansEquations, InOrder, order-kept}
use Rattle.plain.proofs.OrderModules.{input-undefined, ordered, known, ids-below, defined-ids, every_map}
use Rattle.plain.proofs.OrderModules
use Rattle.plain.proofs.Numbered.{both_true, Named, plain-definitions, plain-equations, PlainDefinitions, PlainEquations, Any, rises-split}
use Rattle.plain.proofs.Numbered.{pointwise-split, free-definitions, free-equations, numbered-definitions, numbered-equations, definitions-scoped}
use Rattle.plain.proofs.Numbered.{equations-scoped, definitions-spans, equations-spans, Means, Agreed, definitions-mean, equations-mean}
use Rattle.plain.proofs.Working.{worked-elements, worked-keeps, definitions-hold, no-zero-in-turn, sides-hold}
use Rattle.plain.proofs.Divisors.{definitions-valued, equations-valued}

all_any : (xs : List ℕ) → All Any xs
all_any [] = tt
all_any (x ∷ xs) = (tt, all_any xs)

-- lists of numbers, in the words of the flat list
rules-all : (Q : ℕ → Type 0) (xs : List ℕ) → All Q xs → Rules.All Q xs
rules-all Q [] h = tt
rules-all Q (x ∷ xs) h = (h.0, rules-all Q xs h.1)

module _ (m : Module) (plain : is_plain_body m ≡ true) where
  abbrev pub R : Ids
  R = (registered m.names).globals

  pub definitions-plain : PlainDefinitions (Named R) m.definitions
  unfolding is_plain_body
  definitions-plain = plain-definitions R m.definitions (both_true (are_plain_definitions R m.definitions) _ plain).0

  pub equations-plain : PlainEquations (Named R) m.expressions
  unfolding is_plain_body
  equations-plain = plain-equations R m.expressions (both_true (are_plain_definitions R m.definitions) _ plain).1

  names-plain : All (Named R) (inputs m)
  unfolding inputs free_in_module
  names-plain =
      all_append (Named R) (free_in_definitions [] m.definitions) (free_in_expressions (defining m.definitions []) m.expressions)
      (free-definitions [] definitions-plain) (free-equations (defining m.definitions []) equations-plain)

  N : ℕ
  N = (numbered m).next

  -- the ids that are no inputs, among those of the numbered module
  bound : ℕ → Bool
  bound i = cond (ltb i N) (not (member i (input_ids (numbered m)))) false

  beyond : (x : ℕ) → N ≤ x → bound x ≡ false
  unfolding bound
  beyond x h = ap (λ (c : Bool). cond c (not (member x (input_ids (numbered m)))) false) (le-ltb x N h)

  at-below : (i : ℕ) → i < N → bound i ≡ not (member i (input_ids (numbered m)))
  unfolding bound
  at-below i h = ap (λ (c : Bool). cond c (not (member i (input_ids (numbered m)))) false) (lt-ltb i N h)

  nine : 9 ≤ N
  unfolding N numbered
  nine = (module-step m).rest.grown.well.nine

  -- an input's id is below the next id, and not below 9
  inputs-low : All (λ i. (i < N) × (9 ≤ i)) (input_ids (numbered m))
  unfolding N numbered registered
  inputs-low =
      let s = (module-step m).rest in
      zipped (λ x i. found x (names_of m).globals ≡ some i) (Named R) (λ i. (i < (names_of m).next) × (9 ≤ i))
      (λ x i f n. (falling-bounded _ _ s.grown.well.falling x i f, s.grown.extends.new x i n f)) (inputs m)
      (input_ids (numbered m)) s.free names-plain

  input-free : (i : ℕ) → IsInput m i → (bound i ≡ false) × (i < N)
  input-free i h =
      let w = all-member _ i (input_ids (numbered m)) inputs-low h in
      (at-below i w.0 ∙ ap not h, w.0)

  free_input : (i : ℕ) → (bound i ≡ false) × (i < N) → IsInput m i
  free_input i h = go (member i (input_ids (numbered m))) (sym (at-below i h.1) ∙ h.0)
    where
      go : (c : Bool) → not c ≡ false → c ≡ true
      go true e = refl
      go false e = absurd (false-true (sym e))

  -- a binder's id is none of them
  binders-bound : All (λ i. bound i ≡ true) (all_binders (numbered m))
  unfolding N numbered
  binders-bound =
      let s = (module-step m).rest in
      let named : All (λ i. (x : ℕ) × (found x (names_of m).globals ≡ some i)) (input_ids (numbered m)) = zipped (λ x i. found x (names_of m).globals ≡ some i)
      Any (λ i. (x : ℕ) × (found x (names_of m).globals ≡ some i)) (λ x i f a. (x, f)) (inputs m) (input_ids (numbered m)) s.free (all_any (inputs m)) in
      all_map
      (λ i b. at-below i b.0
      ∙ ap not (not-true (member i (input_ids (numbered m))) (λ h. let w = all-member _ i (input_ids (numbered m)) named h in
      none-some w.0 (sym b.1 ∙ falling-named _ _ s.grown.well.falling w.0 i w.1))))
      (all_binders (numbered m)) s.binders

  intrinsic : (i : ℕ) → i < 9 → bound i ≡ true
  intrinsic i l =
      at-below i (le_trans l nine)
      ∙ ap not (not-true (member i (input_ids (numbered m))) (λ h. omega (arith, l, (all-member _ i (input_ids (numbered m)) inputs-low h).1)))

  -- the numbered module: plain, in scope, its binders rise
  definitions-numbered : PlainDefinitions Any (numbered m).definitions
  unfolding numbered number_module_variables ◌>>=◌ return
  definitions-numbered = numbered-definitions definitions-plain [] (number_publics m.publics (registered m.names)).1

  equations-numbered : PlainEquations Any (numbered m).expressions
  unfolding numbered number_module_variables ◌>>=◌ return
  equations-numbered = numbered-equations equations-plain _ _

  all-inputs : All (IsInput m) (input_ids (numbered m))
  all-inputs = members (IsInput m) (input_ids (numbered m)) (λ i h. h)

  Δ : List ℕ
  Δ = defining (numbered m).definitions []

  scoped-definitions : ScopedDefinitions bound N [] (numbered m).definitions Δ
  unfolding Δ input_ids free_in_module all_binders
  scoped-definitions =
      definitions-scoped bound N (IsInput m) input-free [] definitions-numbered
      (all_split (IsInput m) (free_in_definitions [] (numbered m).definitions)
      (free_in_expressions (defining (numbered m).definitions []) (numbered m).expressions) all-inputs).0
      (all_split (λ i. bound i ≡ true) (definition_binders (numbered m).definitions) (expression_binders (numbered m).expressions) binders-bound).0

  scoped-equations : ScopedEquations bound N Δ (numbered m).expressions
  unfolding Δ input_ids free_in_module all_binders
  scoped-equations =
      equations-scoped bound N (IsInput m) input-free (defining (numbered m).definitions []) equations-numbered
      (all_split (IsInput m) (free_in_definitions [] (numbered m).definitions)
      (free_in_expressions (defining (numbered m).definitions []) (numbered m).expressions) all-inputs).1
      (all_split (λ i. bound i ≡ true) (definition_binders (numbered m).definitions) (expression_binders (numbered m).expressions) binders-bound).1

  record Spanned : Type 0 where
    pub mid : ℕ
    pub definitions : SpansDefinitions 9 (numbered m).definitions mid
    pub equations : SpansEquations mid (numbered m).expressions N

  spanned : Spanned
  unfolding N numbered registered all_binders
  spanned =
      let w = rises-split 9 (definition_binders (numbered m).definitions) (expression_binders (numbered m).expressions) (names_of m).next
      (module-step m).rest.rises in
      record {
        mid = w.0;
        definitions = definitions-spans 9 w.0 definitions-numbered w.1;
        equations = equations-spans w.0 (names_of m).next equations-numbered w.2;
      }

  module _ (capacity : ℕ) (f : FlatModule) (e : evaluated capacity (numbered m) ≡ flat f) where
    in_order : InOrder (Input bound N beyond) f
    unfolding N numbered
    in_order =
        let sp = spanned in
        let u = evaluated-back capacity (numbered m) f e in
        subst (InOrder (Input bound N beyond)) (sym u.is) (order-placed (Input bound N beyond) _ _ u.made
        (order-kept bound N beyond 256 capacity 9 (numbered m) Δ u.made {mid = sp.mid} refl (intrinsic 0 (omega arith)) (intrinsic 2 (omega arith))
        (intrinsic 5 (omega arith)) scoped-definitions scoped-equations sp.definitions sp.equations
        (rules-all (λ v. v < (names_of m).next) (numbered m).publics (module-step m).publics.uses) u.by))

    known-definitions : Rules.All (λ d. Every (λ v. defines f.definitions v ≡ false → Input bound N beyond v) d.right) f.definitions
    unfolding defines
    known-definitions =
        known (Input bound N beyond) [] f.definitions (defines f.definitions) (λ v h. absurd (false-true h)) (λ v h. h) in_order.definitions

    below : (v : ℕ) → (defines f.definitions v ≡ false → Input bound N beyond v) → v < f.next
    below = ids-below (Input bound N beyond) f.next (defines f.definitions) in_order.inputs-below in_order.defined-below

    ids-and-uses : Rules.All (λ d. (d.id < f.next) × Every (λ v. v < f.next) d.right) f.definitions
    ids-and-uses =
        OrderModules.all_both _ _ f.definitions (defined-ids (Input bound N beyond) f.definitions f.next in_order.defined-below)
        (OrderModules.all_map _ _ (λ d h. every_map _ _ below d.right h) f.definitions known-definitions)

    pub plain_flat : PlainFlat m f
    plain_flat = record {
      well-formed = record {
        publics-below = in_order.publics-below;
        provers-below = subst (Rules.All (λ v. v < f.next)) (sym in_order.no-provers) tt;
        provers-rise = subst Rising (sym in_order.no-provers) tt;
        definitions-below = ids-and-uses;
        equations-below =
            OrderModules.all_map _ _ (λ q h. (every_map _ _ below q.left h.0, every_map _ _ below q.right h.1))
            f.equations in_order.equations;
        ordered = ordered (Input bound N beyond) [] f.definitions in_order.definitions;
      };
      no-provers = in_order.no-provers;
      definitions-known = OrderModules.all_map _ _ (λ d h. every_map _ _ (λ v k n. free_input v (k n)) d.right h) f.definitions known-definitions;
      equations-known =
          OrderModules.all_map _ _
          (λ q h. (every_map _ _ (λ v k n. free_input v (k n)) q.left h.0, every_map _ _ (λ v k n. free_input v (k n)) q.right h.1))
          f.equations in_order.equations;
      inputs-undefined = λ i h. (
        in_order.inputs-below i (input-free i h),
        not-true (defines f.definitions i) (input-undefined (Input bound N beyond) i [] f.definitions in_order.definitions (input-free i h)),
      );
    }

    module _ (ρ : ℕ → ℤ) (elements : (x : ℕ) → elem P (ρ x) ≡ ρ x) (no_zero : NoDivisorZero m ρ) (υ : Assignment) (υ-elements : Elements υ)
        (gives : Gives m ρ υ) where
      agreed : Pointwise (Agreed (start ρ) (table υ)) (inputs m) (input_ids (numbered m))
      agreed = pointwise-map (λ x i h. ap Some h) (inputs m) (input_ids (numbered m)) gives

      nothing_bound : Means [] [] [] (start ρ) (table υ) (start ρ) (table υ)
      unfolding found
      nothing_bound = record { local = λ x i h. absurd (none-some i h); names = λ x h. refl; ids = λ i h. refl }

      record Evaluated : Type 0 where
        pub in-turn : InTurnValued υ f.definitions
        pub same-sides : flat_sides (worked_out f.definitions υ) f.equations ≡ sides (Meaning.defined (start ρ) m.definitions) m.expressions

      kept : Evaluated
      unfolding numbered number_module_variables ◌>>=◌ return inputs input_ids free_in_module N Δ
      kept =
          let g = (number_publics m.publics (registered m.names)).1 in
          let p = publics-step m.publics (registered m.names) (registered-well m.names) in
          let ds = definitions-step m.definitions [] [] [] g p.grown.well (empty-scope g) in
          let k = pointwise-split (Agreed (start ρ) (table υ)) _ (free_in_definitions [] m.definitions)
          (free_in_expressions (defining m.definitions []) m.expressions) _ _ ds.step.free agreed in
          let dm =
          definitions-mean definitions-plain [] [] [] g (start ρ) (table υ) (start ρ) (table υ) p.grown.well (empty-scope g) nothing_bound k.0 in
          let em = equations-mean equations-plain (defining m.definitions []) _ _ _ (Meaning.defined (start ρ) m.definitions)
          (Meaning.defined (table υ) (numbered m).definitions) (start ρ) (table υ) ds.step.grown.well ds.scope dm.means k.1 in
          let dv = definitions-valued definitions-plain (start ρ) (λ x. (ρ x, refl)) no_zero.0 in
          let ev = equations-valued equations-plain (Meaning.defined (start ρ) m.definitions) dv.total no_zero.1 in
          let u = evaluated-back capacity (numbered m) f e in
          let made = evaluated-kept bound N beyond υ υ-elements 256 capacity (numbered m) Δ u.made refl (intrinsic 0 (omega arith)) (intrinsic 2 (omega arith))
          (intrinsic 5 (omega arith)) scoped-definitions scoped-equations (dm.valued dv.valued) (em.valued ev) u.by in
          let kp = subst (Kept bound N beyond υ υ-elements _ _) (sym u.is) (kept-placed bound N beyond υ υ-elements _ _ _ _ u.made made) in
          record { in-turn = kp.in-turn; same-sides = kp.same-sides ∙ em.means }

      pub says-the-same : SaysTheSame m ρ f υ (worked_out f.definitions υ)
      says-the-same =
          let r = sides-hold (worked_out f.definitions υ) f.equations in
          record {
            elements = worked-elements f.definitions υ υ-elements;
            inputs-kept = λ i h. worked-keeps f.definitions υ i (plain_flat.inputs-undefined i h).1;
            no-zero-divisor = no-zero-in-turn f.definitions υ kept.in-turn;
            definitions-hold = definitions-hold f.definitions υ plain_flat.well-formed.ordered kept.in-turn;
            equations-agree =
                ((λ h. r.0 (subst (Rules.All Equal-sides) (sym kept.same-sides) h)), (λ h. subst (Rules.All Equal-sides) kept.same-sides (r.1 h)));
          }

-- THE THEOREM
pub plain-modules-agree : PlainModulesAgree
plain-modules-agree m plain capacity f e =
    (plain_flat m plain capacity f e, (λ ρ elements no_zero υ υ-elements gives. says-the-same m plain capacity f e ρ elements no_zero υ υ-elements gives))
