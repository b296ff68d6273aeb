-- The passes keep constants signed 32-bit: each is one of the module's, or 0.
use Rattle.std.proofs.Common.{◌≡◌, ℕ, zero, suc, ◌<◌, Bool, true, false, eqb, List, [], ◌∷◌, ◌++◌, get_or, pos, refl, subst, arith, w32, SFits}
use mathlib.Core.Option.{Option, none, some}
use mir.Facts.{sfits_to_z}
use Rattle.words.proofs.Laws.{word_at-fits}
use Rattle.field.specs.declared.InfixOp.{InfixOp}
use Rattle.flat.specs.Trees.{Flat, Definition, Equation, FlatModule}
use Rattle.flat.specs.Rules.{All}
use Rattle.flat.specs.declared.Node.{Node}
use Rattle.flat.specs.Layout.{node_at}
use Rattle.flat.specs.Record.{rows, pick, node_for, node_of, grown, tree, definition_at, equation_at, module_of}
use Rattle.flat.proofs.Reading.{accepted-module}
use Rattle.constraint.proofs.ReadBack.{read_back}
use Rattle.constraint.specs.declared.Term.{Term}
use Rattle.constraint.specs.Trees.{Side, Equality}
use Rattle.constraint.specs.Reading.{SignedTerm, SignedSide, SignedTree, Signed}
use Rattle.pass_trees.specs.Passes.{member, classify_defs, Substitutions, follow, walk, to_expr, copy_propagate_expr, copy_propagate_def, after_def}
use Rattle.pass_trees.specs.Passes.{copy_propagate_defs, after_defs, copy_propagate_equations, copy_propagate, eliminate_dead_equalities, when, infix_op}
use Rattle.pass_trees.specs.Passes.{Cut, or_variable, push_constraint_def, copied, flatten_expr_to_3ac, Cuts, cuts_of, joined, all_at, placed}
use Rattle.pass_trees.specs.Passes.{flatten_def_to_3ac, flatten_defs, Sides, into, both, sides, flatten_sides, flatten_equations, flatten_lists}
use Rattle.pass_trees.specs.Passes.{flatten_module_to_3ac, passes}
use Rattle.pass_trees.specs.Statements.{SignedModule, PassesKeepSigned, LentReadBack}
use Rattle.pass_trees.proofs.Lists.{all_append, all-those}
use Rattle.pass_trees.proofs.Agreement.{accepted}
use Rattle.pass_trees.proofs.Placed.{placed-all}
use Rattle.pass_trees.proofs.Copied.{Entries, none-entries, substituting-entries, alive-in}

abbrev SignedEquation : Equation → Type 0
SignedEquation e = SignedTree e.left × SignedTree e.right

abbrev SignedEquality : Equality → Type 0
SignedEquality q = SignedTerm q.left × SignedSide q.right

-- copies
abbrev SignedEntries : Substitutions → Type 0
SignedEntries = Entries (λ v t. SignedTerm t)

term-tree : (t : Term) → SignedTerm t → SignedTree (to_expr t)
unfolding to_expr
term-tree (Term.Variable v) h = tt
term-tree (Term.Constant c) h = h

tree-term : (t : Term) → SignedTree (to_expr t) → SignedTerm t
unfolding to_expr
tree-term (Term.Variable v) h = tt
tree-term (Term.Constant c) h = h

module _ (s : Substitutions) (entries : SignedEntries s) where
  walk-signed : (k : ℕ) (t : Term) → SignedTerm t → SignedTerm (walk k s t)
  unfolding walk follow
  walk-signed zero t h = h
  walk-signed (suc k) (Term.Constant c) h = h
  walk-signed (suc k) (Term.Variable v) h = go (walk-signed k) (s v) refl
    where
      go : ((t : Term) → SignedTerm t → SignedTerm (walk k s t)) → (o : Option Term) → s v ≡ o → SignedTerm (follow o (Term.Variable v) (walk k s))
      go ih none e = tt
      go ih (some t) e = ih t (entries v t e)

  copy-signed : (k : ℕ) (e : Flat) → SignedTree e → SignedTree (copy_propagate_expr k s e)
  unfolding copy_propagate_expr
  copy-signed k (Flat.infixed o a b) h = (copy-signed k a h.0, copy-signed k b h.1)
  copy-signed k (Flat.negate a) h = copy-signed k a h
  copy-signed k (Flat.constant c) h = h
  copy-signed k (Flat.variable v) h = term-tree (walk k s (Term.Variable v)) (walk-signed k (Term.Variable v) tt)

  after-signed : (ps : List ℕ) (k : ℕ) (d : Definition) → SignedTree d.right → SignedEntries (after_def ps k s d)
  unfolding after_def
  after-signed ps k d h =
      substituting-entries (λ v t. SignedTerm t) (member d.id ps) d.id (copy_propagate_expr k s d.right) s
      (λ t _ e. tree-term t (subst SignedTree e (copy-signed k d.right h)))
      entries

  equations-signed : (k : ℕ) (es : List Equation) → All SignedEquation es → All SignedEquation (copy_propagate_equations k s es)
  unfolding copy_propagate_equations
  equations-signed k [] h = tt
  equations-signed k (e ∷ es) h = ((copy-signed k e.left h.0.0, copy-signed k e.right h.0.1), equations-signed k es h.1)

copies-signed : (ps : List ℕ) (k : ℕ) (ds : List Definition) (s : Substitutions) → SignedEntries s → All (λ d. SignedTree d.right) ds
    → All (λ d. SignedTree d.right) (copy_propagate_defs ps k s ds) × SignedEntries (after_defs ps k s ds)
unfolding copy_propagate_defs copy_propagate_def after_defs
copies-signed ps k [] s e h = (tt, e)
copies-signed ps k (d ∷ ds) s e h =
    let r = copies-signed ps k ds (after_def ps k s d) (after-signed s e ps k d h.0) h.1 in
    ((copy-signed s e k d.right h.0, r.0), r.1)

-- cuts
zero-signed : SFits w32 (pos 0)
zero-signed = record { sfits = omega arith }

when-signed : (b : Bool) (s t : Side) → SignedSide s → SignedSide t → SignedSide (when b s t)
unfolding when
when-signed true s t h k = h
when-signed false s t h k = k

infix-signed : (o : InfixOp) (a b : Term) → SignedTerm a → SignedTerm b → SignedSide (infix_op o a b)
unfolding infix_op
infix-signed InfixOp.Divide a b h k = when-signed _ (Side.copy a) (Side.infixed InfixOp.Divide a b) h (h, k)
infix-signed InfixOp.DivideZ a b h k = when-signed _ (Side.copy a) _ h (when-signed _ (Side.copy a) (Side.infixed InfixOp.DivideZ a b) h (h, k))
infix-signed InfixOp.Multiply a b h k =
    when-signed _ (Side.copy b) _ k
    (when-signed _ (Side.copy a) _ h (when-signed _ (Side.copy a) _ h (when-signed _ (Side.copy b) (Side.infixed InfixOp.Multiply a b) k (h, k))))
infix-signed InfixOp.Add a b h k = when-signed _ (Side.copy b) _ k (when-signed _ (Side.copy a) (Side.infixed InfixOp.Add a b) h (h, k))
infix-signed InfixOp.Subtract a b h k = when-signed _ (Side.copy a) (Side.infixed InfixOp.Subtract a b) h (h, k)
infix-signed InfixOp.Equal a b h k = (h, k)
infix-signed InfixOp.Exponentiate a b h k = (h, k)
infix-signed InfixOp.IntDivide a b h k = when-signed _ (Side.copy a) (Side.infixed InfixOp.IntDivide a b) h (h, k)
infix-signed InfixOp.Modulo a b h k = when-signed _ (Side.copy (Term.Constant (pos 0))) (Side.infixed InfixOp.Modulo a b) zero-signed (h, k)

abbrev SignedOut : Option Term → Type 0
SignedOut none = Unit {0}
SignedOut (some t) = SignedTerm t

or-signed : (out : Option Term) (n : ℕ) → SignedOut out → SignedTerm (or_variable out n)
unfolding or_variable
or-signed none n h = tt
or-signed (some t) n h = h

push-signed : (out : Option Term) (es : List Equality) (n : ℕ) (s : Side) → SignedOut out → All SignedEquality es → SignedSide s
    → All SignedEquality (push_constraint_def out es n s).equalities × SignedTerm (push_constraint_def out es n s).term
unfolding push_constraint_def
push-signed out es n s o h k = (all_append SignedEquality es _ h ((or-signed out n o, k), tt), or-signed out n o)

expr-signed : (out : Option Term) (e : Flat) (n : ℕ) → SignedOut out → SignedTree e
    → All SignedEquality (flatten_expr_to_3ac out e n).equalities × SignedTerm (flatten_expr_to_3ac out e n).term
unfolding flatten_expr_to_3ac copied
expr-signed none (Flat.constant c) n o h = (tt, h)
expr-signed (some t) (Flat.constant c) n o h = (((o, h), tt), o)
expr-signed none (Flat.variable v) n o h = (tt, tt)
expr-signed (some t) (Flat.variable v) n o h = (((o, tt), tt), o)
expr-signed out (Flat.negate a) n o h =
    let x : Cut = flatten_expr_to_3ac none a n in
    let r = expr-signed none a n tt h in
    push-signed out x.equalities x.next (Side.negate x.term) o r.0 r.1
expr-signed out (Flat.infixed q a b) n o h =
    let x : Cut = flatten_expr_to_3ac none a n in
    let y : Cut = flatten_expr_to_3ac none b x.next in
    let r = expr-signed none a n tt h.0 in
    let s = expr-signed none b x.next tt h.1 in
    push-signed out (x.equalities ++ y.equalities) y.next (infix_op q x.term y.term) o
    (all_append SignedEquality x.equalities y.equalities r.0 s.0) (infix-signed q x.term y.term r.1 s.1)

abbrev SignedCuts : Cuts → Type 0
SignedCuts c = All SignedEquality c.equalities

def-signed : (b : Bool) (d : Definition) (n : ℕ) → SignedTree d.right → SignedCuts (flatten_def_to_3ac b d n)
unfolding flatten_def_to_3ac placed cuts_of
def-signed true d n h = tt
def-signed false d n h = placed-all (λ l r. SignedTerm l × SignedSide r) _ _ (expr-signed (some (Term.Variable d.id)) d.right n tt h).0

defs-signed : (ps : List ℕ) (ds : List Definition) (n : ℕ) → All (λ d. SignedTree d.right) ds → SignedCuts (flatten_defs ps ds n)
unfolding flatten_defs joined
defs-signed ps [] n h = tt
defs-signed ps (d ∷ ds) n h =
    let x : Cuts = flatten_def_to_3ac (member d.id ps) d n in
    all_append SignedEquality x.equalities _ (def-signed (member d.id ps) d n h.0) (defs-signed ps ds x.next h.1)

abbrev SignedSides : Sides → Type 0
SignedSides (into t e) = SignedTerm t × SignedTree e
SignedSides (both a b) = SignedTree a × SignedTree b

sides-signed : (a b : Flat) → SignedTree a → SignedTree b → SignedSides (sides a b)
unfolding sides
sides-signed (Flat.variable v) r h k = (tt, k)
sides-signed (Flat.constant c) (Flat.variable w) h k = (tt, h)
sides-signed (Flat.constant c) (Flat.constant d) h k = (h, k)
sides-signed (Flat.constant c) (Flat.negate b) h k = (h, k)
sides-signed (Flat.constant c) (Flat.infixed o b d) h k = (h, k)
sides-signed (Flat.negate a) (Flat.variable w) h k = (tt, h)
sides-signed (Flat.negate a) (Flat.constant c) h k = (k, h)
sides-signed (Flat.negate a) (Flat.negate b) h k = (h, k)
sides-signed (Flat.negate a) (Flat.infixed o b d) h k = (h, k)
sides-signed (Flat.infixed o a c) (Flat.variable w) h k = (tt, h)
sides-signed (Flat.infixed o a c) (Flat.constant d) h k = (k, h)
sides-signed (Flat.infixed o a c) (Flat.negate b) h k = (h, k)
sides-signed (Flat.infixed o a c) (Flat.infixed q b d) h k = (h, k)

cut-sides-signed : (s : Sides) (n : ℕ) → SignedSides s → SignedCuts (flatten_sides s n)
unfolding flatten_sides joined cuts_of
cut-sides-signed (into t e) n h = (expr-signed (some t) e n h.0 h.1).0
cut-sides-signed (both a b) n h =
    let x : Cut = flatten_expr_to_3ac none a n in
    let y : Cut = flatten_expr_to_3ac none b x.next in
    let r = expr-signed none a n tt h.0 in
    let s = expr-signed none b x.next tt h.1 in
    all_append SignedEquality x.equalities _ r.0
    (all_append SignedEquality y.equalities _ s.0 (expr-signed (some x.term) (to_expr y.term) y.next r.1 (term-tree y.term s.1)).0)

cut-equations-signed : (es : List Equation) (n : ℕ) → All SignedEquation es → SignedCuts (flatten_equations es n)
unfolding flatten_equations placed joined
cut-equations-signed [] n h = tt
cut-equations-signed (e ∷ es) n h =
    let x : Cuts = flatten_sides (sides e.left e.right) n in
    let own = cut-sides-signed (sides e.left e.right) n (sides-signed e.left e.right h.0.0 h.0.1) in
    all_append SignedEquality (all_at e.place x.equalities) _ (placed-all (λ l r. SignedTerm l × SignedSide r) _ x.equalities own)
    (cut-equations-signed es x.next h.1)

-- each pass
module-signed : (f : FlatModule) → SignedModule f → Signed (flatten_module_to_3ac f)
unfolding flatten_module_to_3ac flatten_lists joined
module-signed f h =
    let x : Cuts = flatten_defs f.provers f.definitions f.next in
    record {
      equalities =
          all_append SignedEquality x.equalities _ (defs-signed f.provers f.definitions f.next h.0)
          (cut-equations-signed f.equations x.next h.1);
      kept = all-those (λ d. SignedTree d.right) (λ v. member v f.provers) f.definitions h.0;
    }

copied-signed : (f : FlatModule) → SignedModule f → SignedModule (copy_propagate f)
unfolding copy_propagate
copied-signed f h =
    let c = copies-signed f.provers _ f.definitions (λ _. none) (none-entries _) h.0 in
    (c.0, equations-signed _ c.1 _ f.equations h.1)

alive-signed : (f : FlatModule) → SignedModule f → SignedModule (eliminate_dead_equalities f)
unfolding eliminate_dead_equalities
alive-signed f h = (h.0, alive-in SignedEquation f.equations h.1)

classified-signed : (f : FlatModule) → SignedModule f → SignedModule (classify_defs f)
unfolding classify_defs
classified-signed f h = (all-those (λ d. SignedTree d.right) _ f.definitions h.0, h.1)

pub passes-keep-signed : PassesKeepSigned
unfolding passes
passes-keep-signed f h = module-signed _ (alive-signed _ (copied-signed _ (classified-signed f h)))

-- the constants of a lent record: 32 bits read as a signed number
module _ (b : List ℕ) (bytes : (k : ℕ) → get_or b k 0 < 256) where
  abbrev SignedNode : Node → Type 0
  SignedNode (Node.Infix o x y) = Unit {0}
  SignedNode (Node.Negate x) = Unit {0}
  SignedNode (Node.Constant c) = SFits w32 c
  SignedNode (Node.Variable v) = Unit {0}

  either-node : (t : Bool) (p q : Node) → SignedNode p → SignedNode q → SignedNode (pick t p q)
  unfolding pick
  either-node true p q h k = h
  either-node false p q h k = k

  node-signed : (at k : ℕ) → SignedNode (node_of b at k)
  unfolding node_of node_at node_for
  node-signed at k =
      either-node _ (Node.Infix _ _ _) _ tt
      (either-node _ (Node.Negate _) _ tt (either-node _ (Node.Constant _) (Node.Variable _) (sfits_to_z (word_at-fits b _ bytes)) tt))

  grown-signed : (below : ℕ → Flat) → ((k : ℕ) → SignedTree (below k)) → (w : Node) → SignedNode w → SignedTree (grown below w)
  unfolding grown
  grown-signed below h (Node.Infix o x y) s = (h x, h y)
  grown-signed below h (Node.Negate x) s = h x
  grown-signed below h (Node.Constant c) s = s
  grown-signed below h (Node.Variable v) s = tt

  either-tree : (t : Bool) (x y : Flat) → SignedTree x → SignedTree y → SignedTree (elim t [ true ↦ x | false ↦ y ])
  either-tree true x y h k = h
  either-tree false x y h k = k

  tree-signed : (at n k : ℕ) → SignedTree (tree b at n k)
  unfolding tree
  tree-signed at zero k = tt
  tree-signed at (suc n) k = either-tree (eqb k n) _ _ (grown-signed (tree b at n) (tree-signed at n) (node_of b at n) (node-signed at n)) (tree-signed at n k)

  rows_all : {A : Type 0} (Q : A → Type 0) (f : ℕ → A) → ((k : ℕ) → Q (f k)) → (n at : ℕ) → All Q (rows n at f)
  unfolding rows
  rows_all Q f h zero at = tt
  rows_all Q f h (suc n) at = (h at, rows_all Q f h n (suc at))

  lent_signed : SignedModule (module_of b)
  unfolding module_of definition_at equation_at
  lent_signed = (
    rows_all (λ d. SignedTree d.right) _ (λ k. tree-signed _ _ _) _ 0,
    rows_all SignedEquation _ (λ k. (tree-signed _ _ _, tree-signed _ _ _)) _ 0,
  )

pub lent-read-back : LentReadBack
lent-read-back b f c bytes a e =
    let s : SignedModule f = subst SignedModule (accepted-module b f a) (lent_signed b bytes) in
    read_back c (subst Signed (accepted f c e).1 (passes-keep-signed f s))
