-- `pass_keep::Writer::put_tree` meets its contract. Assumes nothing.
use borrow.Author.Rules.{rules}
use native.Mathlib.Omega.{arith}
use mathlib.Core.Path.{ap}
use mir.ValLaws.{to_z-of_z}
use mir.Syntax.{w32}
use Rattle.constraint.specs.declared.Term.{Term}
use Rattle.flat.specs.Record.{grown}
use Rattle.pass_trees.specs.Passes.{copy_propagate_expr, to_expr}
use Rattle.pass_copies.specs.Substituted.{subst_of}
use Rattle.pass_keep.proofs.Writers.{infix-put, negate-put, term-put, room-left, room-right, room-root, room-child, room-above, room-leaf}
use Rattle.pass_keep.proofs.Writer.+put_tree.Goals as goal

pub put_tree-a-requires : goal.put_tree-a-requires
unfolding grown
put_tree-a-requires t c =
    let w = c.in-Infix.ensures.within in
    let k = c.requires.0 in
    let s = c.args.subs.now in
    (omega (arith, w.0, c.decreases), (omega (arith, k, w.0), room-left _ s.steps (subst_of s.terms) c.args.self.now c.requires.1 c.in-Infix.ensures.tree))

pub put_tree-b-requires : goal.put_tree-b-requires
unfolding grown
put_tree-b-requires t c =
    let w = c.in-Infix.ensures.within in
    let k = c.requires.0 in (
      omega (arith, w.1, c.decreases),
      (omega (arith, k, w.1), room-right _ _ _ _ c.requires.1 c.in-Infix.ensures.tree c.put_tree-a.ensures),
    )

pub push_node-requires : goal.push_node-requires
unfolding grown
push_node-requires t c = room-root _ _ _ _ c.requires.1 c.in-Infix.ensures.tree c.put_tree-a.ensures c.put_tree-b.ensures

pub put_tree-a-requires-in-Negate : goal.put_tree-a-requires-in-Negate
unfolding grown
put_tree-a-requires-in-Negate t c =
    let w = c.in-Negate.ensures.within in
    let k = c.requires.0 in
    let s = c.args.subs.now in
    (omega (arith, w, c.decreases), (omega (arith, k, w), room-child _ s.steps (subst_of s.terms) c.args.self.now c.requires.1 c.in-Negate.ensures.tree))

pub push_node-requires-in-Negate : goal.push_node-requires-in-Negate
unfolding grown
push_node-requires-in-Negate t c = room-above _ _ _ _ c.requires.1 c.in-Negate.ensures.tree c.put_tree-a-in-Negate.ensures

pub push_node-requires-in-Constant : goal.push_node-requires-in-Constant
push_node-requires-in-Constant t c = let s = c.args.subs.now in room-leaf _ s.steps (subst_of s.terms) c.args.self.now c.requires.1

pub push_node-requires-in-Variable : goal.push_node-requires-in-Variable
push_node-requires-in-Variable t c = let s = c.args.subs.now in room-leaf _ s.steps (subst_of s.terms) c.args.self.now c.requires.1

pub returns-in-Infix : goal.returns-in-Infix
unfolding grown copy_propagate_expr
returns-in-Infix t c =
    infix-put c.put_tree-a.ensures (ap (copy_propagate_expr c.args.subs.now.steps (subst_of c.args.subs.now.terms)) c.in-Infix.ensures.tree)
    c.put_tree-b.ensures c.from.ensures c.push_node.ensures

pub returns-in-Negate : goal.returns-in-Negate
unfolding grown copy_propagate_expr
returns-in-Negate t c =
    negate-put c.put_tree-a-in-Negate.ensures (ap (copy_propagate_expr c.args.subs.now.steps (subst_of c.args.subs.now.terms)) c.in-Negate.ensures.tree)
    c.push_node-in-Negate.ensures

pub returns-in-Constant : goal.returns-in-Constant
unfolding grown copy_propagate_expr to_expr
returns-in-Constant t c =
    term-put c.push_node-in-Constant.ensures (ap (copy_propagate_expr c.args.subs.now.steps (subst_of c.args.subs.now.terms)) c.in-Constant.ensures.tree)
    (ap Term.Constant (to_z-of_z w32 _ (search rules))) c.leaf.ensures

pub returns-in-Variable : goal.returns-in-Variable
unfolding grown copy_propagate_expr
returns-in-Variable t c =
    term-put c.push_node-in-Variable.ensures (ap (copy_propagate_expr c.args.subs.now.steps (subst_of c.args.subs.now.terms)) c.in-Variable.ensures.tree)
    c.resolve.ensures c.leaf-in-Variable.ensures
