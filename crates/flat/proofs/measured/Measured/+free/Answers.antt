-- `Measured::free` meets its contract. Assumes nothing.
use native.Mathlib.Omega.{arith}
use mathlib.Core.Path.{sym}
use Rattle.flat.proofs.Nodes.{infix-below, negate-below, variable-below}
use Rattle.flat.proofs.Order.{walk-infix, walk-infix-no, walk-negate, walk-constant, walk-variable}
use Rattle.flat.proofs.measured.Measured.+free.Goals as goal

pub free-requires : goal.free-requires
free-requires t c =
    let w = infix-below _ _ _ _ c.requires.fit _ c.requires.node (sym c.in-Infix.ensures) in
    (omega (arith, c.decreases, w.0), (omega (arith, w.0, c.requires.node), (c.requires.fit, c.requires.ids)))

pub free-requires-then-free : goal.free-requires-then-free
free-requires-then-free t c =
    let w = infix-below _ _ _ _ c.requires.fit _ c.requires.node (sym c.in-Infix.ensures) in
    (omega (arith, c.decreases, w.1), (omega (arith, w.1, c.requires.node), (c.requires.fit, c.requires.ids)))

pub free-requires-in-Negate : goal.free-requires-in-Negate
free-requires-in-Negate t c =
    let w = negate-below _ _ _ _ c.requires.fit _ c.requires.node (sym c.in-Negate.ensures) in
    (omega (arith, c.decreases, w), (omega (arith, w, c.requires.node), (c.requires.fit, c.requires.ids)))

pub bounds-later-v : goal.bounds-later-v
bounds-later-v t c = omega (arith, variable-below _ _ _ _ c.requires.fit _ c.requires.node (sym c.in-Variable.ensures), c.requires.ids)

pub returns-then-free : goal.returns-then-free
returns-then-free t c =
    let e = sym c.in-Infix.ensures in
    walk-infix _ _ _ _ e (infix-below _ _ _ _ c.requires.fit _ c.requires.node e) c.free.ensures c.if-free.true c.free-then-free.ensures

pub returns-else-free : goal.returns-else-free
returns-else-free t c =
    let e = sym c.in-Infix.ensures in
    walk-infix-no _ _ _ _ e (infix-below _ _ _ _ c.requires.fit _ c.requires.node e) c.free.ensures c.if-free.false

pub returns-in-Negate : goal.returns-in-Negate
returns-in-Negate t c =
    let e = sym c.in-Negate.ensures in
    walk-negate _ _ _ _ e (negate-below _ _ _ _ c.requires.fit _ c.requires.node e) c.free-in-Negate.ensures

pub returns-in-Constant : goal.returns-in-Constant
returns-in-Constant t c = walk-constant _ _ _ _ (sym c.in-Constant.ensures)

pub returns-in-Variable : goal.returns-in-Variable
returns-in-Variable t c = walk-variable _ _ _ _ (sym c.in-Variable.ensures)
