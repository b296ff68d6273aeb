-- `pass_entry::body::build` meets its contract. Assumes nothing.
use borrow.Author.Rules.{rules}
use native.Mathlib.Omega.{arith}
use mathlib.Core.Path.{◌≡◌, sym, ap, ◌∙◌}
use mathlib.Core.List.{List}
use Prim.Native.Nat.{ℕ}
use denote.MutBor.{MutBor}
use lib.ListN.{length}
use Rattle.words.proofs.Laws.{length-set_words}
use Rattle.pass_classify.proofs.Laid.{next-laid, publics-laid}
use Rattle.pass_classify.proofs.Whole.{classified-definitions}
use Rattle.pass_entry.specs.Body.{Numbers}
use Rattle.pass_entry.proofs.Building.{Lists, parts, by_parts, lists-made, room-definitions, room-of-equations, room-of-kept, room-of-nodes, numbers, built}
use Rattle.pass_entry.proofs.Fits.{parts-small, ordered-of, bounded-of}
use Rattle.pass_entry.proofs.body.build.Goals as goal
use Rattle.pass_entry.proofs.body.build.Goals.{After-put_provers-start, After-keep_defs}

pub put_publics-requires : goal.put_publics-requires
put_publics-requires c = let r = c.args.classes.now.record.readable in omega (arith, r.publics-few, c.requires.body_len.0)

pub put_provers-start-requires : goal.put_provers-start-requires
put_provers-start-requires c =
    let read = c.args.classes.now.record in
    let r = read.readable in
    let publics = publics-laid read.bytes.now read.laid in
    omega (arith, r.next_small, r.publics-few, publics, c.requires.body_len.0, ap length c.put_publics.ensures ∙ length-set_words _ _ _)

-- the bytes of a slice that is lent
its-now : {x y : MutBor (List ℕ)} → x ≡ y → x.now ≡ y.now
its-now e = ap (λ (m : MutBor (List ℕ)). m.now) e

its-name : {x y : MutBor (List ℕ)} → x ≡ y → x.ghost_name ≡ y.ghost_name
its-name e = ap (λ (m : MutBor (List ℕ)). m.ghost_name) e

-- what stands in the body before the equalities
lists : (c : After-put_provers-start) → Lists c.args.classes.now.record.bytes.now c.args.classes.now.provers.now c.args.body.now
    c.put_provers-start.new.body c.put_provers-start.result
lists c =
    let read = c.args.classes.now.record in
    lists-made read.bytes.now _ c.args.body.now (publics-laid read.bytes.now read.laid) c.put_publics.ensures c.put_provers-start.ensures

pub overflow_cast-writer : goal.overflow_cast-writer
overflow_cast-writer c =
    let read = c.args.classes.now.record in
    let r = read.readable in
    record { fits = omega (arith, r.next_small, next-laid read.bytes.now read.laid) }

pub flatten_defs-requires : goal.flatten_defs-requires
flatten_defs-requires c =
    let classes = c.args.classes.now in
    let l = lists (goal.at.flatten_defs-requires c).After-put_provers-start in
    room-definitions classes.record.readable classes.classified c.requires.few c.requires.body_len.0 l c.new-subs.result.steps _
    (next-laid classes.record.bytes.now classes.record.laid)

pub flatten_equations-requires : goal.flatten_equations-requires
flatten_equations-requires c =
    let classes = c.args.classes.now in
    let l = lists (goal.at.flatten_equations-requires c).After-put_provers-start in
    let d = c.flatten_defs.ensures in
    room-of-equations classes.record.readable classes.classified c.requires.few c.requires.body_len.0 l c.new-subs.result.steps _
    (next-laid classes.record.bytes.now classes.record.laid) _ _ c.new-subs.ensures.0 _ _ (its-now d.body_after, (d.value, d.subs_after))

pub keep_defs-requires : goal.keep_defs-requires
keep_defs-requires c =
    let classes = c.args.classes.now in
    let r = classes.record.readable in
    let n = next-laid classes.record.bytes.now classes.record.laid in
    let l = lists (goal.at.keep_defs-requires c).After-put_provers-start in
    let d = c.flatten_defs.ensures in
    let e = rw d.steps at c.flatten_equations.ensures in
    let long = c.requires.body_len in (
      room-of-kept r classes.classified c.requires.few long.0 l c.new-subs.result.steps _ n _ _ c.new-subs.ensures.0 _ _
          (its-now d.body_after, (d.value, d.subs_after)) _ _ (its-now e.body_after, e.value),
      room-of-nodes r classes.classified c.requires.few long.0 l c.new-subs.result.steps _ n _ _ c.new-subs.ensures.0 _ _
          (its-now d.body_after, (d.value, d.subs_after)) _ _ (its-now e.body_after, e.value) long.1,
    )

-- the numbers say where the parts stand that were written
says : (c : After-keep_defs) → Lists c.args.classes.now.record.bytes.now c.args.classes.now.provers.now c.args.body.now c.put_provers-start.new.body
    c.put_provers-start.result → Numbers (parts c.args.classes.now.record.bytes.now c.new-subs.result.steps) c.flatten_equations.new.self.next
    c.args.classes.now.record.layout.publics c.put_provers-start.result c.flatten_equations.new.self.at c.keep_defs.new.self.at c.keep_defs.new.self.nodes
says c l =
    let classes = c.args.classes.now in
    let d = c.flatten_defs.ensures in
    let e = rw d.steps at c.flatten_equations.ensures in
    let k = rw (c.clear.ensures.1 ∙ d.steps) at c.keep_defs.ensures in
    let n = next-laid classes.record.bytes.now classes.record.laid in
    let p = publics-laid classes.record.bytes.now classes.record.laid in
    numbers classes.record.readable classes.classified c.requires.few c.requires.body_len.0 l c.new-subs.result.steps _ n _ _
    c.new-subs.ensures.0 _ _ (its-now d.body_after, (d.value, d.subs_after)) _ _ (its-now e.body_after, e.value) _ _ _ _ _ c.clear.ensures.0 _
    (its-now k.body_after, (its-now k.list_after, (k.value, k.subs_after))) _ p

-- the numbers follow each other, and are not too large
pub invariant_of-result : goal.invariant_of-result
invariant_of-result c =
    let at = goal.at.invariant_of-result c in
    let numbered = says at.After-keep_defs (lists at.After-put_provers-start) in
    let small = parts-small c.args.classes.now.record.readable c.requires.few c.new-subs.result.steps in
    record { ordered = ordered-of small numbered; bounded = bounded-of small numbered }

pub returns : goal.returns
returns c =
    let classes = c.args.classes.now in
    let at = goal.at.returns c in
    let l = lists at.After-put_provers-start in
    let d = c.flatten_defs.ensures in
    let e = rw d.steps at c.flatten_equations.ensures in
    let k = rw (c.clear.ensures.1 ∙ d.steps) at c.keep_defs.ensures in
    let n = next-laid classes.record.bytes.now classes.record.laid in
    let used = c.new-subs.ensures.1 ∙ c.used_definitions.ensures ∙ ap length (sym (classified-definitions classes.classified)) in
    let by = by_parts classes.record.bytes.now c.new-subs.result.steps used in
    let made = built classes.record.readable classes.classified c.requires.few c.requires.body_len.0 l c.new-subs.result.steps _ n _ _ c.new-subs.ensures.0 _ _
    (its-now d.body_after, (d.value, d.subs_after)) _ _ (its-now e.body_after, e.value) _ _ _ _ _ c.clear.ensures.0 _
    (its-now k.body_after, (its-now k.list_after, (k.value, k.subs_after))) in
    let body-name = sym (its-name k.body_after) in
    let equations-name = sym (its-name e.body_after ∙ its-name d.body_after) in
    let list-name = sym (its-name k.list_after) in
    rw by (record {
      value = says at.After-keep_defs l;
      body_after = search (rules, body-name, equations-name) ∙ made.0;
      list_after = search (rules, list-name) ∙ made.1;
    })
