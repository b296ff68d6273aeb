-- `source_check::naming::names_fit` meets its contract. Assumes nothing.
use Rattle.std.proofs.Common.{rules}
use native.Mathlib.Omega.{arith}
use Prim.Native.Nat.{◌<◌}
use mathlib.Core.Path.{◌≡◌, ◌∙◌, sym}
use Rattle.marks.proofs.Indices.{every-none, every_more}
use Rattle.source.proofs.Parts.{offset-is, size_is}
use Rattle.source.proofs.Names.{end_none, end_more, names-fail, names-end}
use Rattle.source_check.proofs.naming.names_fit.Goals as goal

pub loop-k-init : goal.loop-k-init
loop-k-init c = record { fit = every-none _; end = end_none _; few = omega arith }

pub name_fits-requires : goal.name_fits-requires
name_fits-requires c = (omega (arith, c.requires.0), (c.requires.1, c.loop-k.invariant.end))

pub returns-then-not-name_fits : goal.returns-then-not-name_fits
returns-then-not-name_fits c =
    let l : c.loop-k.k < c.args.n = omega arith in
    names-fail c.args.s.now _ _ c.loop-k.k l c.name_fits.ensures c.if-not-name_fits.true

pub loop-k-preserved : goal.loop-k-preserved
loop-k-preserved c =
    let read = c.name_at-name.ensures.value in
    record {
      fit = every_more _ _ c.loop-k.invariant.fit (sym c.name_fits.ensures ∙ c.if-not-name_fits.false);
      end = end_more c.args.s.now _ (offset-is read) (size_is read);
      few = search rules;
    }

pub returns : goal.returns
returns c =
    let e : c.loop-k.k ≡ c.args.n = omega arith in
    names-end c.args.s.now _ _ _ c.loop-k.invariant.fit c.loop-k.invariant.end e
