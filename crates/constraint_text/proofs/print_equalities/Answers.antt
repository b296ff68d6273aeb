use Rattle.std.proofs.Common.{◌≡◌, arith, subst}
use Rattle.std.specs.Io.KnownBytes.{Appends}
use Rattle.std.proofs.KnownBytes.{Appends-nil, Appends-trans}
use Rattle.streams.proofs.Laws.{added-cut}
use Rattle.constraint_text.specs.Reading.{lines, lines_text}
use Rattle.constraint_text.proofs.Printing.{line-added, lines-cut}
use Rattle.constraint_text.proofs.print_equalities.Goals as goal

pub loop-k-init : goal.loop-k-init
unfolding lines_text
loop-k-init g c = Appends-nil _

pub loop-k-preserved : goal.loop-k-preserved
loop-k-preserved g c =
    subst (Appends _ _) (line-added _ _) (Appends-trans _ _ _ _ _ c.loop-k.invariant c.in_ok-print_line.ensures.bytes)

pub returns-clause-bytes : goal.returns-clause-bytes
returns-clause-bytes g c =
    let all : c.loop-k.k ≡ lines c.args.s.now = omega arith in
    rw (← all) c.loop-k.invariant

pub returns-in_err-print_line-clause-bytes : goal.returns-in_err-print_line-clause-bytes
returns-in_err-print_line-clause-bytes g c =
    let cut = c.in_err-print_line.ensures.bytes in
    let front = lines-cut c.args.s.now c.loop-k.k cut.0 (omega arith) in
    added-cut _ _ _ _ front.0 c.from_residual.ensures.0 (subst (Appends _ _) front.1 (Appends-trans _ _ _ _ _ c.loop-k.invariant cut.1))
