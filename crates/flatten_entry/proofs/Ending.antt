-- The Rust's own copy propagation ends on every flat module that comes of a source record. Assumes nothing.
use mathlib.Core.Path.{sym, subst}
use Rattle.source.proofs.Accepted.{accepted-module}
use Rattle.eval_trees.proofs.NeatModule.{BareModule}
use Rattle.eval_simulation.proofs.Beginning.Bare.{record-bare}
use Rattle.agreement.proofs.Ending.{rust-ends-on-evaluated, rust-agrees-on-evaluated}
use Rattle.flatten_entry.specs.Ending.{RustEndsOnEvaluated}

pub record-rust-ends : RustEndsOnEvaluated
record-rust-ends b m capacity f r e =
    let bare : BareModule m = subst BareModule (sym (accepted-module b m r)) (record-bare b) in
    (rust-ends-on-evaluated m bare capacity f e, rust-agrees-on-evaluated m bare capacity f e)
