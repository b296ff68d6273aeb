use Prim.Native.Nat.{◌+◌, ◌*◌}
use Rattle.eval_write.proofs.writer.Writer.+write_tree.Given as goal

abbrev pub decreases-below : goal.decreases-below
decreases-below l = 2 * l.n

abbrev pub decreases-tree : goal.decreases-tree
decreases-tree l = 2 * l.n + 1
