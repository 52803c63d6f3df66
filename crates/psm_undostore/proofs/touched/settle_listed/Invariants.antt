use Rattle.std.proofs.Common.{length}
use Rattle.psm_undostore.proofs.Settled.{Settling}
use Rattle.psm_undostore.proofs.touched.settle_listed.Given as goal

abbrev pub invariant-loop-t : goal.invariant-loop-t
invariant-loop-t l = Settling (length l.initial.tables) l.initial.tables l.is_touched.items l.numbers.items l.tables

abbrev pub decreases-loop-t : goal.decreases-loop-t
decreases-loop-t l = length l.numbers.items
