use Rattle.std.proofs.Common.{◌≡◌, length}
use Rattle.psm_table.specs.Held.{live_rows}
use Rattle.psm_table.specs.Left.{left_of}
use Rattle.psm_table.proofs.walk.RowsLeft.next.Given as goal

abbrev pub invariant-pairs : goal.invariant-pairs
invariant-pairs l = live_rows (left_of l.self-inside.pairs) ≡ live_rows (left_of l.initial.self-inside.pairs)

abbrev pub decreases-pairs : goal.decreases-pairs
decreases-pairs l = length (left_of l.self-inside.pairs)
