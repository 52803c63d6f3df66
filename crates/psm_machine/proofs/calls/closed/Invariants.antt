use Rattle.std.proofs.Common.{◌≡◌}
use Rattle.std.specs.Prelude.{replicate}
use Rattle.psm_table.specs.Cursors.{Closed}
use Rattle.psm_machine.proofs.calls.closed.Given as goal

abbrev pub invariant-loop-cursor : goal.invariant-loop-cursor
invariant-loop-cursor l = l.cursors.items ≡ replicate l._cursor-index Closed
