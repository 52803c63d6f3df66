use Rattle.std.proofs.Common.{◌≡◌, None, take, true}
use Rattle.std.specs.List.{list_all}
use Rattle.psm_table.specs.Keyed.{rows_in}
use Rattle.psm_row_changes.specs.KeyTests.{holds_late}
use Rattle.psm_row_changes.proofs.lookups.hold_late.Given as goal

abbrev pub invariant-loop-at : goal.invariant-loop-at
invariant-loop-at g l = list_all (holds_late l.t None l.adds (rows_in (g.S.Store.tables l.store))) (take l.at l.constraints) ≡ true
