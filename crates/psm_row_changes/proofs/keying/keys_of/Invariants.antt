use Rattle.std.proofs.Common.{◌≡◌, take}
use Rattle.psm_row_changes.specs.Rows.{keys_of_rows}
use Rattle.psm_row_changes.proofs.keying.keys_of.Given as goal

abbrev pub invariant-loop-row : goal.invariant-loop-row
invariant-loop-row l = l.keys.items ≡ keys_of_rows l.table.contents.def (take l.row-index l.rows)
