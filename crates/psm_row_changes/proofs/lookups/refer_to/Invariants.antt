use Rattle.std.proofs.Common.{◌≡◌, take, true}
use Rattle.std.specs.List.{list_all}
use Rattle.psm_table.specs.Keyed.{is_referred}
use Rattle.psm_row_changes.proofs.lookups.refer_to.Given as goal

abbrev pub invariant-loop-row : goal.invariant-loop-row
invariant-loop-row l = list_all (is_referred l.key.columns l.key.target l.table.contents.rows) (take l.row-index l.rows) ≡ true
