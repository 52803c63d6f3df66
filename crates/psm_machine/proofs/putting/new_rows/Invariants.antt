use Rattle.std.proofs.Common.{◌≡◌, map, take}
use Rattle.psm_tablecode.specs.NewRows.{new_row}
use Rattle.psm_machine.proofs.putting.new_rows.Given as goal

abbrev pub invariant-loop-row : goal.invariant-loop-row
invariant-loop-row l = l.new.items ≡ map (new_row l.def l.columns) (take l.row-index l.rows)
