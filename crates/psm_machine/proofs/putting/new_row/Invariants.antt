use Rattle.std.proofs.Common.{◌≡◌, ◌++◌, drop}
use Rattle.psm_tablecode.specs.NewRows.{row_from}
use Rattle.psm_machine.proofs.putting.new_row.Given as goal

abbrev pub invariant-loop-index : goal.invariant-loop-index
invariant-loop-index l = l.row.items ++ row_from l.index (drop l.index l.all) l.columns l.values ≡ row_from 0 l.all l.columns l.values
