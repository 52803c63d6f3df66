use Rattle.std.proofs.Common.{◌≡◌, [], drop}
use Rattle.psm_check_script.specs.Known.{with_columns}
use Rattle.psm_check_script.proofs.known.columns_of.Given as goal

abbrev pub invariant-loop-column : goal.invariant-loop-column
invariant-loop-column l = with_columns l.known (drop l.column-index l.columns) ≡ with_columns [] l.columns
