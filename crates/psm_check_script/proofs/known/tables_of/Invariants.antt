use Rattle.std.proofs.Common.{◌≡◌, [], drop}
use Rattle.psm_check_script.specs.Known.{with_tables}
use Rattle.psm_check_script.proofs.known.tables_of.Given as goal

abbrev pub invariant-loop-table : goal.invariant-loop-table
invariant-loop-table l = with_tables l.known (drop l.table-index l.tables) ≡ with_tables [] l.tables
