use Rattle.std.proofs.Common.{◌≡◌, drop, map}
use Rattle.psm_rules.specs.Faults.{first_from, first_of}
use Rattle.psm_rules.specs.FileFaults.{table_fault}
use Rattle.psm_check_stmt.proofs.files.tables_fault.Given as goal

abbrev pub invariant-loop-table : goal.invariant-loop-table
invariant-loop-table l = first_from l.fault (map table_fault (drop l.table-index l.tables)) ≡ first_of (map table_fault l.tables)
