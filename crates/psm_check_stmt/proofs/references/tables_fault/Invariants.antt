use Rattle.std.proofs.Common.{◌≡◌, drop}
use Rattle.psm_rules.specs.Faults.{first_from, first_of}
use Rattle.psm_rules.specs.FileFaults.{references_faults}
use Rattle.psm_check_stmt.proofs.references.tables_fault.Given as goal

abbrev pub invariant-loop-table : goal.invariant-loop-table
invariant-loop-table l = first_from l.fault (references_faults l.known (drop l.table-index l.tables)) ≡ first_of (references_faults l.fn.known l.tables)
