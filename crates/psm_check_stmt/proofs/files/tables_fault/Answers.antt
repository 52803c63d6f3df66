use Rattle.std.proofs.Common.{map}
use Rattle.psm_rules.specs.Faults.{first_of}
use Rattle.psm_rules.specs.FileFaults.{table_fault}
use Rattle.psm_check_stmt.proofs.WalkSteps.{first_next}
use Rattle.psm_check_stmt.proofs.files.tables_fault.Goals as goal

pub loop-table-preserved : goal.loop-table-preserved
loop-table-preserved c =
    let tables = c.args.tables.now in
    first_next table_fault tables c.loop-table.table-index c.table-item.result c.loop-table.fault c.in_ok-own.own c.earlier-fault.result (first_of (map table_fault tables))
    c.loop-table-test.true c.table-item.is c.in_ok-own.ensures c.earlier-fault.ensures c.loop-table.invariant
