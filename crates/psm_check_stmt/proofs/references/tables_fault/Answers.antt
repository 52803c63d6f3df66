use Rattle.psm_rules.specs.Faults.{first_of}
use Rattle.psm_rules.specs.FileFaults.{references_faults}
use Rattle.psm_check_stmt.proofs.Referring.{table-next}
use Rattle.psm_check_stmt.proofs.references.tables_fault.Goals as goal

pub loop-table-preserved : goal.loop-table-preserved
loop-table-preserved c =
    let tables = c.args.tables.now in
    table-next tables c.loop-table.table-index c.table-item.result c.loop-table.known c.add_referred.new.known c.loop-table.fault c.in_ok-own.own c.earlier-fault.result (first_of (references_faults c.args.known.now tables))
    c.loop-table-test.true c.table-item.is c.in_ok-add_referred.ensures c.in_ok-own.ensures c.earlier-fault.ensures c.loop-table.invariant
