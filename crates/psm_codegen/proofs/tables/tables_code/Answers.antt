use Rattle.std.proofs.Common.{arith, sym}
use Rattle.psm_exprgen.proofs.Codes.{tables_all, tables_next}
use Rattle.psm_codegen.proofs.tables.tables_code.Goals as goal

pub loop-table-preserved : goal.loop-table-preserved
loop-table-preserved c =
    tables_next c.items-table-items.result.now c.loop-table.table-index c.table-item.result c.loop-table.codes.items c.in_ok-table_code.field-0 c.push.new.self.items
    c.in_ok-table_code.ensures (omega arith) c.table-item.is c.in_ok-push.ensures.items c.loop-table.invariant

pub returns : goal.returns
returns c =
    tables_all c.items-table-items.result.now c.args.tables.now c.loop-table.table-index c.loop-table.codes.items c.of.result
    (sym c.items-table-items.ensures) (omega arith) c.of.ensures c.loop-table.invariant
