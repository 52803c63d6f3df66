use Rattle.psm_parse_stmt.proofs.StatementExact.{statement_left, statement_run, statement_halts}
use Rattle.psm_parse_stmt.proofs.parse.parse_stmt.Goals as goal

pub overflow_sub-result : goal.overflow_sub-result
overflow_sub-result c = statement_left c.args.tokens.now c.args.at c.args.depth c.requires.nested c.items-items.result.now c.of-cursor.result.rest.now c.items-items.ensures c.of-cursor.ensures
    c.in-Ok.statement c.statement-read.new.tokens.rest.now c.in-Ok.ensures

pub returns-in-Ok : goal.returns-in-Ok
returns-in-Ok c = statement_run c.args.tokens.now c.args.at c.args.depth c.requires.nested c.items-items.result.now c.of-cursor.result.rest.now c.items-items.ensures c.of-cursor.ensures
    c.in-Ok.statement c.statement-read.new.tokens.rest.now c.in-Ok.ensures

pub returns-in-Err : goal.returns-in-Err
returns-in-Err c = statement_halts c.args.tokens.now c.args.at c.args.depth c.requires.nested c.items-items.result.now c.of-cursor.result.rest.now c.items-items.ensures c.of-cursor.ensures
    c.in-Err.halt c.fault_of.result c.fault_of.ensures c.in-Err.ensures
