use Rattle.psm_table.specs.Queries.{in_walk}
use Rattle.psm_query.proofs.Finished.{answer_fault, answer_finished}
use Rattle.psm_query.proofs.answering.rows_of.Goals as goal

pub returns-in-Ok : goal.returns-in-Ok
returns-in-Ok c =
    answer_finished c.args.vars.now c.args.query.now.test c.args.query.now.items (in_walk c.args.query.now.downward c.args.table.now.contents.rows)
    c.in-Ok.gathering c.finish.result c.in-Ok.ensures c.finish.ensures

pub returns-in-Err : goal.returns-in-Err
returns-in-Err c =
    answer_fault c.args.vars.now c.args.query.now.test c.args.query.now.items (in_walk c.args.query.now.downward c.args.table.now.contents.rows)
    c.in-Err.fault c.in-Err.ensures
