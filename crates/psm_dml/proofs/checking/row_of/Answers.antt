use Rattle.psm_dml.proofs.Judging.{refused_is}
use Rattle.psm_dml.proofs.checking.row_of.Goals as goal

pub returns-in-Err : goal.returns-in-Err
returns-in-Err c = refused_is _ c.in-Err.fault c.condition_of.result c.in-Err.ensures c.condition_of.ensures
