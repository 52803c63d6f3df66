use Rattle.psm_commands.proofs.Reading.{object_refused_by}
use Rattle.psm_commands.proofs.source.loaded.Goals as goal

pub returns-in-Err : goal.returns-in-Err
returns-in-Err c = rw c.not_loaded_by.ensures (object_refused_by c.args.bytes.now c.in-Err.fault c.in-Err.ensures.loads)
