use Rattle.psm_commands.proofs.Reading.{module_refused_by}
use Rattle.psm_commands.proofs.source.code_of.Goals as goal

pub returns-in-Err : goal.returns-in-Err
returns-in-Err c = rw c.refused_by.ensures (module_refused_by c.args.bytes.now c.in-Err.fault c.in-Err.ensures.builds)
