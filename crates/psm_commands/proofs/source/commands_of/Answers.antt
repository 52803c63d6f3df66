use Rattle.psm_commands.proofs.Reading.{script_refused_by}
use Rattle.psm_commands.proofs.source.commands_of.Goals as goal

pub returns-in-Err : goal.returns-in-Err
returns-in-Err c = rw c.refused_by.ensures (script_refused_by c.args.code.now c.args.bytes.now c.in-Err.fault c.in-Err.ensures.builds)
