use Rattle.std.proofs.Common.{sym}
use Rattle.psm_load_line.proofs.Entries.{not_state}
use Rattle.psm_load_line.proofs.values.state_of.Goals as goal

pub returns-in-Err : goal.returns-in-Err
returns-in-Err c = sym (not_state c.args.bytes c.in-Err.ensures.cases.0)
