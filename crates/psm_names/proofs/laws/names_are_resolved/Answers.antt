use Rattle.psm_names.proofs.Statements.{routine-gives}
use Rattle.psm_names.proofs.laws.names_are_resolved.Goals as goal

pub returns : goal.returns
returns c = routine-gives
