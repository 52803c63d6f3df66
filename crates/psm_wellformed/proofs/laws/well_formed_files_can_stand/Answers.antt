use Rattle.psm_wellformed.proofs.Statements.{file-stands}
use Rattle.psm_wellformed.proofs.laws.well_formed_files_can_stand.Goals as goal

pub returns : goal.returns
returns c = file-stands
