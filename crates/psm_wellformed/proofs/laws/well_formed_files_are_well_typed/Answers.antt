use Rattle.psm_wellformed.proofs.WellTyped.{well_typed-file}
use Rattle.psm_wellformed.proofs.laws.well_formed_files_are_well_typed.Goals as goal

pub returns : goal.returns
returns c = well_typed-file
