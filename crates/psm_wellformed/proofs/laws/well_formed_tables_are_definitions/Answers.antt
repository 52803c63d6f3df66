use Rattle.psm_wellformed.proofs.Definitions.{file-definitions}
use Rattle.psm_wellformed.proofs.laws.well_formed_tables_are_definitions.Goals as goal

pub returns : goal.returns
returns c = file-definitions
