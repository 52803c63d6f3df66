use Rattle.psm_script_code.proofs.CodeTables.{commands_fit_code}
use Rattle.psm_script_code.proofs.laws.commands_of_accepted_scripts_fit_well_formed_code.Goals as goal

pub returns : goal.returns
returns c = commands_fit_code
