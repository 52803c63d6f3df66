use Rattle.psm_script_code.proofs.WellTyped.{commands_well_formed, commands_well_typed}
use Rattle.psm_script_code.proofs.laws.accepted_scripts_are_well_typed.Goals as goal

pub returns : goal.returns
returns c = record { well_typed = commands_well_typed; well_formed = commands_well_formed }
