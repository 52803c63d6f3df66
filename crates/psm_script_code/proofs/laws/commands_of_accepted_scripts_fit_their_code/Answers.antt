use Rattle.psm_script_code.proofs.Fits.{commands_ask, commands_fit}
use Rattle.psm_script_code.proofs.laws.commands_of_accepted_scripts_fit_their_code.Goals as goal

pub returns : goal.returns
returns c = record { fit = commands_fit; letters = commands_ask }
