use Rattle.psm_check_script.proofs.Named.{commands_there}
use Rattle.psm_check_script.proofs.laws.accepted_commands_name_what_is_there.Goals as goal

pub returns : goal.returns
returns c = λ code s e. commands_there code s.commands e
