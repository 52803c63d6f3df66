use Rattle.psm_script_code.proofs.Heads.{written_known}
use Rattle.psm_script_code.proofs.laws.scripts_name_the_same_of_a_file_and_its_code.Goals as goal

pub returns : goal.returns
returns c = written_known
