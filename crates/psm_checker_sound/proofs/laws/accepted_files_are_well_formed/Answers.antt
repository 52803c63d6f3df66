use Rattle.psm_checker_sound.proofs.Files.{file-well_formed}
use Rattle.psm_checker_sound.proofs.laws.accepted_files_are_well_formed.Goals as goal

pub returns : goal.returns
returns c = file-well_formed
