use Rattle.psm_checker_sound.proofs.SpelledFiles.{files-stand, scripts-stand}
use Rattle.psm_checker_sound.proofs.SpelledWhole.{statements-stand}
use Rattle.psm_checker_sound.proofs.laws.null_stands_in_files_where_it_may.Goals as goal

pub returns : goal.returns
returns c = record { statements = statements-stand; files = files-stand; scripts = scripts-stand }
