use Rattle.psm_build.proofs.Ending.{session_ends}
use Rattle.psm_build.proofs.Files.{ends_in_once, module_exclusive, script_exclusive}
use Rattle.psm_build.proofs.laws.files_are_one_thing.Goals as goal

pub returns : goal.returns
returns c = record { modules = module_exclusive; scripts = script_exclusive; sessions = ends_in_once; ends = session_ends }
