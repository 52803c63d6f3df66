use Rattle.psm_build.proofs.ModuleCode.{means_module}
use Rattle.psm_build.proofs.laws.code_means_its_module.Goals as goal

pub returns : goal.returns
returns c = means_module
