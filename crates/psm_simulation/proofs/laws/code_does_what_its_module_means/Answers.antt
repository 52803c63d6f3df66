use Rattle.psm_simulation.proofs.Running.{runs-as}
use Rattle.psm_simulation.proofs.laws.code_does_what_its_module_means.Goals as goal

pub returns : goal.returns
returns c = λ file code stands n routine there procedure args tables turns h. runs-as file code stands n routine there procedure args tables turns h
