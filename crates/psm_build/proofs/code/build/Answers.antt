use Rattle.psm_build.proofs.Building.{module_refused}
use Rattle.psm_build.proofs.code.build.Goals as goal

pub returns-clause-only_fault : goal.returns-clause-only_fault
returns-clause-only_fault c = module_refused c.args.bytes.now c.code_of.result c.code_of.ensures
