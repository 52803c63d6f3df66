use Rattle.psm_build.proofs.Building.{script_given, script_refused_over}
use Rattle.psm_build.proofs.code.build_script.Goals as goal

pub returns-clause-only : goal.returns-clause-only
returns-clause-only c = script_given c.args.code.now c.args.bytes.now c.script_over.result c.script_over.ensures

pub returns-clause-only_fault : goal.returns-clause-only_fault
returns-clause-only_fault c = script_refused_over c.args.code.now c.args.bytes.now c.script_over.result c.script_over.ensures
