use Rattle.psm_token.proofs.Once.{spells_once, first_fault_once, fault_excludes}
use Rattle.psm_token.proofs.laws.one_list.Goals as goal

pub returns-clause-one : goal.returns-clause-one
returns-clause-one c = spells_once

pub returns-clause-one_fault : goal.returns-clause-one_fault
returns-clause-one_fault c = first_fault_once

pub returns-clause-apart : goal.returns-clause-apart
returns-clause-apart c = fault_excludes
