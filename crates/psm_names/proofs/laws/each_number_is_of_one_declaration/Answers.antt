use Rattle.psm_names.proofs.EachOnce.{conditions-in_order, numbers-each_once}
use Rattle.psm_names.proofs.laws.each_number_is_of_one_declaration.Goals as goal

pub returns-clause-variables_and_cursors : goal.returns-clause-variables_and_cursors
returns-clause-variables_and_cursors c = numbers-each_once

pub returns-clause-conditions : goal.returns-clause-conditions
returns-clause-conditions c = conditions-in_order
