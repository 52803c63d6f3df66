use Rattle.psm_names.proofs.FilesDeclared.{functions-declared, names-once, procedures-declared, resolved-columns, tables-declared}
use Rattle.psm_names.proofs.laws.names_mean_what_the_file_declares.Goals as goal

pub returns-clause-once : goal.returns-clause-once
returns-clause-once c = names-once

pub returns-clause-tables : goal.returns-clause-tables
returns-clause-tables c = tables-declared

pub returns-clause-columns : goal.returns-clause-columns
returns-clause-columns c = resolved-columns

pub returns-clause-procedures : goal.returns-clause-procedures
returns-clause-procedures c = procedures-declared

pub returns-clause-functions : goal.returns-clause-functions
returns-clause-functions c = functions-declared
