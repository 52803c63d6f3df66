use Rattle.psm_names.proofs.Files.{all_checks, all_routines, functions-known, procedures-known, results-known, tables-known}
use Rattle.psm_names.proofs.laws.names_in_files_are_resolved.Goals as goal

pub returns-clause-routines : goal.returns-clause-routines
returns-clause-routines c = all_routines

pub returns-clause-checks : goal.returns-clause-checks
returns-clause-checks c = all_checks

pub returns-clause-tables : goal.returns-clause-tables
returns-clause-tables c = tables-known

pub returns-clause-procedures : goal.returns-clause-procedures
returns-clause-procedures c = procedures-known

pub returns-clause-functions : goal.returns-clause-functions
returns-clause-functions c = functions-known

pub returns-clause-results : goal.returns-clause-results
returns-clause-results c = results-known
