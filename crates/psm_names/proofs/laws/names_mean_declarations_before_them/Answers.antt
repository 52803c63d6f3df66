use Rattle.psm_names.proofs.EachOnce.{checks-declared, routine-declared}
use Rattle.psm_names.proofs.laws.names_mean_declarations_before_them.Goals as goal

pub returns-clause-routines : goal.returns-clause-routines
returns-clause-routines c = routine-declared

pub returns-clause-checks : goal.returns-clause-checks
returns-clause-checks c = checks-declared
