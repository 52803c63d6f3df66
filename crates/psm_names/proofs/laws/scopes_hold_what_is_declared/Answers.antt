use Rattle.psm_names.proofs.Held.{compound-holds, for-holds, routine-holds}
use Rattle.psm_names.proofs.laws.scopes_hold_what_is_declared.Goals as goal

pub returns-clause-compound_statements : goal.returns-clause-compound_statements
returns-clause-compound_statements c = λ symbols label scopes n xs cursors. compound-holds symbols scopes n label xs cursors

pub returns-clause-for_statements : goal.returns-clause-for_statements
returns-clause-for_statements c = for-holds

pub returns-clause-routines : goal.returns-clause-routines
returns-clause-routines c = routine-holds
