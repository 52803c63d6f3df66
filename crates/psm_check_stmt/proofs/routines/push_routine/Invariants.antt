use Rattle.std.proofs.Common.{◌≡◌, true, drop}
use Rattle.psm_scope.specs.KeptScopes.{can_declare_here}
use Rattle.psm_rules.specs.FileFaults.{routine_scopes, with_parameters}
use Rattle.psm_check_stmt.proofs.routines.push_routine.Given as goal

abbrev pub invariant-loop-parameter : goal.invariant-loop-parameter
invariant-loop-parameter l = (can_declare_here l.scopes ≡ true) × (with_parameters l.scopes (drop l.parameter-index l.parameter-items) ≡ routine_scopes l.r)
