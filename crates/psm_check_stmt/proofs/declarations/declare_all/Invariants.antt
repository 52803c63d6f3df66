use Rattle.std.proofs.Common.{◌≡◌, drop}
use Rattle.std.specs.Prelude.{IsTrue}
use Rattle.psm_scope.specs.KeptScopes.{can_declare_here}
use Rattle.psm_rules.specs.StatementFaults.{several}
use Rattle.psm_rules.specs.BlockFaults.{local_variable, with_variables}
use Rattle.psm_check_stmt.proofs.declarations.declare_all.Given as goal

abbrev pub invariant-loop-name : goal.invariant-loop-name
invariant-loop-name l = IsTrue (can_declare_here l.scopes)
    × (with_variables l.scopes (drop l.name-index l.name-items) (local_variable l.kind) ≡ with_variables l.fn.scopes (several l.names) (local_variable l.kind))
