use Rattle.std.proofs.Common.{◌≡◌, drop}
use Rattle.std.specs.Prelude.{IsTrue}
use Rattle.psm_scope.specs.KeptScopes.{can_declare_here}
use Rattle.psm_rules.specs.BlockFaults.{with_columns}
use Rattle.psm_check_stmt.specs.ForItems.{variables_here, with_variables_here}
use Rattle.psm_check_stmt.proofs.loops.declare_all_columns.Given as goal

abbrev pub invariant-loop-number : goal.invariant-loop-number
invariant-loop-number l = IsTrue (can_declare_here l.scopes)
    × (with_variables_here l.scopes (with_columns (variables_here l.scopes) (drop l.number l.columns)) ≡ with_variables_here l.fn.scopes (with_columns (variables_here l.fn.scopes) l.columns))
