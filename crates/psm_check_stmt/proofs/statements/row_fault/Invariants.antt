use Rattle.std.proofs.Common.{◌≡◌, ◌++◌, drop, map}
use Rattle.psm_rules.specs.StatementFaults.{checked, several}
use Rattle.psm_check_expr.specs.Seen.{seen_in_checker_scope}
use Rattle.psm_check_stmt.proofs.statements.row_fault.Given as goal

abbrev pub invariant-loop-value : goal.invariant-loop-value
invariant-loop-value l = l.values.items ++ map (checked (seen_in_checker_scope l.checker_scope)) (drop l.value-index l.row.values.rest) ≡ map (checked (seen_in_checker_scope l.checker_scope)) (several l.row.values)
