use Rattle.std.proofs.Common.{◌≡◌, drop, map}
use Rattle.psm_rules.specs.Faults.{first_from, first_of}
use Rattle.psm_rules.specs.StatementFaults.{row_fault, several}
use Rattle.psm_check_expr.specs.Seen.{seen_in_checker_scope}
use Rattle.psm_check_stmt.proofs.statements.rows_fault.Given as goal

abbrev pub invariant-loop-row : goal.invariant-loop-row
invariant-loop-row l = first_from l.fault (map (row_fault (seen_in_checker_scope l.checker_scope) l.kinds) (drop l.row-index l.rows.rest)) ≡ first_of (map (row_fault (seen_in_checker_scope l.checker_scope) l.kinds) (several l.rows))
