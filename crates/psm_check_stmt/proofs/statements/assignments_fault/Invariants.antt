use Rattle.std.proofs.Common.{◌≡◌, drop, map}
use Rattle.std.specs.Option.{option_copied}
use Rattle.psm_scope.specs.Rows.{columns_known}
use Rattle.psm_rules.specs.Faults.{first_from, first_of}
use Rattle.psm_rules.specs.StatementFaults.{assignment_fault, several}
use Rattle.psm_check_expr.specs.Seen.{seen_in_checker_scope}
use Rattle.psm_check_stmt.proofs.statements.assignments_fault.Given as goal

abbrev pub invariant-loop-a : goal.invariant-loop-a
invariant-loop-a l = first_from l.fault (map (assignment_fault (seen_in_checker_scope l.checker_scope) (columns_known (option_copied l.columns))) (drop l.a-index l.assignments.rest)) ≡ first_of (map (assignment_fault (seen_in_checker_scope l.checker_scope) (columns_known (option_copied l.columns))) (several l.assignments))
