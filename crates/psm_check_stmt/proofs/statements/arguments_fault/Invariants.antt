use Rattle.std.proofs.Common.{◌≡◌, drop}
use Rattle.psm_rules.specs.Faults.{first_from, first_of}
use Rattle.psm_rules.specs.StatementFaults.{arguments_fault}
use Rattle.psm_check_expr.specs.Seen.{seen_in_checker_scope}
use Rattle.psm_check_stmt.proofs.statements.arguments_fault.Given as goal

abbrev pub invariant-loop-number : goal.invariant-loop-number
invariant-loop-number l = first_from l.fault (arguments_fault (seen_in_checker_scope l.checker_scope) (drop l.number l.parameters) (drop l.number l.arguments)) ≡ first_of (arguments_fault (seen_in_checker_scope l.checker_scope) l.parameters l.arguments)
