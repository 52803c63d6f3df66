use Rattle.std.proofs.Common.{◌≡◌, drop, map}
use Rattle.psm_rules.specs.Faults.{first_from}
use Rattle.psm_rules.specs.FileFaults.{column_rule_fault}
use Rattle.psm_check_expr.specs.Seen.{seen_in_checker_scope}
use Rattle.psm_check_stmt.proofs.tables.rules_fault.Given as goal

abbrev pub invariant-loop-rule : goal.invariant-loop-rule
invariant-loop-rule l = first_from l.fault (map (λ r. column_rule_fault (seen_in_checker_scope l.checker_scope) r.form) (drop l.rule-index l.rules))
    ≡ first_from l.fn.before (map (λ r. column_rule_fault (seen_in_checker_scope l.checker_scope) r.form) l.rules)
