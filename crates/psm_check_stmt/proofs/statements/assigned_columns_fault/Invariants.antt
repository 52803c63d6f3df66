use Rattle.std.proofs.Common.{◌≡◌, drop, map}
use Rattle.psm_rules.specs.declared.rule.Rule.TheVariants.{ColumnRepeated}
use Rattle.psm_rules.specs.StatementFaults.{several}
use Rattle.psm_check_stmt.specs.Listed.{with_names}
use Rattle.psm_check_stmt.proofs.statements.assigned_columns_fault.Given as goal

abbrev pub invariant-loop-a : goal.invariant-loop-a
invariant-loop-a l = with_names l.repeats (map (λ a. a.column) (drop l.a-index l.assignments.rest)) ≡ record { rule = ColumnRepeated; names = map (λ a. a.column) (several l.assignments) }
