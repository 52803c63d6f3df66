use Rattle.std.proofs.Common.{◌≡◌, drop}
use Rattle.psm_rules.specs.declared.rule.Rule.TheVariants as rule
use Rattle.psm_rules.specs.FileFaults.{column_names}
use Rattle.psm_rules.specs.StatementFaults.{several}
use Rattle.psm_check_stmt.specs.Listed.{with_names}
use Rattle.psm_check_stmt.proofs.tables.names_fault.Given as goal

abbrev pub invariant-loop-element : goal.invariant-loop-element
invariant-loop-element l = with_names l.names (column_names (drop l.element-index l.element-items)) ≡ record { rule = rule.ColumnRepeated; names = column_names (several l.elements) }
