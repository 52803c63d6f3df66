use Rattle.std.proofs.Common.{◌≡◌, drop, map}
use Rattle.std.specs.Option.{option_copied}
use Rattle.psm_rules.specs.Faults.{first_from, first_of}
use Rattle.psm_rules.specs.StatementFaults.{column_fault, several}
use Rattle.psm_check_stmt.proofs.statements.unknown_assigned_column.Given as goal

abbrev pub invariant-loop-a : goal.invariant-loop-a
invariant-loop-a l = first_from l.fault (map (column_fault (option_copied l.columns)) (map (λ a. a.column) (drop l.a-index l.assignments.rest))) ≡ first_of (map (column_fault (option_copied l.columns)) (map (λ a. a.column) (several l.assignments)))
