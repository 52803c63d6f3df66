use Rattle.std.proofs.Common.{◌≡◌, drop, map}
use Rattle.std.specs.Option.{option_copied}
use Rattle.psm_rules.specs.Faults.{first_from, first_of}
use Rattle.psm_rules.specs.StatementFaults.{column_fault, several}
use Rattle.psm_symbols.proofs.columns.unknown_column.Given as goal

abbrev pub invariant-loop-name : goal.invariant-loop-name
invariant-loop-name l = first_from l.fault (map (column_fault (option_copied l.columns)) (drop l.name-index l.names.rest)) ≡ first_of (map (column_fault (option_copied l.columns)) (several l.names))
