use Rattle.std.proofs.Common.{◌≡◌, ◌++◌, drop, map}
use Rattle.std.specs.Option.{option_copied}
use Rattle.psm_scope.specs.Rows.{columns_known}
use Rattle.psm_rules.specs.StatementFaults.{several, type_of_column}
use Rattle.psm_symbols.proofs.columns.types_of_listed.Given as goal

abbrev pub invariant-loop-name : goal.invariant-loop-name
invariant-loop-name l = l.kinds.items ++ map (type_of_column (columns_known (option_copied l.columns))) (drop l.name-index l.names.rest) ≡ map (type_of_column (columns_known (option_copied l.columns))) (several l.names)
