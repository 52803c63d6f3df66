use Rattle.std.proofs.Common.{◌≡◌, ◌++◌, drop, map}
use Rattle.std.specs.Option.{option_copied}
use Rattle.psm_scope.specs.Rows.{columns_known}
use Rattle.psm_rules.specs.StatementFaults.{several}
use Rattle.psm_symbols.specs.Columns.{column_of}
use Rattle.psm_symbols.proofs.columns.places_of.Given as goal

abbrev pub invariant-loop-name : goal.invariant-loop-name
invariant-loop-name l = l.places.items ++ map (column_of (columns_known (option_copied l.columns))) (drop l.name-index l.names.rest) ≡ map (column_of (columns_known (option_copied l.columns))) (several l.names)
