use Rattle.std.proofs.Common.{◌≡◌, ◌++◌, drop, map}
use Rattle.psm_code.specs.Instructions.{column_letters}
use Rattle.psm_script_code.proofs.known.columns_of.Given as goal

abbrev pub invariant-loop-table : goal.invariant-loop-table
invariant-loop-table l = l.letters.items ++ map column_letters (drop l.table-index l.tables) ≡ map column_letters l.tables
