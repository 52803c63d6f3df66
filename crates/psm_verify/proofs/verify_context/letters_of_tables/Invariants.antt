use Rattle.std.proofs.Common.{◌≡◌, take, map}
use Rattle.psm_code.specs.Instructions.{column_letters}
use Rattle.psm_verify.proofs.verify_context.letters_of_tables.Given as goal

abbrev pub invariant-loop-table : goal.invariant-loop-table
invariant-loop-table l = l.letters.items ≡ map column_letters (take l.table-index l.tables)
