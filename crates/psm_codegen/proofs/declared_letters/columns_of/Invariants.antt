use Rattle.std.proofs.Common.{◌≡◌, take, map}
use Rattle.psm_exprgen.specs.Queries.{column_letters}
use Rattle.psm_codegen.proofs.declared_letters.columns_of.Given as goal

abbrev pub invariant-loop-table : goal.invariant-loop-table
invariant-loop-table l = l.letters.items ≡ map column_letters (take l.table-index l.table-items)
