use Rattle.std.proofs.Common.{◌≡◌, ◌++◌, drop, map}
use Rattle.psm_object.specs.Tables.{column_line}
use Rattle.psm_object.specs.Words.{text}
use Rattle.psm_object.proofs.tables.put_columns.Given as goal

abbrev pub invariant-loop-column : goal.invariant-loop-column
invariant-loop-column l = l.out.items ++ text (map column_line (drop l.column-index l.columns)) ≡ l.fn.out.items ++ text (map column_line l.columns)
