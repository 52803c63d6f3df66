use Rattle.std.proofs.Common.{◌≡◌, ◌++◌, drop, map}
use Rattle.psm_object.specs.Tables.{unique_line}
use Rattle.psm_object.specs.Words.{text}
use Rattle.psm_object.proofs.tables.put_uniques.Given as goal

abbrev pub invariant-loop-columns : goal.invariant-loop-columns
invariant-loop-columns l = l.out.items ++ text (map unique_line (drop l.columns-index l.lists)) ≡ l.fn.out.items ++ text (map unique_line l.lists)
