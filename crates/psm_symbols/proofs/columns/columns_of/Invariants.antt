use Rattle.std.proofs.Common.{◌≡◌, drop}
use Rattle.psm_rules.specs.FileFaults.{columns_from, columns_of, table_elements}
use Rattle.psm_symbols.proofs.columns.columns_of.Given as goal

abbrev pub invariant-loop-element : goal.invariant-loop-element
invariant-loop-element l = columns_from l.columns (drop l.element-index l.element-items) ≡ columns_of (table_elements l.table)
