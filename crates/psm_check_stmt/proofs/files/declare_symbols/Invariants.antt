use Rattle.std.proofs.Common.{◌≡◌, drop}
use Rattle.psm_rules.specs.FileFaults.{with_tables}
use Rattle.psm_check_stmt.proofs.files.declare_symbols.Given as goal

abbrev pub invariant-loop-table : goal.invariant-loop-table
invariant-loop-table l = with_tables l.symbols (drop l.table-index l.table-items) ≡ with_tables l.fn.symbols l.file.tables
