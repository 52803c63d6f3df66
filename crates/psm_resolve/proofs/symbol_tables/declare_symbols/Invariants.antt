use Rattle.std.proofs.Common.{◌≡◌, drop}
use Rattle.psm_resolve.specs.SymbolTables.{with_known_tables}
use Rattle.psm_resolve.proofs.symbol_tables.declare_symbols.Given as goal

abbrev pub invariant-loop-table : goal.invariant-loop-table
invariant-loop-table l = with_known_tables l.symbols (drop l.table-index l.table-items) ≡ with_known_tables l.fn.symbols l.file.tables
