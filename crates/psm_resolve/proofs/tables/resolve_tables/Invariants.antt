use Rattle.std.proofs.Common.{◌≡◌, ◌++◌, drop, map}
use Rattle.psm_resolve.specs.Files.{resolve_table}
use Rattle.psm_resolve.proofs.tables.resolve_tables.Given as goal

abbrev pub invariant-loop-table : goal.invariant-loop-table
invariant-loop-table l = l.resolved.items ++ map resolve_table (drop l.table-index l.tables) ≡ map resolve_table l.tables
