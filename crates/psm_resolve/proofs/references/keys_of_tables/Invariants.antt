use Rattle.std.proofs.Common.{◌≡◌, ◌++◌, drop}
use Rattle.psm_resolve_expr.specs.Seen.{seen_at}
use Rattle.psm_resolve.specs.Files.{foreign_keys}
use Rattle.psm_resolve.proofs.references.keys_of_tables.Given as goal

abbrev pub invariant-loop-table : goal.invariant-loop-table
invariant-loop-table l = l.keys.items ++ foreign_keys l.resolved (seen_at l.resolver_scope) l.number (drop l.table-index l.tables) ≡ foreign_keys l.resolved (seen_at l.resolver_scope) 0 l.tables
