use Rattle.std.proofs.Common.{◌≡◌, ◌++◌, drop, map}
use Rattle.psm_rules.specs.StatementFaults.{several}
use Rattle.psm_resolve_expr.specs.Seen.{seen_at}
use Rattle.psm_resolve.specs.Statements.{row_of}
use Rattle.psm_resolve.proofs.rows.listed_rows.Given as goal

abbrev pub invariant-loop-row : goal.invariant-loop-row
invariant-loop-row l = l.resolved.items ++ map (row_of (seen_at l.resolver_scope)) (drop l.row-index l.list.rest) ≡ map (row_of (seen_at l.resolver_scope)) (several l.list)
