use Rattle.std.proofs.Common.{◌≡◌, ◌++◌, drop, map}
use Rattle.psm_resolve_expr.specs.Seen.{seen_at}
use Rattle.psm_declare.specs.Seen.{expr_at}
use Rattle.psm_resolve.specs.Statements.{row_of}
use Rattle.psm_resolve.proofs.rows.row_of.Given as goal

abbrev pub invariant-loop-e : goal.invariant-loop-e
invariant-loop-e l = l.resolved.items ++ map (expr_at (seen_at l.resolver_scope)) (drop l.e-index l.row.values.rest) ≡ row_of (seen_at l.resolver_scope) l.row
