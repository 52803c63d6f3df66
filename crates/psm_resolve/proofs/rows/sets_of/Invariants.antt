use Rattle.std.proofs.Common.{◌≡◌, ◌++◌, drop, map}
use Rattle.std.specs.Option.{option_copied}
use Rattle.psm_scope.specs.Rows.{columns_known}
use Rattle.psm_rules.specs.StatementFaults.{several}
use Rattle.psm_resolve_expr.specs.Seen.{seen_at}
use Rattle.psm_resolve.specs.Statements.{set_of}
use Rattle.psm_resolve.proofs.rows.sets_of.Given as goal

abbrev pub invariant-loop-assignment : goal.invariant-loop-assignment
invariant-loop-assignment l = l.resolved.items ++ map (set_of (seen_at l.resolver_scope) (columns_known (option_copied l.columns))) (drop l.assignment-index l.assignments.rest) ≡ map (set_of (seen_at l.resolver_scope) (columns_known (option_copied l.columns))) (several l.assignments)
