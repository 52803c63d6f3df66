use Rattle.std.proofs.Common.{◌≡◌, ◌++◌, drop}
use Rattle.psm_resolve_expr.specs.Seen.{seen_at}
use Rattle.psm_resolve.specs.Statements.{arguments_of}
use Rattle.psm_resolve.proofs.calls.arguments_of.Given as goal

abbrev pub invariant-loop-number : goal.invariant-loop-number
invariant-loop-number l = l.resolved.items ++ arguments_of (seen_at l.resolver_scope) (drop l.number l.parameters) (drop l.number l.arguments) ≡ arguments_of (seen_at l.resolver_scope) l.parameters l.arguments
