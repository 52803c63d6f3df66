use Rattle.std.proofs.Common.{◌≡◌, ◌++◌, drop}
use Rattle.psm_resolve_expr.specs.Seen.{seen_at}
use Rattle.psm_resolve.specs.Files.{own_checks, own_uniques}
use Rattle.psm_resolve.proofs.tables.push_own_rules.Given as goal

abbrev pub invariant-loop-rule : goal.invariant-loop-rule
invariant-loop-rule l = (l.parts.columns.items ≡ l.fn.parts.columns.items)
    × (l.parts.unique.items ++ own_uniques l.place (drop l.rule-index l.rules) ≡ l.fn.parts.unique.items ++ own_uniques l.place l.rules)
    × (l.parts.checks.items ++ own_checks (seen_at l.resolver_scope) (drop l.rule-index l.rules) ≡ l.fn.parts.checks.items ++ own_checks (seen_at l.resolver_scope) l.rules)
