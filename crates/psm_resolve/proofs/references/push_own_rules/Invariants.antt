use Rattle.std.proofs.Common.{◌≡◌, ◌++◌, drop}
use Rattle.psm_resolve_expr.specs.Seen.{seen_at}
use Rattle.psm_resolve.specs.Files.{own_references}
use Rattle.psm_resolve.proofs.references.push_own_rules.Given as goal

abbrev pub invariant-loop-rule : goal.invariant-loop-rule
invariant-loop-rule l =
    l.keys.items ++ own_references l.resolved (seen_at l.resolver_scope) l.from l.place (drop l.rule-index l.rules)
    ≡ l.fn.keys.items ++ own_references l.resolved (seen_at l.resolver_scope) l.from l.place l.rules
