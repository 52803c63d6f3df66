use Rattle.std.proofs.Common.{◌≡◌, ◌++◌, drop}
use Rattle.psm_rules.specs.FileFaults.{table_elements}
use Rattle.psm_resolve_expr.specs.Seen.{seen_at}
use Rattle.psm_resolve.specs.Files.{references_from}
use Rattle.psm_resolve.proofs.references.push_elements.Given as goal

abbrev pub invariant-loop-element : goal.invariant-loop-element
invariant-loop-element l =
    l.keys.items ++ references_from l.resolved (seen_at l.resolver_scope) l.from l.columns l.place (drop l.element-index l.element-items)
    ≡ l.fn.keys.items ++ references_from l.resolved (seen_at l.resolver_scope) l.from l.columns 0 (table_elements l.table)
