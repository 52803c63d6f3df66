use Rattle.std.proofs.Common.{◌≡◌, ◌++◌, drop}
use Rattle.psm_rules.specs.FileFaults.{table_elements}
use Rattle.psm_resolve_expr.specs.Seen.{seen_at}
use Rattle.psm_resolve.specs.Files.{checks_of, defined_from, uniques_from}
use Rattle.psm_resolve.proofs.tables.parts_of.Given as goal

abbrev pub invariant-loop-element : goal.invariant-loop-element
invariant-loop-element l =
    (l.parts.columns.items ++ defined_from l.key l.place (drop l.element-index l.element-items) ≡ defined_from l.key 0 (table_elements l.table))
    × (l.parts.unique.items ++ uniques_from l.columns l.place (drop l.element-index l.element-items) ≡ uniques_from l.columns 0 (table_elements l.table))
    × (l.parts.checks.items ++ checks_of (seen_at l.resolver_scope) (drop l.element-index l.element-items) ≡ checks_of (seen_at l.resolver_scope) (table_elements l.table))
